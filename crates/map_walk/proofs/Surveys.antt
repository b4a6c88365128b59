-- The whole map: what is answered after a walk over it, and what this answer says.
use mathlib.Core.Path.{◌≡◌, refl, sym, ap, ◌∙◌}
use mathlib.Core.List.{List, []}
use Prim.Native.Nat.{ℕ, suc, ◌≤◌}
use native.Mathlib.Omega.{arith}
use lib.ListN.{length, replicate}
use Rattle.basics.specs.Judged.{first_of, Verdict, Accepted, Refused, Judged, fine, fault}
use Rattle.components.proofs.Laws.{first_sound}
use Rattle.cells.specs.Definitions.{Definition}
use Rattle.capped.proofs.Laws.{cut_low}
use Rattle.layout.specs.declared.Shape.{Shape}
use Rattle.layout.specs.Layout.{bottom}
use Rattle.basics.specs.Limits.{nest_limit, register_limit, field_limit}
use Rattle.map_rules.specs.Visits.{Visit}
use Rattle.map_rules.specs.Whole.{too_many, too_close, misplaced, fields_among}
use Rattle.sizes.specs.declared.Extent.{Extent}
use Rattle.sizes.specs.Ready.{known}
use Rattle.sizes.specs.Shapes.{all_shapes}
use Rattle.map_walk.specs.declared.Counts.{Counts}
use Rattle.rows.specs.Rows.{padded}
use Rattle.register_log.specs.Log.{log_size}
use Rattle.map_walk.specs.Runs.{Total, nothing_tallied}
use Rattle.map_walk.specs.Walks.{Small, ContentWalks, MapWalks, Logs, elements_of, registers_of, survey_fault, survey_answer, survey_of, logged_in}
use Rattle.map_walk.proofs.Runs.{run_small}
use Rattle.map_walk.proofs.Trails.{trails_none}
use Rattle.map_walk.proofs.Whole.{run_many, Sums, run_sums, logged_logs, RunsOut, few_run}

pub start_small : Small (record { registers = 0; fields = 0; close = Accepted; misplaced = Accepted })
start_small = record { registers = omega arith; fields = omega arith }

-- the answer to the first fault
answer_to : (text t : List ℕ) (e : Extent) (row : ℕ) {f : Verdict} → survey_fault (known text t e) (all_shapes text t e) (elements_of text t e row) ≡ f
    → survey_answer f (length (registers_of text t e row)) (fields_among (known text t e) (elements_of text t e row)) ≡ survey_of text t e row
answer_to text t e row q = ap (λ (f : Verdict). survey_answer f (length (registers_of text t e row)) (fields_among (known text t e) (elements_of text t e row))) (sym q)

module _ (text t before : List ℕ) (e : Extent) (row : ℕ) {after : List ℕ} {r : Judged Total} where
  pub map-walked : ContentWalks text t before after e (suc nest_limit) row (record { 0 = 0 }) (record { depth = 0; steps = replicate nest_limit 0 }) nothing_tallied r → MapWalks text t before after e row r
  unfolding padded
  map-walked w = record { walks = w.each [] bottom (trails_none refl refl) (ap (λ (n : ℕ). record { 0 = n }) (sym (cut_low 0 (omega arith)))) }

  module _ (w : MapWalks text t before after e row r) where
    pub survey_many : {n p : ℕ} → r ≡ fault n p → (fault n p ≡ survey_of text t e row) × (after ≡ logged_in text t before e row)
    survey_many {n} {p} q = (
      answer_to text t e row
          (ap (λ (f : Verdict). first_of f (first_of (too_close (elements_of text t e row)) (misplaced (known text t e) (all_shapes text t e) (elements_of text t e row))))
          (run_many (known text t e) (all_shapes text t e) nothing_tallied (elements_of text t e row) (w.walks.runs ∙ q))),
      w.walks.logs,
    )

    module _ {u : Total} (q : r ≡ fine u) where
      sums : Sums (known text t e) (all_shapes text t e) nothing_tallied (elements_of text t e row) u
      sums = run_sums (known text t e) (all_shapes text t e) nothing_tallied (elements_of text t e row) (w.walks.runs ∙ q)

      faults : survey_fault (known text t e) (all_shapes text t e) (elements_of text t e row) ≡ first_of u.close u.misplaced
      faults =
          ap (λ (f : Verdict). first_of f (first_of (too_close (elements_of text t e row)) (misplaced (known text t e) (all_shapes text t e) (elements_of text t e row)))) sums.many
          ∙ ap (λ (f : Verdict). first_of f (misplaced (known text t e) (all_shapes text t e) (elements_of text t e row))) (sym sums.close)
          ∙ ap (first_of u.close) (sym sums.misplaced)

      pub survey_broken : {n p : ℕ} → first_of u.close u.misplaced ≡ Refused n p → (fault n p ≡ survey_of text t e row) × (after ≡ logged_in text t before e row)
      survey_broken h = (answer_to text t e row (faults ∙ h), w.walks.logs)

      pub survey_sound : first_of u.close u.misplaced ≡ Accepted → (fine (record { registers = u.registers; fields = u.fields }) ≡ survey_of text t e row) × (after ≡ logged_in text t before e row)
      survey_sound h =
          let a : u.registers ≡ length (registers_of text t e row) = omega (arith, sums.registers) in
          let b : u.fields ≡ fields_among (known text t e) (elements_of text t e row) = omega (arith, sums.fields) in
          let c : fine (record { registers = u.registers; fields = u.fields }) ≡ survey_answer Accepted (length (registers_of text t e row)) (fields_among (known text t e) (elements_of text t e row)) = rw (a, b) in
          (c ∙ answer_to text t e row (faults ∙ h), w.walks.logs)

-- what an answer says of the map
fault_of_lem : (f : Verdict) (registers fields : ℕ) {n p : ℕ} → fault n p ≡ survey_answer f registers fields → f ≡ Refused n p
fault_of_lem Accepted registers fields e = absurd cc
fault_of_lem (Refused m q) registers fields {n = n} {p = p} e = let a : m ≡ n = cc in let b : q ≡ p = cc in rw (a, b)

fine_of : (f : Verdict) (registers fields : ℕ) {counts : Counts} → fine counts ≡ survey_answer f registers fields → (f ≡ Accepted) × (counts.registers ≡ registers) × (counts.fields ≡ fields)
fine_of Accepted registers fields {counts} e =
    let c : counts ≡ record { registers = registers; fields = fields } = cc in
    (refl, ap (λ (n : Counts). n.registers) c, ap (λ (n : Counts). n.fields) c)
fine_of (Refused m q) registers fields e = absurd cc

-- a map that keeps 18, 19 and 20: its registers and fields are counted, not too many, and its registers are in the log
pub record FineSurvey (text t after : List ℕ) (e : Extent) (row registers fields : ℕ) : Type 0 where
  pub sound : survey_fault (known text t e) (all_shapes text t e) (elements_of text t e row) ≡ Accepted
  pub registers_are : registers ≡ length (registers_of text t e row)
  pub registers_few : registers ≤ register_limit
  pub fields_are : fields ≡ fields_among (known text t e) (elements_of text t e row)
  pub fields_few : fields ≤ field_limit
  pub logs : Logs after (registers_of text t e row)

module _ (text t : List ℕ) (e : Extent) (row : ℕ) where
  pub survey_fault_lem : {n p : ℕ} → fault n p ≡ survey_of text t e row → survey_fault (known text t e) (all_shapes text t e) (elements_of text t e row) ≡ Refused n p
  survey_fault_lem q =
      fault_of_lem (survey_fault (known text t e) (all_shapes text t e) (elements_of text t e row)) (length (registers_of text t e row)) (fields_among (known text t e) (elements_of text t e row)) q

  pub survey_fine : (before : List ℕ) {after : List ℕ} {counts : Counts} → fine counts ≡ survey_of text t e row → log_size ≤ length before → after ≡ logged_in text t before e row
      → FineSurvey text t after e row counts.registers counts.fields
  survey_fine before q long g =
      let table : List Definition = known text t e in
      let shapes : List Shape = all_shapes text t e in
      let vs : List Visit = elements_of text t e row in
      let (f, a, b) = fine_of (survey_fault table shapes vs) (length (registers_of text t e row)) (fields_among table vs) q in
      let k : RunsOut table shapes nothing_tallied vs = few_run table shapes nothing_tallied vs (first_sound (too_many table 0 0 vs) (first_of (too_close vs) (misplaced table shapes vs)) f) in
      let small : Small k.tally = run_small table shapes nothing_tallied vs start_small k.runs in
      let sums : Sums table shapes nothing_tallied vs k.tally = run_sums table shapes nothing_tallied vs k.runs in
      record {
        sound = f;
        registers_are = a;
        registers_few = omega (arith, a, sums.registers, small.registers);
        fields_are = b;
        fields_few = omega (arith, b, sums.fields, small.fields);
        logs = logged_logs table shapes before vs k.runs (omega (arith, sums.registers, small.registers, long)) g;
      }
