-- The stages of the compiler, one after another.
use mathlib.Core.Path.{◌≡◌, refl, sym, ap, subst, ◌∙◌}
use mathlib.Core.Bool.{Bool, true, false}
use mathlib.Core.List.{List, [], ◌∷◌, ◌++◌}
use Prim.Native.Nat.{ℕ, ◌<◌, ◌≤◌}
use native.Mathlib.Omega.{arith}
use lib.ListN.{length}
use Rattle.basics.specs.Limits.{register_limit, field_limit}
use Rattle.std.specs.Prelude.{if◌then◌else◌}
use Rattle.lex.specs.Words.{words_verdict}
use Rattle.parts.specs.Reading.{Parsed, ok, stop}
use Rattle.parts.specs.declared.Name.{Name}
use Rattle.basics.specs.Judged.{first_of, Judged, fault, fine, onward, found, Verdict, Accepted, Refused}
use Rattle.syntax.specs.Tree.{Body}
use Rattle.syntax.specs.Grammar.{file_at}
use Rattle.components.specs.declared.Component.{Component}
use Rattle.cells.specs.Cells.{component_in, name_in}
use Rattle.cells.specs.Definitions.{definition_of}
use Rattle.rules.specs.Judge.{Meaning, judge}
use Rattle.rules.specs.Rules.{after_words, after_sentences, ruled, ruled_as, Held, held_all}
use Rattle.definition_laws.proofs.Sensible.{judge_sensible}
use Rattle.rows.specs.Rows.{Entry, Tables, Map, register_table, path_table, field_table, label_table, tables, tables_of}
use Rattle.row_laws.specs.Sound.{fields_in}
use Rattle.layout.specs.Layout.{mode_of}
use Rattle.sizes.specs.declared.Extent.{Extent}
use Rattle.sizes.specs.Ready.{known, Ready}
use Rattle.sizes.specs.Shapes.{shape_cells, all_shapes}
use Rattle.sizes.proofs.Laws.{shapes_stored}
use Rattle.recall.specs.Shelves.{recall_size}
use Rattle.recall.specs.Kept.{kept_long}
use Rattle.recall.proofs.Keeping.{Shelving, shapes_stay}
use Rattle.recall.proofs.Kept.{long_kept}
use Rattle.map_rules.specs.Whole.{too_many, too_close, misplaced, overlapping, map_shapes, map_visits, map_fault}
use Rattle.map_walk.specs.declared.Counts.{Counts}
use Rattle.register_log.specs.Log.{log_size}
use Rattle.map_walk.specs.Walks.{Shaped, elements_of, registers_of, survey_fault, survey_of, logged_in}
use Rattle.map_walk.proofs.Surveys.{FineSurvey, survey_fault_lem, survey_fine}
use Rattle.overlaps.specs.Charted.{Charted}
use Rattle.row_writer.specs.Entries.{bytes_in}
use Rattle.row_writer.specs.Writes.{entries_in}
use Rattle.compile.proofs.Counts.{entries_counted, fields_among_lem}
use Rattle.compile.specs.Compiled.{map_of, mapped, compiled, is_short, answered, lent_after, compiled_numbers, answered_numbers}
use Rattle.compile.specs.Stages.{meaning_in, Filed, FiledIn, Charts, charts_fault, charts_fine}

-- a refusal is answered, and nothing lent changes
module _ (lent : Tables) {j : Judged Map} {n p : ℕ} (e : j ≡ fault n p) where
  pub refused_answer : fault n p ≡ answered lent j
  unfolding answered
  refused_answer = ap (answered lent) (sym e)

  pub refused_lent : lent ≡ lent_after lent j
  unfolding lent_after
  refused_lent = ap (lent_after lent) (sym e)

-- an answer and the tables, with the answer in document 01's numbers
pub compiled_told : (lent : Tables) (j : Judged Map) {r : Judged Counts} {u : Tables} → r ≡ answered lent j → u ≡ lent_after lent j
    → (r ≡ answered lent j) × ((u ≡ lent_after lent j) × (compiled_numbers r ≡ answered_numbers lent j))
unfolding answered
compiled_told lent j e f = (e, (f, ap compiled_numbers e ∙ by j))
  where
    counted : (b : Bool) (m : Map) → compiled_numbers (if b then fault 22 0 else fine (record { registers = length m.entries; fields = fields_in m.entries }))
        ≡ (if b then (22 ∷ 0 ∷ 0 ∷ 0 ∷ []) else (0 ∷ 0 ∷ length m.entries ∷ fields_in m.entries ∷ []))
    counted true m = refl
    counted false m = refl

    by : (k : Judged Map) → compiled_numbers (answered lent k) ≡ answered_numbers lent k
    by (fault n p) = refl
    by (fine m) = counted (is_short lent (tables_of m)) m

-- what a ruled text was
pub record Parsing (text : List ℕ) (m : Meaning) : Type 0 where
  pub tree : Body
  pub end : ℕ
  pub parsed : file_at text ≡ ok tree end
  pub judged : judge text tree ≡ fine m

pub parsing_of : (text : List ℕ) {m : Meaning} → ruled text ≡ fine m → Parsing text m
unfolding ruled
parsing_of text {m} e = worded (words_verdict text) e
  where
    read : (x : Parsed Body) → file_at text ≡ x → after_sentences text x ≡ fine m → Parsing text m
    read (ok b n) q j = record { tree = b; end = n; parsed = q; judged = j }
    read (stop n p) q j = cc

    worded : (v : Verdict) → after_words v (after_sentences text (file_at text)) ≡ fine m → Parsing text m
    worded Accepted j = read (file_at text) refl j
    worded (Refused n p) j = cc

-- the rules stage
module _ (text t : List ℕ) (r : Judged (ℕ × ℕ)) (e : ruled_as text t r ≡ ruled text) where
  pub compiled_fault : {m p : ℕ} → r ≡ fault m p → compiled text ≡ fault m p
  unfolding compiled onward
  compiled_fault f = ap (λ (j : Judged Meaning). onward j (mapped text)) (sym e ∙ ap (ruled_as text t) f)

  module _ {row closed : ℕ} (f : r ≡ fine (row, closed)) where
    ruled-map : ruled text ≡ fine (meaning_in text t row closed)
    ruled-map = sym e ∙ ap (ruled_as text t) f

    pub compiled-map : compiled text ≡ mapped text (meaning_in text t row closed)
    unfolding compiled mapped onward
    compiled-map = ap (λ (j : Judged Meaning). onward j (mapped text)) ruled-map

    pub filed_map : Held text t r → Filed text t row closed
    filed_map h = by (subst (Held text t) f h)
      where
        by : Held text t (fine (row, closed)) → Filed text t row closed
        by (held_all few holds) =
            let q = parsing_of text ruled-map in
            record { few = few; holds = holds; sensible = judge_sensible text q.tree q.judged; tree = q.tree; end = q.end; parsed = q.parsed }

-- the whole map's faults, those of the survey first
first_regrouped : (a b c d : Verdict) → first_of a (first_of b (first_of c d)) ≡ first_of (first_of a (first_of b c)) d
first_regrouped (Refused n p) b c d = refl
first_regrouped Accepted (Refused n p) c d = refl
first_regrouped Accepted Accepted c d = refl

first_sound : {a : Verdict} (b : Verdict) → a ≡ Accepted → first_of a b ≡ b
first_sound b e = ap (λ (x : Verdict). first_of x b) e

first_broken : {a : Verdict} (b : Verdict) {n p : ℕ} → a ≡ Refused n p → first_of a b ≡ Refused n p
first_broken b e = ap (λ (x : Verdict). first_of x b) e

-- the map of the cells, in its mode
abbrev in_mode : Extent → ℕ → Extent
in_mode e k = record { rows = e.rows; map = e.map; mode = k }

abbrev meaning : List ℕ → List ℕ → Extent → Meaning
meaning text t e = meaning_in text t e.map e.rows

module _ (text t : List ℕ) (row closed : ℕ) (f : Filed text t row closed) where
  pub row_low : row < closed
  row_low = omega (arith, f.sensible.low, f.holds.count)

  pub filed_in : {c : Component} {mode : ℕ} → c ≡ component_in t row → mode ≡ mode_of c → FiledIn text t (record { rows = closed; map = row; mode = mode })
  filed_in e q = record { filed = f; mode = q ∙ ap mode_of e }

module _ (text t : List ℕ) (e : Extent) (g : FiledIn text t e) where
  pub map_low : e.map < e.rows
  map_low = row_low text t e.map e.rows g.filed

  pub is_ready : Ready text t e
  is_ready = record { few = g.filed.few; holds = g.filed.holds; sensible = g.filed.sensible.table }

  -- the shapes in the cells, and the long instances on the shelves
  pub shaped : {s u : List ℕ} (rest : List ℕ) → s ≡ shape_cells (all_shapes text t e) ++ rest → recall_size ≤ length s → u ≡ kept_long text t s e
      → Shaped text t u e
  shaped {s} {u} rest f l q =
      let k : Shelving text s u = subst (Shelving text s) (sym q) (long_kept text t s e l) in
      record { ready = is_ready; shapes = shapes_stay g.filed.few k.stay (shapes_stored text t e is_ready rest f); kept = k.shelved }

  mode_is : mode_of (definition_of (known text t e) e.map).component ≡ e.mode
  mode_is = sym (g.mode ∙ ap mode_of (g.filed.holds.each e.map map_low).component)

  fault_of_lem : map_fault (meaning text t e) ≡ first_of (survey_fault (known text t e) (all_shapes text t e) (elements_of text t e e.map)) (overlapping (known text t e) (all_shapes text t e) [] (elements_of text t e e.map))
  unfolding map_fault
  fault_of_lem =
      let m = meaning text t e in
      subst
      (λ (k : ℕ). map_fault (meaning text t e)
      ≡ first_of (survey_fault (known text t (in_mode e k)) (all_shapes text t (in_mode e k)) (elements_of text t (in_mode e k) e.map))
      (overlapping (known text t (in_mode e k)) (all_shapes text t (in_mode e k)) [] (elements_of text t (in_mode e k) e.map)))
      mode_is
      (first_regrouped (too_many m.table 0 0 (map_visits m)) (too_close (map_visits m)) (misplaced m.table (map_shapes m) (map_visits m)) (overlapping m.table (map_shapes m) [] (map_visits m)))

  mapped-broken : {n p : ℕ} → map_fault (meaning text t e) ≡ Refused n p → mapped text (meaning text t e) ≡ fault n p
  unfolding mapped
  mapped-broken z = ap (λ (x : Verdict). found x (fine (map_of text (meaning text t e)))) z

  mapped-sound : map_fault (meaning text t e) ≡ Accepted → mapped text (meaning text t e) ≡ fine (map_of text (meaning text t e))
  unfolding mapped
  mapped-sound z = ap (λ (x : Verdict). found x (fine (map_of text (meaning text t e)))) z

  -- the survey
  module _ {s : Judged Counts} (v : s ≡ survey_of text t e e.map) where
    pub survey_refuses : {n p : ℕ} → s ≡ fault n p → {shapes log : List ℕ} → Charts text t shapes log e (fault n p)
    survey_refuses z = charts_fault (mapped-broken (fault_of_lem ∙ first_broken _ (survey_fault_lem text t e e.map (sym z ∙ v))))

    module _ (before : List ℕ) {log : List ℕ} (l : log ≡ logged_in text t before e e.map) (long : log_size ≤ length before) {counts : Counts} (z : s ≡ fine counts) where
      fine_survey : FineSurvey text t log e e.map counts.registers counts.fields
      fine_survey = survey_fine text t e e.map before (sym z ∙ v) long l

      pub survey_charts : {shapes : List ℕ} → Shaped text t shapes e → Charted text t shapes log e e.map × (counts.registers ≡ length (registers_of text t e e.map))
      survey_charts h =
          let f = fine_survey in
          (record { shaped = h; low = map_low; logs = f.logs; few = omega (arith, f.registers_are, f.registers_few); sound = f.sound }, f.registers_are)

      -- 21
      module _ {o : Verdict} (y : o ≡ overlapping (known text t e) (all_shapes text t e) [] (elements_of text t e e.map)) where
        overlap_last : map_fault (meaning text t e) ≡ o
        overlap_last = fault_of_lem ∙ first_sound _ fine_survey.sound ∙ sym y

        pub overlap_refuses : {n p : ℕ} → o ≡ Refused n p → {shapes : List ℕ} → Charts text t shapes log e (fault n p)
        overlap_refuses w = charts_fault (mapped-broken (overlap_last ∙ w))

        pub overlap_passes : o ≡ Accepted → {shapes : List ℕ} → Shaped text t shapes e → Charts text t shapes log e (fine counts)
        overlap_passes w h =
            let f = fine_survey in
            charts_fine (mapped-sound (overlap_last ∙ w)) (survey_charts h).0 f.registers_are f.registers_few f.fields_are f.fields_few

  -- the rows that are written
  same_entries : (map_of text (meaning text t e)).entries ≡ entries_in text t e e.map
  same_entries = subst (λ (k : ℕ). (map_of text (meaning text t e)).entries ≡ entries_in text t (in_mode e k) e.map) mode_is refl

  pub map-tables : tables_of (map_of text (meaning text t e))
      ≡ tables (register_table 0 (entries_in text t e e.map)) (path_table (bytes_in text (name_in t e.map)) (entries_in text t e e.map)) (field_table (entries_in text t e e.map)) (label_table (entries_in text t e e.map))
  map-tables =
      ap (λ (n : Name). tables_of (record { name = bytes_in text n; entries = (map_of text (meaning text t e)).entries })) (sym (g.filed.holds.each e.map map_low).name)
      ∙ ap (λ (es : List Entry). tables_of (record { name = bytes_in text (name_in t e.map); entries = es })) same_entries

  -- what was charted
  pub record Chart (s log : List ℕ) (counts : Counts) : Type 0 where
    pub fine_map : mapped text (meaning text t e) ≡ fine (map_of text (meaning text t e))
    pub charted : Charted text t s log e e.map
    pub same : counts.registers ≡ length (registers_of text t e e.map)
    pub few : (counts.registers ≤ register_limit) × (counts.fields ≤ field_limit)
    pub entries : counts.registers ≡ length (map_of text (meaning text t e)).entries
    pub counted : counts.fields ≡ fields_in (map_of text (meaning text t e)).entries

  pub chart_of : {s log : List ℕ} {counts : Counts} → Charts text t s log e (fine counts) → Chart s log counts
  chart_of (charts_fine x k a b c d) =
      record {
        fine_map = x;
        charted = k;
        same = a;
        few = (b, d);
        entries = a ∙ sym (entries_counted text (known text t e) (registers_of text t e e.map)) ∙ ap length (sym same_entries);
        counted = c ∙ fields_among_lem text (known text t e) g.filed.sensible.table (elements_of text t e e.map) ∙ ap fields_in (sym same_entries);
      }

pub chart_refused : {text t s log : List ℕ} {e : Extent} {n p : ℕ} → Charts text t s log e (fault n p) → mapped text (meaning_in text t e.map e.rows) ≡ fault n p
chart_refused (charts_fault z) = z
