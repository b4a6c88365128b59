-- One element without its content.
use mathlib.Core.Path.{◌≡◌, refl, sym, ap, ◌∙◌}
use mathlib.Core.Bool.{Bool, true, false, ◌||◌, not}
use mathlib.Core.List.{List, [], ◌∷◌}
use Prim.Native.Nat.{ℕ, suc, ◌+◌, ◌*◌, ◌%◌, ◌≤◌, ◌<◌}
use native.Mathlib.Omega.{arith}
use lib.Dec.{eqb, ltb}
use lib.ListN.{length}
use borrow.Author.Tests.{lt-ltb, le-ltb, ltb-true, ltb-false}
use Rattle.std.specs.Prelude.{if◌then◌else◌, Option}
use Rattle.basics.specs.Judged.{first_of, fine, unless, Verdict, Accepted, Refused, Judged, fault}
use Rattle.fields.specs.declared.Offset.{Offset}
use Rattle.basics.specs.Slices.{written}
use Rattle.cells.specs.Definitions.{Definition, definition_of}
use Rattle.register_log.specs.Log.{log_width}
use Rattle.capped.specs.Offsets.{cap, cut}
use Rattle.capped.proofs.Laws.{cut_low, cut_high}
use Rattle.layout.specs.declared.Shape.{Shape}
use Rattle.layout.specs.Layout.{shape_at, cut_shape, cut_offset}
use Rattle.basics.specs.Limits.{nest_limit, register_limit, field_limit, address_end}
use Rattle.map_rules.specs.Visits.{PathStep, Visit}
use Rattle.map_rules.specs.Whole.{is_register_visit, too_close, misplaced}
use Rattle.map_walk.specs.declared.Element.{Element}
use Rattle.map_walk.specs.Runs.{Total, is_too_many, tallied, run, log_row, logged_one, logged}
use Rattle.map_walk.specs.Walks.{Small, Walks, close_fault, place_fault, visit_of}
use Rattle.map_walk.proofs.Runs.{logged_step}

pub close_same : (x : Element) (path : List PathStep) (index : Option ℕ) (address : Offset) → close_fault x ≡ too_close (visit_of x path index address ∷ [])
unfolding close_fault too_close
close_same x path index address = refl

or_true : (b : Bool) {c : Bool} → c ≡ true → (b || c) ≡ true
or_true true e = refl
or_true false e = e

-- 20, from numbers cut at the cap: an address that is not below the cap is above every limit
place_tests : (address : ℕ) (s : Shape) → s.size < cap → s.access < cap
    → (not (eqb (cut address % cut s.access) 0) || ltb address_end (cut address + cut s.size)) ≡ (not (eqb (address % s.access) 0) || ltb address_end (address + s.size))
place_tests address s g h = by (ltb address cap) refl
  where
    by : (b : Bool) → ltb address cap ≡ b
        → (not (eqb (cut address % cut s.access) 0) || ltb address_end (cut address + cut s.size)) ≡ (not (eqb (address % s.access) 0) || ltb address_end (address + s.size))
    by true e = rw (cut_low address (ltb-true address cap e), cut_low s.access h, cut_low s.size g)
    by false e =
        let l : cap ≤ address = ltb-false address cap e in
        let z : cut address ≡ cap = cut_high address l in
        or_true (not (eqb (cut address % cut s.access) 0)) (lt-ltb address_end (cut address + cut s.size) (omega (arith, z)))
        ∙ sym (or_true (not (eqb (address % s.access) 0)) (lt-ltb address_end (address + s.size) (omega (arith, l))))

pub place_same : (table : List Definition) (shapes : List Shape) (x : Element) {s : Shape} (path : List PathStep) (index : Option ℕ) (address : Offset)
    → is_register_visit table (visit_of x path index address) ≡ true → (shape_at shapes x.row).size < cap → (shape_at shapes x.row).access < cap
    → x.address ≡ cut_offset address → s ≡ cut_shape (shape_at shapes x.row) → place_fault x s ≡ misplaced table shapes (visit_of x path index address ∷ [])
unfolding place_fault misplaced
place_same table shapes x path index address r g h e f =
    rw (r, e, f) (ap (λ (b : Bool). if b then Refused 20 x.name.start else Accepted) (place_tests address.0 (shape_at shapes x.row) g h))

-- nothing behind a fault
pub first_none : (a : Verdict) → first_of a Accepted ≡ a
first_none Accepted = refl
first_none (Refused n p) = refl

module _ (table : List Definition) (shapes : List Shape) (log : List ℕ) (t : Total) (v : Visit) where
  -- 18: nothing is logged
  many_stops : is_too_many table t v ≡ true → (vs : List Visit) → Walks table shapes log log t (v ∷ vs) (fault 18 v.name.start)
  unfolding run logged unless
  many_stops e vs = record { runs = rw e; logs = rw e }

  -- a path that is too long
  pub deep_stops : nest_limit < length v.path → (vs : List Visit) → Walks table shapes log log t (v ∷ vs) (fault 18 v.name.start)
  unfolding is_too_many
  deep_stops h vs = many_stops (rw (lt-ltb nest_limit (length v.path) h)) vs

  -- the log with an element that is not too many
  one_logged : is_too_many table t v ≡ false → logged table shapes log t (v ∷ []) ≡ logged_one table log t v
  unfolding logged
  one_logged e = logged_step table shapes log t v [] e

  module _ (h : length v.path ≤ nest_limit) where
    run_one : (b : Bool) {u : Total} → is_too_many table t v ≡ b → tallied table shapes t v ≡ u → run table shapes t (v ∷ []) ≡ unless b 18 v.name.start (fine u)
    unfolding run
    run_one b e f = rw (e, f)

    pub group_on : {r : Judged Total} {close : Verdict} → is_register_visit table v ≡ false → Small t → close ≡ too_close (v ∷ [])
        → r ≡ fine (record { registers = t.registers; fields = t.fields; close = first_of t.close close; misplaced = t.misplaced }) → Walks table shapes log log t (v ∷ []) r
    unfolding is_too_many tallied misplaced unless
    group_on {close = close} g s c e =
        let few : is_too_many table t v ≡ false =
        rw (le-ltb nest_limit (length v.path) h, g, le-ltb register_limit t.registers s.registers, le-ltb field_limit t.fields s.fields) in
        let u : Total = record { registers = t.registers; fields = t.fields; close = first_of t.close close; misplaced = t.misplaced } in
        let same : tallied table shapes t v ≡ u = rw (g, c, first_none t.misplaced) in
        rw e (record { runs = run_one false few same; logs = sym (one_logged few ∙ ap (λ (b : Bool). if b then written log (t.registers * log_width) (log_row v) else log) g) })

  module _ (g : is_register_visit table v ≡ true) where
    pub register_many : register_limit ≤ t.registers → Walks table shapes log log t (v ∷ []) (fault 18 v.name.start)
    unfolding is_too_many
    register_many m = many_stops (rw (g, lt-ltb register_limit (suc t.registers) (omega arith), or_true (ltb nest_limit (length v.path)) {c = true} refl)) []

    module _ {fields : ℕ} (f : fields ≡ t.fields + length (definition_of table v.type).instances) where
      pub register_fields : field_limit < fields → Walks table shapes log log t (v ∷ []) (fault 18 v.name.start)
      unfolding is_too_many
      register_fields m =
          let e : (ltb nest_limit (length v.path) || (ltb register_limit (suc t.registers) || ltb field_limit (t.fields + length (definition_of table v.type).instances))) ≡ true =
          or_true (ltb nest_limit (length v.path)) (or_true (ltb register_limit (suc t.registers)) (rw (← f) (lt-ltb field_limit fields m))) in
          many_stops (rw (g, e)) []

      pub register_on : length v.path ≤ nest_limit → t.registers < register_limit → fields ≤ field_limit → {after : List ℕ} {r : Judged Total} {close place : Verdict} {n : ℕ}
          → after ≡ written log (t.registers * log_width) (log_row v) → close ≡ too_close (v ∷ []) → place ≡ misplaced table shapes (v ∷ [])
          → n ≡ t.registers + 1 → r ≡ fine (record { registers = n; fields = fields; close = first_of t.close close; misplaced = first_of t.misplaced place })
          → Walks table shapes log after t (v ∷ []) r
      unfolding is_too_many tallied unless
      register_on h m k {after = after} {close = close} {place = place} {n = n} w c d o e =
          let k' : t.fields + length (definition_of table v.type).instances ≤ field_limit = rw (← f) k in
          let few : is_too_many table t v ≡ false =
          rw (le-ltb nest_limit (length v.path) h, g, le-ltb register_limit (suc t.registers) m, le-ltb field_limit (t.fields + length (definition_of table v.type).instances) k') in
          let u : Total = record { registers = n; fields = fields; close = first_of t.close close; misplaced = first_of t.misplaced place } in
          let q : n ≡ suc t.registers = omega (arith, o) in
          let same : tallied table shapes t v ≡ u = rw (g, c, d, q, f) in
          rw e (record { runs = run_one h false few same; logs = w ∙ sym (one_logged few ∙ ap (λ (b : Bool). if b then written log (t.registers * log_width) (log_row v) else log) g) })
