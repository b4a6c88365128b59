-- Registers alone decide 21, one after another: the fault is that of the first that meets an earlier one.
use mathlib.Core.Bool.{Bool, true, false, ◌||◌, ◌&&◌}
use mathlib.Core.Path.{◌≡◌, refl, sym, ap, ap₂, ◌∙◌}
use mathlib.Core.List.{List, [], ◌∷◌, ◌++◌, append-nil}
use Prim.Native.Nat.{ℕ, zero, suc, ◌+◌, ◌<◌, ◌≤◌}
use native.Mathlib.Numerals.{add-one}
use native.Mathlib.Omega.{arith}
use lib.ListN.{length, take, drop, drop_of_length-le}
use lib.Seq.{take-suc, drop-cons}
use Rattle.std.specs.Prelude.{if◌then◌else◌}
use Rattle.orders.specs.Unique.{meets, first_from, first_meeting}
use Rattle.orders.proofs.Unique.{meets_here, meets_next, meets_none, first_here, first_next, first_none}
use Rattle.cells.specs.Definitions.{Definition}
use Rattle.layout.specs.declared.Shape.{Shape}
use Rattle.map_rules.specs.Visits.{Visit}
use Rattle.map_rules.specs.Whole.{is_register_visit, overlap_registers, overlaps_one, overlapping, registers_among}
use Rattle.map_walk.specs.Walks.{visit_at, no_visit}
use Rattle.basics.specs.Judged.{Verdict, Accepted, Refused}

-- the registers among some elements, with one more before them or behind them
module _ (table : List Definition) (u : Visit) (us : List Visit) where
  among_register : is_register_visit table u ≡ true → registers_among table (u ∷ us) ≡ u ∷ registers_among table us
  unfolding registers_among
  among_register y = ap (λ (b : Bool). if b then u ∷ registers_among table us else registers_among table us) y

  among_other : is_register_visit table u ≡ false → registers_among table (u ∷ us) ≡ registers_among table us
  unfolding registers_among
  among_other y = ap (λ (b : Bool). if b then u ∷ registers_among table us else registers_among table us) y

among_none : (table : List Definition) → registers_among table [] ≡ []
unfolding registers_among
among_none table = refl

among_append : (table : List Definition) (us vs : List Visit) → registers_among table (us ++ vs) ≡ registers_among table us ++ registers_among table vs
among_append table [] vs = ap (λ (l : List Visit). l ++ registers_among table vs) (sym (among_none table))
among_append table (u ∷ us) vs = by (is_register_visit table u) refl (among_append table us vs)
  where
    by : (b : Bool) → is_register_visit table u ≡ b → registers_among table (us ++ vs) ≡ registers_among table us ++ registers_among table vs
        → registers_among table (u ∷ (us ++ vs)) ≡ registers_among table (u ∷ us) ++ registers_among table vs
    by true y h =
        among_register table u (us ++ vs) y ∙ ap (λ (l : List Visit). u ∷ l) h ∙ ap (λ (l : List Visit). l ++ registers_among table vs) (sym (among_register table u us y))
    by false y h = among_other table u (us ++ vs) y ∙ h ∙ ap (λ (l : List Visit). l ++ registers_among table vs) (sym (among_other table u us y))

module _ (table : List Definition) (earlier : List Visit) (v : Visit) where
  more_register : is_register_visit table v ≡ true → registers_among table (earlier ++ (v ∷ [])) ≡ registers_among table earlier ++ (v ∷ [])
  more_register y =
      among_append table earlier (v ∷ [])
      ∙ ap (λ (l : List Visit). registers_among table earlier ++ l) (among_register table v [] y ∙ ap (λ (l : List Visit). v ∷ l) (among_none table))

  more_other : is_register_visit table v ≡ false → registers_among table (earlier ++ (v ∷ [])) ≡ registers_among table earlier
  more_other y =
      among_append table earlier (v ∷ []) ∙ ap (λ (l : List Visit). registers_among table earlier ++ l) (among_other table v [] y ∙ among_none table)
      ∙ append-nil (registers_among table earlier)

-- one element against earlier ones
module _ (table : List Definition) (shapes : List Shape) (v u : Visit) (us : List Visit) where
  one_register : is_register_visit table u ≡ true → overlaps_one table shapes v (u ∷ us) ≡ (overlap_registers table shapes v u || overlaps_one table shapes v us)
  unfolding overlaps_one
  one_register y = ap (λ (b : Bool). (b && overlap_registers table shapes v u) || overlaps_one table shapes v us) y

  one_other : is_register_visit table u ≡ false → overlaps_one table shapes v (u ∷ us) ≡ overlaps_one table shapes v us
  unfolding overlaps_one
  one_other y = ap (λ (b : Bool). (b && overlap_registers table shapes v u) || overlaps_one table shapes v us) y

one_none : (table : List Definition) (shapes : List Shape) (v : Visit) → overlaps_one table shapes v [] ≡ false
unfolding overlaps_one
one_none table shapes v = refl

one_among : (table : List Definition) (shapes : List Shape) (v : Visit) (us : List Visit)
    → overlaps_one table shapes v us ≡ overlaps_one table shapes v (registers_among table us)
one_among table shapes v [] = ap (overlaps_one table shapes v) (sym (among_none table))
one_among table shapes v (u ∷ us) = by (is_register_visit table u) refl (one_among table shapes v us)
  where
    by : (b : Bool) → is_register_visit table u ≡ b → overlaps_one table shapes v us ≡ overlaps_one table shapes v (registers_among table us)
        → overlaps_one table shapes v (u ∷ us) ≡ overlaps_one table shapes v (registers_among table (u ∷ us))
    by true y h =
        one_register table shapes v u us y ∙ ap (λ (b : Bool). overlap_registers table shapes v u || b) h ∙ sym (one_register table shapes v u (registers_among table us) y)
        ∙ ap (overlaps_one table shapes v) (sym (among_register table u us y))
    by false y h = one_other table shapes v u us y ∙ h ∙ ap (overlaps_one table shapes v) (sym (among_other table u us y))

pub or_true : (x : Bool) → (x || true) ≡ true
or_true true = refl
or_true false = refl

-- one element against earlier ones and one more behind them
module _ (table : List Definition) (shapes : List Shape) (v u : Visit) where
  last_hit : (us : List Visit) → is_register_visit table u ≡ true → overlap_registers table shapes v u ≡ true
      → overlaps_one table shapes v (us ++ (u ∷ [])) ≡ true
  unfolding overlaps_one
  last_hit [] y z = ap₂ (λ (a b : Bool). (a && b) || false) y z
  last_hit (w ∷ us) y z =
      let b : Bool = is_register_visit table w && overlap_registers table shapes v w in
      ap (λ (x : Bool). b || x) (last_hit us y z) ∙ or_true b

  last_not : (us : List Visit) → is_register_visit table u ≡ true → overlap_registers table shapes v u ≡ false
      → overlaps_one table shapes v (us ++ (u ∷ [])) ≡ overlaps_one table shapes v us
  unfolding overlaps_one
  last_not [] y z = ap₂ (λ (a b : Bool). (a && b) || false) y z
  last_not (w ∷ us) y z =
      let b : Bool = is_register_visit table w && overlap_registers table shapes v w in
      ap (λ (x : Bool). b || x) (last_not us y z)

-- elements one after another
module _ (table : List Definition) (shapes : List Shape) (earlier : List Visit) (v : Visit) (vs : List Visit) where
  next_register : is_register_visit table v ≡ true
      → overlapping table shapes earlier (v ∷ vs) ≡ (if overlaps_one table shapes v earlier then Refused 21 v.name.start else overlapping table shapes (earlier ++ (v ∷ [])) vs)
  unfolding overlapping
  next_register y = ap (λ (b : Bool). if (b && overlaps_one table shapes v earlier) then Refused 21 v.name.start else overlapping table shapes (earlier ++ (v ∷ [])) vs) y

  next_other : is_register_visit table v ≡ false → overlapping table shapes earlier (v ∷ vs) ≡ overlapping table shapes (earlier ++ (v ∷ [])) vs
  unfolding overlapping
  next_other y = ap (λ (b : Bool). if (b && overlaps_one table shapes v earlier) then Refused 21 v.name.start else overlapping table shapes (earlier ++ (v ∷ [])) vs) y

next_none : (table : List Definition) (shapes : List Shape) (earlier : List Visit) → overlapping table shapes earlier [] ≡ Accepted
unfolding overlapping
next_none table shapes earlier = refl

overlapping_among : (table : List Definition) (shapes : List Shape) (earlier vs : List Visit) → overlapping table shapes earlier vs ≡ overlapping table shapes (registers_among table earlier) (registers_among table vs)
overlapping_among table shapes earlier [] =
    next_none table shapes earlier ∙ sym (next_none table shapes (registers_among table earlier)) ∙ ap (overlapping table shapes (registers_among table earlier)) (sym (among_none table))
overlapping_among table shapes earlier (v ∷ vs) = by (is_register_visit table v) refl (overlapping_among table shapes (earlier ++ (v ∷ [])) vs)
  where
    by : (b : Bool) → is_register_visit table v ≡ b
        → overlapping table shapes (earlier ++ (v ∷ [])) vs ≡ overlapping table shapes (registers_among table (earlier ++ (v ∷ []))) (registers_among table vs)
        → overlapping table shapes earlier (v ∷ vs) ≡ overlapping table shapes (registers_among table earlier) (registers_among table (v ∷ vs))
    by true y h =
        let before : List Visit = registers_among table earlier in
        let rest : List Visit = registers_among table vs in
        let k : overlapping table shapes (earlier ++ (v ∷ [])) vs ≡ overlapping table shapes (before ++ (v ∷ [])) rest =
        h ∙ ap (λ (l : List Visit). overlapping table shapes l rest) (more_register table earlier v y) in
        next_register table shapes earlier v vs y
        ∙ ap (λ (b : Bool). if b then Refused 21 v.name.start else overlapping table shapes (earlier ++ (v ∷ [])) vs) (one_among table shapes v earlier)
        ∙ ap (λ (f : Verdict). if overlaps_one table shapes v before then Refused 21 v.name.start else f) k
        ∙ sym (next_register table shapes before v rest y)
        ∙ ap (overlapping table shapes before) (sym (among_register table v vs y))
    by false y h =
        next_other table shapes earlier v vs y ∙ h ∙ ap (λ (l : List Visit). overlapping table shapes l (registers_among table vs)) (more_other table earlier v y)
        ∙ ap (overlapping table shapes (registers_among table earlier)) (sym (among_other table v vs y))

-- 21 of a map's elements is 21 of its registers
pub registers_decide : (table : List Definition) (shapes : List Shape) (vs : List Visit) → overlapping table shapes [] vs ≡ overlapping table shapes [] (registers_among table vs)
registers_decide table shapes vs = overlapping_among table shapes [] vs ∙ ap (λ (l : List Visit). overlapping table shapes l (registers_among table vs)) (among_none table)

-- registers from the i-th on
module _ (table : List Definition) (shapes : List Shape) (vs : List Visit) (i : ℕ) where
  from_end : length vs ≤ i → overlapping table shapes (take i vs) (drop i vs) ≡ Accepted
  from_end h = ap (overlapping table shapes (take i vs)) (drop_of_length-le vs h) ∙ next_none table shapes (take i vs)

  module _ (h : i < length vs) (y : is_register_visit table (visit_at vs i) ≡ true) where
    from_here : overlapping table shapes (take i vs) (drop i vs)
        ≡ (if overlaps_one table shapes (visit_at vs i) (take i vs) then Refused 21 (visit_at vs i).name.start else overlapping table shapes (take (i + 1) vs) (drop (i + 1) vs))
    from_here =
        let v : Visit = visit_at vs i in
        let f : Verdict = Refused 21 v.name.start in
        let b : Bool = overlaps_one table shapes v (take i vs) in
        ap (overlapping table shapes (take i vs)) (drop-cons vs i no_visit h) ∙ next_register table shapes (take i vs) v (drop (suc i) vs) y
        ∙ ap (λ (l : List Visit). if b then f else overlapping table shapes l (drop (suc i) vs)) (sym (take-suc vs i no_visit h))
        ∙ ap (λ (n : ℕ). if b then f else overlapping table shapes (take n vs) (drop n vs)) (sym (add-one i))

    from_hit : overlaps_one table shapes (visit_at vs i) (take i vs) ≡ true → overlapping table shapes (take i vs) (drop i vs) ≡ Refused 21 (visit_at vs i).name.start
    from_hit z =
        from_here ∙ ap (λ (b : Bool). if b then Refused 21 (visit_at vs i).name.start else overlapping table shapes (take (i + 1) vs) (drop (i + 1) vs)) z

    from_on : overlaps_one table shapes (visit_at vs i) (take i vs) ≡ false → overlapping table shapes (take i vs) (drop i vs) ≡ overlapping table shapes (take (i + 1) vs) (drop (i + 1) vs)
    from_on z =
        from_here ∙ ap (λ (b : Bool). if b then Refused 21 (visit_at vs i).name.start else overlapping table shapes (take (i + 1) vs) (drop (i + 1) vs)) z

-- ---- the first register that meets an earlier one

-- 21 where the r-th register is the first that meets an earlier one; none where it is behind them all
pub record FaultOf (vs : List Visit) (r : ℕ) (f : Verdict) : Type 0 where
  pub none : length vs ≤ r → f ≡ Accepted
  pub refused : r < length vs → f ≡ Refused 21 (visit_at vs r).name.start

-- `same` says of two registers whether they overlap
pub record Agrees (table : List Definition) (shapes : List Shape) (vs : List Visit) (same : ℕ → ℕ → Bool) : Type 0 where
  pub registers : (i : ℕ) → i < length vs → is_register_visit table (visit_at vs i) ≡ true
  pub pairs : (i j : ℕ) → i < length vs → j < length vs → same i j ≡ overlap_registers table shapes (visit_at vs j) (visit_at vs i)

module _ (table : List Definition) (shapes : List Shape) (vs : List Visit) {same : ℕ → ℕ → Bool} (a : Agrees table shapes vs same) where
  one_meets : (j k : ℕ) → k ≤ j → j < length vs → overlaps_one table shapes (visit_at vs j) (take k vs) ≡ meets same j k
  one_meets j zero h l = one_none table shapes (visit_at vs j) ∙ sym (meets_none same j)
  one_meets j (suc k) h l = by (same k j) refl (one_meets j k (omega arith) l)
    where
      v : Visit
      v = visit_at vs j

      u : Visit
      u = visit_at vs k

      y : is_register_visit table (visit_at vs k) ≡ true
      y = a.registers k (omega arith)

      z : overlaps_one table shapes v (take (suc k) vs) ≡ overlaps_one table shapes v (take k vs ++ (u ∷ []))
      z = ap (overlaps_one table shapes v) (take-suc vs k no_visit (omega arith))

      pair : {b : Bool} → same k j ≡ b → overlap_registers table shapes v u ≡ b
      pair e = sym (a.pairs k j (omega arith) l) ∙ e

      by : (b : Bool) → same k j ≡ b → overlaps_one table shapes v (take k vs) ≡ meets same j k
          → overlaps_one table shapes v (take (suc k) vs) ≡ meets same j (suc k)
      by true e f = z ∙ last_hit table shapes v u (take k vs) y (pair e) ∙ sym (meets_here same j k e)
      by false e f = z ∙ last_not table shapes v u (take k vs) y (pair e) ∙ f ∙ sym (meets_next same j k e)

  -- 21 of the registers from the i-th on
  abbrev fault : ℕ → Verdict
  fault i = overlapping table shapes (take i vs) (drop i vs)

  fault_from : (count i : ℕ) → i + count ≡ length vs → FaultOf vs (first_from same i count) (fault i)
  fault_from zero i e =
      rw (first_none same i) record { none = λ h. from_end table shapes vs i (omega arith); refused = λ h. absurd (omega arith) }
  fault_from (suc count) i e = by (meets same i i) refl (fault_from count (i + 1) (omega arith))
    where
      h : i < length vs
      h = omega arith

      by : (b : Bool) → meets same i i ≡ b → FaultOf vs (first_from same (i + 1) count) (fault (i + 1))
          → FaultOf vs (first_from same i (suc count)) (fault i)
      by true z f =
          rw (first_here same i count z)
          record {
            none = λ l. absurd (omega (arith, h));
            refused = λ l. from_hit table shapes vs i h (a.registers i h) (one_meets i i (omega arith) h ∙ z);
          }
      by false z f =
          rw (first_next same i count z, from_on table shapes vs i h (a.registers i h) (one_meets i i (omega arith) h ∙ z)) f

  -- 21 of the registers is that of the first that meets an earlier one
  pub first_fault : FaultOf vs (first_meeting same (length vs)) (overlapping table shapes [] vs)
  unfolding first_meeting
  first_fault = fault_from (length vs) 0 (omega arith)
