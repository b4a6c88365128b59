-- Rule 17 asked in steps (document 02, item 2): whether a field is changed by an access, and whether it spans parts.
use mathlib.Core.Bool.{Bool, true, false, not}
use mathlib.Core.Path.{◌≡◌, sym}
use Prim.Native.Nat.{ℕ, ◌/◌}
use native.Mathlib.Nat.{div-zero}
use lib.Dec.{eqb, ltb}
use Rattle.chars.proofs.Laws.{and_false}
use Rattle.fields.specs.declared.FieldType.{FieldType}
use Rattle.fields.specs.declared.FieldAt.{FieldAt}
use Rattle.fields.specs.Fields.{is_writable, is_changed_by_access, spans_parts}

-- a field that may be written is changed, and of the others one with an effect on reading
module _ (f : FieldType) {r : Bool} (e : r ≡ is_writable f) where
  pub changed_yes : r ≡ true → true ≡ is_changed_by_access f
  unfolding is_changed_by_access
  changed_yes g = rw (← e, g)

  pub changed_no : r ≡ false → ltb 0 f.onread ≡ is_changed_by_access f
  unfolding is_changed_by_access
  changed_no g = rw (← e, g)

-- no field spans parts of no bits
module _ (part : ℕ) (f : FieldAt) where
  pub spans_zero : part ≡ 0 → false ≡ spans_parts part f
  unfolding spans_parts
  spans_zero e = rw (e, div-zero f.low.0, div-zero f.high.0) (sym (and_false (is_changed_by_access f.values)))

  module _ {r : Bool} (e : r ≡ is_changed_by_access f.values) where
    pub spans_yes : r ≡ true → not (eqb (f.low.0 / part) (f.high.0 / part)) ≡ spans_parts part f
    unfolding spans_parts
    spans_yes g = rw (← e, g)

    pub spans_no : r ≡ false → false ≡ spans_parts part f
    unfolding spans_parts
    spans_no g = rw (← e, g)
