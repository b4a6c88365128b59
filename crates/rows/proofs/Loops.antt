-- Laws of the loops over names, paths, indices and rows: what is left to test has the same answer behind a part that passes.
use mathlib.Core.Bool.{Bool, true}
use mathlib.Core.Path.{◌≡◌}
use mathlib.Core.List.{List}
use Prim.Native.Nat.{ℕ, suc, ◌+◌, ◌-◌, ◌*◌, ◌<◌}
use native.Mathlib.Omega.{arith}
use native.Mathlib.Numerals.{add-one}
use borrow.Author.Tests.{eq-eqb}
use Rattle.basics.specs.Slices.{cell_of}
use Rattle.basics.specs.Limits.{name_width}
use Rattle.rows.specs.Rows.{Tables}
use Rattle.rows.specs.declared.RegisterRow.{RegisterRow}
use Rattle.rows.specs.Lawful.{follows, all_follow, are_zero, is_path_cell, are_names, is_index, are_indices, are_same, register_row, is_field_row, are_field_rows, is_register_row, are_rows}

module _ (count k : ℕ) where
  left_more : k < count → count - k ≡ suc (count - suc k)
  left_more h = omega arith

  next_at : count + (k + 1) ≡ suc (count + k)
  next_at = omega arith

module _ (t : List ℕ) (start count k : ℕ) {x : Bool} (h : k < count) where
  pub follows_on : all_follow t (start + k) (count - k) ≡ x → follows (cell_of t (start + k)) (cell_of t (start + (k + 1))) ≡ true
      → all_follow t (start + (k + 1)) (count - (k + 1)) ≡ x
  unfolding all_follow
  follows_on left e = rw (next_at start k, add-one) (rw (left_more count k h, rw (next_at start k) at e) at left)

  pub zero_on : are_zero t (start + k) (count - k) ≡ x → cell_of t (start + k) ≡ 0 → are_zero t (start + (k + 1)) (count - (k + 1)) ≡ x
  unfolding are_zero
  zero_on left e = rw (next_at start k, add-one) (rw (left_more count k h, eq-eqb _ _ e) at left)

  pub indices_on : (depth : ℕ) → are_indices t depth (start + k) k (count - k) ≡ x → is_index depth k (cell_of t (start + k)) ≡ true
      → are_indices t depth (start + (k + 1)) (k + 1) (count - (k + 1)) ≡ x
  unfolding are_indices
  indices_on depth left e = rw (next_at start k, add-one) (rw (left_more count k h, e) at left)

  pub names_on : (depth : ℕ) → are_names t depth (start + k * name_width) k (count - k) ≡ x → is_path_cell t depth (start + k * name_width) k ≡ true
      → are_names t depth (start + (k + 1) * name_width) (k + 1) (count - (k + 1)) ≡ x
  unfolding are_names
  names_on depth left e =
      let n : start + (k + 1) * name_width ≡ start + k * name_width + name_width = omega arith in
      rw (n, add-one) (rw (left_more count k h, e) at left)

module _ (t : List ℕ) (a b count k : ℕ) {x : Bool} where
  pub same_on : k < count → are_same t (a + k) (b + k) (count - k) ≡ x → cell_of t (a + k) ≡ cell_of t (b + k)
      → are_same t (a + (k + 1)) (b + (k + 1)) (count - (k + 1)) ≡ x
  unfolding are_same
  same_on h left e = rw (next_at a k, next_at b k, add-one) (rw (left_more count k h, eq-eqb _ _ e) at left)

module _ (fields labels : List ℕ) (width first count k : ℕ) {x : Bool} where
  pub fields_on : k < count → are_field_rows fields labels width (first + k) (count - k) ≡ x → is_field_row fields labels width (first + k) ≡ true
      → are_field_rows fields labels width (first + (k + 1)) (count - (k + 1)) ≡ x
  unfolding are_field_rows
  fields_on h left e = rw (next_at first k, add-one) (rw (left_more count k h, e) at left)

module _ (t : Tables) (all i first count : ℕ) {x : Bool} where
  pub rows_on : (row : RegisterRow) → row ≡ register_row t.registers i → i < count → are_rows t all i first (count - i) ≡ x → is_register_row t all i first ≡ true
      → are_rows t all (i + 1) (first + row.count) (count - (i + 1)) ≡ x
  unfolding are_rows
  rows_on row p h left e = rw (p, add-one) (rw (left_more count i h, e) at left)
