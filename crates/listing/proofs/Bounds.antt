-- The numbers of lawful rows are small.
use mathlib.Core.Bool.{true}
use mathlib.Core.Path.{◌≡◌}
use mathlib.Core.List.{List}
use Prim.Native.Nat.{ℕ, ◌+◌, ◌/◌, ◌≤◌}
use native.Mathlib.Omega.{arith}
use lib.Dec.{leb, ltb}
use lib.ListN.{length}
use borrow.Author.Tests.{leb-true}
use Rattle.basics.specs.Limits.{nest_limit, field_limit, field_row_width}
use Rattle.chars.proofs.Laws.{and_left, and_right}
use Rattle.rows.specs.Rows.{Tables}
use Rattle.rows.specs.Lawful.{register_row, is_placed, is_run, is_path, is_register_row, are_whole, lawful}
use Rattle.rows.proofs.Registers.{row_fits, few_registers, few_fields}
use Rattle.rows.proofs.Each.{row_first, register_each}
use Rattle.listing.specs.Bounds.{Bounded, AllBounded}

path_depth : (registers paths : List ℕ) (i depth : ℕ) → is_path registers paths i depth ≡ true → depth ≤ nest_limit
unfolding is_path
path_depth registers paths i depth e = leb-true depth nest_limit (and_left (leb depth nest_limit) _ (and_right (ltb 0 depth) _ e))

module _ (t : Tables) (all i first : ℕ) (e : is_register_row t all i first ≡ true) where
  row_depth : (register_row t.registers i).depth ≤ nest_limit
  unfolding is_register_row
  row_depth =
      path_depth t.registers t.paths i (register_row t.registers i).depth
      (and_left _ _ (and_right (is_run all first (register_row t.registers i)) _ (and_right (is_placed (register_row t.registers i)) _ e)))

  row_bounded : all ≤ field_limit → Bounded t.registers i
  row_bounded h =
      let f = row_first t all i first e in
      let l : first + (register_row t.registers i).count ≤ all = row_fits t all i first e in
      record { depth = row_depth; run = omega arith }

pub lawful_bounded : (t : Tables) → lawful t ≡ true → AllBounded t.registers
unfolding lawful
lawful_bounded t e =
    let w : are_whole (length t.registers) (length t.paths) (length t.fields) (length t.labels) ≡ true =
    and_left (are_whole (length t.registers) (length t.paths) (length t.fields) (length t.labels)) _ e in
    let f : length t.fields / field_row_width ≤ field_limit = few_fields (length t.registers) (length t.paths) (length t.fields) (length t.labels) w in
    record {
      few = few_registers (length t.registers) (length t.paths) (length t.fields) (length t.labels) w;
      each = λ i h. row_bounded t (length t.fields / field_row_width) i (register_row t.registers i).first (register_each t e i h) f;
    }
