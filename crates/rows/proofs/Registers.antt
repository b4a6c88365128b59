-- What the tests of register rows and of whole tables say: bounds of widths, runs and counts.
use mathlib.Core.Bool.{true, ◌&&◌}
use mathlib.Core.Path.{◌≡◌}
use Prim.Native.Nat.{ℕ, ◌+◌, ◌/◌, ◌<◌, ◌≤◌}
use native.Mathlib.Omega.{arith}
use lib.Dec.{eqb, leb, ltb}
use borrow.Author.Tests.{leb-true}
use Rattle.chars.proofs.Laws.{and_left, and_right}
use Rattle.fields.specs.Codes.{is_width}
use Rattle.fields.proofs.Laws.{width_cases}
use Rattle.basics.specs.Limits.{register_limit, field_limit, register_row_width, field_row_width}
use Rattle.rows.specs.Rows.{Tables}
use Rattle.rows.specs.declared.RegisterRow.{RegisterRow}
use Rattle.rows.specs.Lawful.{register_row, is_placed, is_run, is_register_row, are_whole}

-- a width is 8, 16, 32 or 64
pub width_bounds : (n : ℕ) → is_width n ≡ true → (8 ≤ n) × (n ≤ 64)
width_bounds = width_cases (λ n. (8 ≤ n) × (n ≤ 64)) (omega arith, omega arith) (omega arith, omega arith) (omega arith, omega arith) (omega arith, omega arith)

pub width_parts : (n : ℕ) → is_width n ≡ true → 0 < n / 8
width_parts n e = omega (arith, width_bounds n e)

pub placed_most : (row : RegisterRow) → is_placed row ≡ true → row.width ≤ 64
unfolding is_placed
placed_most row e = (width_bounds row.width (and_left (is_width row.width) _ e)).1

pub run_fits : (all first : ℕ) (row : RegisterRow) → is_run all first row ≡ true → first + row.count ≤ all
unfolding is_run
run_fits all first row e =
    leb-true (first + row.count) all
    (and_right (ltb 0 row.count) (leb (first + row.count) all)
    (and_right (eqb row.first first) (ltb 0 row.count && leb (first + row.count) all) e))

-- what the fields of a row's run ask
pub ruleset row_asks = (placed_most, run_fits)

pub row_fits : (t : Tables) (all i first : ℕ) → is_register_row t all i first ≡ true → first + (register_row t.registers i).count ≤ all
unfolding is_register_row
row_fits t all i first e = run_fits all first (register_row t.registers i) (and_left _ _ (and_right (is_placed (register_row t.registers i)) _ e))

module _ (registers paths fields labels : ℕ) (e : are_whole registers paths fields labels ≡ true) where
  whole_limits : (leb (registers / register_row_width) register_limit && leb (fields / field_row_width) field_limit) ≡ true
  unfolding are_whole
  whole_limits = and_left (leb (registers / register_row_width) register_limit && leb (fields / field_row_width) field_limit) _ e

  pub few_registers : registers / register_row_width ≤ register_limit
  few_registers = leb-true (registers / register_row_width) register_limit (and_left (leb (registers / register_row_width) register_limit) (leb (fields / field_row_width) field_limit) whole_limits)

  pub few_fields : fields / field_row_width ≤ field_limit
  few_fields = leb-true (fields / field_row_width) field_limit (and_right (leb (registers / register_row_width) register_limit) (leb (fields / field_row_width) field_limit) whole_limits)
