-- What lawful rows say of each register row and of each field row.
use mathlib.Core.Bool.{Bool, true, false}
use mathlib.Core.Path.{◌≡◌, refl}
use mathlib.Core.List.{List}
use Prim.Native.Nat.{ℕ, zero, suc, ◌+◌, ◌/◌, ◌<◌, ◌≤◌}
use native.Mathlib.Omega.{arith}
use lib.Dec.{eqb}
use lib.ListN.{length}
use borrow.Author.Tests.{eqb-true, eqb-false}
use Rattle.basics.specs.Limits.{register_row_width, field_row_width}
use Rattle.chars.proofs.Laws.{and_left, and_right}
use Rattle.rows.specs.Rows.{Tables}
use Rattle.rows.specs.declared.RegisterRow.{RegisterRow}
use Rattle.rows.specs.Lawful.{register_row, is_placed, is_run, is_field_row, are_field_rows, is_register_row, are_rows, are_whole, lawful}

pub run_first : (all first : ℕ) (r : RegisterRow) → is_run all first r ≡ true → r.first ≡ first
unfolding is_run
run_first all first r e = eqb-true r.first first (and_left (eqb r.first first) _ e)

pub row_first : (t : Tables) (all i first : ℕ) → is_register_row t all i first ≡ true → (register_row t.registers i).first ≡ first
unfolding is_register_row
row_first t all i first e =
    run_first all first (register_row t.registers i)
    (and_left (is_run all first (register_row t.registers i)) _ (and_right (is_placed (register_row t.registers i)) _ e))

-- a row is lawful with the first field row that it names
row_own : (t : Tables) (all i first : ℕ) → is_register_row t all i first ≡ true → is_register_row t all i (register_row t.registers i).first ≡ true
row_own t all i first e = rw (row_first t all i first e) e

rows_each : (t : Tables) (all i first n : ℕ) → are_rows t all i first n ≡ true → (j : ℕ) → i ≤ j → j < i + n → is_register_row t all j (register_row t.registers j).first ≡ true
unfolding are_rows
rows_each t all i first zero e j l m = absurd (omega arith)
rows_each t all i first (suc n) e j l m =
    by (eqb j i) refl (rows_each t all (suc i) (first + (register_row t.registers i).count) n (and_right (is_register_row t all i first) _ e) j)
  where
    by : (b : Bool) → eqb j i ≡ b → (suc i ≤ j → j < suc i + n → is_register_row t all j (register_row t.registers j).first ≡ true) → is_register_row t all j (register_row t.registers j).first ≡ true
    by true q rest = let z : j ≡ i = eqb-true j i q in rw z (row_own t all i first (and_left (is_register_row t all i first) _ e))
    by false q rest = let z : j ≡ i → ⊥ = eqb-false j i q in rest (omega arith) (omega arith)

-- each register row of lawful rows
pub register_each : (t : Tables) → lawful t ≡ true → (i : ℕ) → i < length t.registers / register_row_width
    → is_register_row t (length t.fields / field_row_width) i (register_row t.registers i).first ≡ true
unfolding lawful
register_each t e i h =
    rows_each t (length t.fields / field_row_width) 0 0 (length t.registers / register_row_width)
    (and_right (are_whole (length t.registers) (length t.paths) (length t.fields) (length t.labels)) _ e) i (omega arith) (omega arith)

-- each field row of a run
pub field_each : (fields labels : List ℕ) (width j n : ℕ) → are_field_rows fields labels width j n ≡ true → (k : ℕ) → k < n → is_field_row fields labels width (j + k) ≡ true
unfolding are_field_rows
field_each fields labels width j zero e k h = absurd (omega arith)
field_each fields labels width j (suc n) e zero h =
    let z : j + 0 ≡ j = omega arith in
    rw z (and_left (is_field_row fields labels width j) _ e)
field_each fields labels width j (suc n) e (suc k) h =
    let z : j + suc k ≡ suc j + k = omega arith in
    rw z (field_each fields labels width (suc j) n (and_right (is_field_row fields labels width j) _ e) k (omega arith))
