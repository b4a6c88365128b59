-- What lawful rows say of each register and of each field: what the functions of one register and of one field ask.
use mathlib.Core.Path.{◌≡◌}
use mathlib.Core.Bool.{true, false, not}
use mathlib.Core.List.{List}
use Prim.Native.Nat.{ℕ, zero, suc, ◌+◌, ◌-◌, ◌/◌, ◌<◌, ◌≤◌}
use native.Mathlib.Decide.{dec_lt}
use native.Mathlib.Omega.{arith}
use lib.Dec.{eqb, leb, ltb}
use lib.ListN.{length}
use borrow.Author.Tests.{eqb-true, leb-true, leb-false, ltb-true, not-true}
use Rattle.basics.specs.Limits.{register_limit, field_limit, register_row_width, field_row_width}
use Rattle.chars.proofs.Laws.{and_left, and_right}
use Rattle.fields.specs.declared.FieldAt.{FieldAt}
use Rattle.fields.specs.Fields.{is_outside, has_unusable_effect, is_reset_wide}
use Rattle.fields.specs.Codes.{is_width}
use Rattle.rows.specs.Rows.{Tables}
use Rattle.rows.specs.declared.RegisterRow.{RegisterRow}
use Rattle.rows.specs.Lawful.{register_row, field_row, is_placed, is_run, is_path, is_ranged, is_sound_field, is_field_row, are_field_rows, is_register_row, are_rows, are_whole, lawful}
use Rattle.rows.proofs.Registers.{placed_most, run_fits, few_registers, few_fields, width_bounds}
use Rattle.rows.proofs.Each.{register_each, field_each}
use Rattle.access.specs.Runs.{Runs, RangedFields}

run-some : (all first : ℕ) (r : RegisterRow) → is_run all first r ≡ true → 0 < r.count
unfolding is_run
run-some all first r h = ltb-true 0 r.count (and_left (ltb 0 r.count) _ (and_right (eqb r.first first) _ h))

module _ (t : Tables) (all i first : ℕ) (e : is_register_row t all i first ≡ true) where
  row_width : (register_row t.registers i).width ≤ 64
  unfolding is_register_row
  row_width = placed_most (register_row t.registers i) (and_left (is_placed (register_row t.registers i)) _ e)

  is_run_lem : is_run all first (register_row t.registers i) ≡ true
  unfolding is_register_row
  is_run_lem = and_left (is_run all first (register_row t.registers i)) _ (and_right (is_placed (register_row t.registers i)) _ e)

  pub row_run : first + (register_row t.registers i).count ≤ all
  row_run = run_fits all first (register_row t.registers i) is_run_lem

  pub row_some : 0 < (register_row t.registers i).count
  row_some = run-some all first (register_row t.registers i) is_run_lem

  row_fields_lem : are_field_rows t.fields t.labels (register_row t.registers i).width first (register_row t.registers i).count ≡ true
  unfolding is_register_row
  row_fields_lem =
      and_right (is_path t.registers t.paths i (register_row t.registers i).depth) _
      (and_right (is_run all first (register_row t.registers i)) _ (and_right (is_placed (register_row t.registers i)) _ e))

-- a field within its register, whose reset is no wider and whose effects are of use
pub record Within (width : ℕ) (f : FieldAt) : Type 0 where
  pub order : f.low.0 ≤ f.high.0
  pub top : f.high.0 < width
  pub narrow : is_reset_wide f ≡ false
  pub usable : has_unusable_effect f.values ≡ false

pub sound-within : (width : ℕ) (f : FieldAt) → is_sound_field width f ≡ true → Within width f
unfolding is_sound_field is_outside
sound-within width f e =
    let inside = and_right (leb f.low.0 f.high.0) _ e in
    record {
      order = leb-true f.low.0 f.high.0 (and_left (leb f.low.0 f.high.0) _ e);
      top = leb-false width f.high.0 (not-true (leb width f.high.0) (and_left (not (leb width f.high.0)) _ inside));
      narrow = not-true (is_reset_wide f) (and_right (not (has_unusable_effect f.values)) _ (and_right (not (leb width f.high.0)) _ inside));
      usable = not-true (has_unusable_effect f.values) (and_left (not (has_unusable_effect f.values)) _ (and_right (not (leb width f.high.0)) _ inside));
    }

field_within : (fields labels : List ℕ) (width j : ℕ) → is_field_row fields labels width j ≡ true → Within width (field_row fields j)
unfolding is_field_row
field_within fields labels width j e =
    sound-within width (field_row fields j) (and_left (is_sound_field width (field_row fields j)) _ (and_right (is_ranged (field_row fields j)) _ e))

run-within : (t : Tables) (all i first : ℕ) → is_register_row t all i first ≡ true → (k : ℕ) → k < (register_row t.registers i).count
    → Within (register_row t.registers i).width (field_row t.fields (first + k))
run-within t all i first e k h =
    field_within t.fields t.labels (register_row t.registers i).width (first + k)
    (field_each t.fields t.labels (register_row t.registers i).width first (register_row t.registers i).count (row_fields_lem t all i first e) k h)

-- each field row from the field row `first` on
rows_within : (t : Tables) (all i first n : ℕ) → are_rows t all i first n ≡ true → (j : ℕ) → first ≤ j → j < all → Within 64 (field_row t.fields j)
unfolding are_rows
rows_within t all i first zero e j l h = absurd (let z : first ≡ all = eqb-true first all e in omega arith)
rows_within t all i first (suc n) e j l h =
    by (dec_lt j (first + (register_row t.registers i).count))
    (rows_within t all (suc i) (first + (register_row t.registers i).count) n (and_right (is_register_row t all i first) _ e) j)
  where
    own : is_register_row t all i first ≡ true
    own = and_left (is_register_row t all i first) _ e

    by : Dec (j < first + (register_row t.registers i).count) → (first + (register_row t.registers i).count ≤ j → j < all → Within 64 (field_row t.fields j)) → Within 64 (field_row t.fields j)
    by (yes q) rest =
        let z : first + (j - first) ≡ j = omega arith in
        let w : Within (register_row t.registers i).width (field_row t.fields j) = rw z at (run-within t all i first own (j - first) (omega arith)) in
        record { order = w.order; top = omega (arith, w.top, row_width t all i first own); narrow = w.narrow; usable = w.usable }
    by (no q) rest = rest (omega arith) h

-- ---- lawful rows
module _ (t : Tables) (e : lawful t ≡ true) where
  is_whole : are_whole (length t.registers) (length t.paths) (length t.fields) (length t.labels) ≡ true
  unfolding lawful
  is_whole = and_left (are_whole (length t.registers) (length t.paths) (length t.fields) (length t.labels)) _ e

  pub rows_few : length t.registers / register_row_width ≤ register_limit
  rows_few = few_registers (length t.registers) (length t.paths) (length t.fields) (length t.labels) is_whole

  pub fields_few : length t.fields / field_row_width ≤ field_limit
  fields_few = few_fields (length t.registers) (length t.paths) (length t.fields) (length t.labels) is_whole

  pub all_within : (j : ℕ) → j < length t.fields / field_row_width → Within 64 (field_row t.fields j)
  unfolding lawful
  all_within j h =
      rows_within t (length t.fields / field_row_width) 0 0 (length t.registers / register_row_width)
      (and_right (are_whole (length t.registers) (length t.paths) (length t.fields) (length t.labels)) _ e) j (omega arith) h

  pub all_fields_lem : RangedFields t.fields
  all_fields_lem = record { few = fields_few; order = λ j h. (all_within j h).order; top = λ j h. (all_within j h).top }

  -- what an access of a width asks of a register
  pub row_runs : (w : ℕ) → is_width w ≡ true → (i : ℕ) → i < length t.registers / register_row_width → Runs w t.fields (register_row t.registers i)
  row_runs w y i h =
      let own : is_register_row t (length t.fields / field_row_width) i (register_row t.registers i).first ≡ true = register_each t e i h in
      record {
        few = omega (arith, row_run t (length t.fields / field_row_width) i (register_row t.registers i).first own, fields_few);
        usable =
            λ k l.
            let q : Within (register_row t.registers i).width (field_row t.fields ((register_row t.registers i).first + k)) =
            run-within t (length t.fields / field_row_width) i (register_row t.registers i).first own k l in
            let m : (register_row t.registers i).width ≤ 64 = row_width t (length t.fields / field_row_width) i (register_row t.registers i).first own in
            record { least = (width_bounds w y).0; most = (width_bounds w y).1; register = m; order = q.order; top = omega (arith, q.top) };
      }

  -- the store has its numbers
  pub row_room : (s : List ℕ) → length t.fields / field_row_width ≤ length s → (i : ℕ) → i < length t.registers / register_row_width
      → (register_row t.registers i).first + (register_row t.registers i).count ≤ length s
  row_room s h i l = omega (arith, row_run t (length t.fields / field_row_width) i (register_row t.registers i).first (register_each t e i l))
