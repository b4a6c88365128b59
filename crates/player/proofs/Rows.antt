-- The numbers that are written for lawful rows, register by register, are those of the map in the rows: one line for each field row, in order.
use mathlib.Core.Bool.{true}
use mathlib.Core.Path.{◌≡◌, refl, ap}
use mathlib.Core.List.{List, ◌++◌}
use Prim.Native.Nat.{ℕ, zero, suc, ◌+◌, ◌/◌, ◌<◌, ◌≤◌}
use native.Mathlib.Omega.{arith}
use lib.ListN.{length}
use borrow.Author.Tests.{le-ltb, le-leb}
use Rattle.basics.specs.Limits.{nest_limit, register_limit, field_limit, register_row_width, field_row_width}
use Rattle.chars.proofs.Laws.{and_left, and_right}
use Rattle.rows.specs.Rows.{Tables}
use Rattle.rows.specs.Lawful.{register_row, is_register_row, are_rows, are_whole, lawful}
use Rattle.rows.specs.Reading.{name_at, path_in, fields_from, entries_from, rows_in}
use Rattle.rows.proofs.Each.{row_first}
use Rattle.listing.specs.Bounds.{Bounded, AllBounded}
use Rattle.listing.specs.Listing.{path_text}
use Rattle.listing.proofs.Bounds.{lawful_bounded}
use Rattle.player.specs.Numbers.{label_text, number_line, number_lines, is_bounded, numbers_text, all_numbers, field_numbers, entries_numbers, map_numbers}

-- a row with small numbers is bounded
bounded_is : (registers : List ℕ) (i : ℕ) → Bounded registers i → is_bounded registers i ≡ true
unfolding is_bounded
bounded_is registers i b =
    let f : (register_row registers i).first ≤ field_limit = omega (arith, b.run) in
    let c : (register_row registers i).count ≤ field_limit = omega (arith, b.run) in
    rw (le-ltb nest_limit (register_row registers i).depth b.depth, le-ltb field_limit (register_row registers i).first f, le-leb (register_row registers i).count field_limit c)

bounded_numbers : (registers paths labels store : List ℕ) (i : ℕ) → i ≤ register_limit → Bounded registers i
    → numbers_text registers paths labels store i ≡ number_lines registers paths labels store i (register_row registers i).first (register_row registers i).count
unfolding numbers_text
bounded_numbers registers paths labels store i h b = rw (le-ltb register_limit i h, bounded_is registers i b)

-- the numbers of a register of lawful rows are those of all its fields
pub lawful_bounded_numbers : (t : Tables) (store : List ℕ) → lawful t ≡ true → (i : ℕ) → i < length t.registers / register_row_width
    → numbers_text t.registers t.paths t.labels store i
    ≡ number_lines t.registers t.paths t.labels store i (register_row t.registers i).first (register_row t.registers i).count
lawful_bounded_numbers t store e i h =
    let b : AllBounded t.registers = lawful_bounded t e in
    bounded_numbers t.registers t.paths t.labels store i (omega (arith, h, b.few)) (b.each i h)

-- as many fields are read as asked
fields_length : (fields labels : List ℕ) (j n : ℕ) → length (fields_from fields labels j n) ≡ n
unfolding fields_from
fields_length fields labels j zero = refl
fields_length fields labels j (suc n) = ap suc (fields_length fields labels (suc j) n)

-- the lines of a run are those of the fields that are read in it
run_numbers : (registers paths fields labels store : List ℕ) (i j n : ℕ)
    → number_lines registers paths labels store i j n ≡ field_numbers (name_at paths 0 ++ path_text (path_in registers paths i)) (fields_from fields labels j n) store j
unfolding number_lines number_line label_text field_numbers fields_from
run_numbers registers paths fields labels store i j zero = refl
run_numbers registers paths fields labels store i j (suc n) =
    ap (λ (x : List ℕ). number_line registers paths labels store i j ++ x) (run_numbers registers paths fields labels store i (suc j) n)

-- registers whose runs follow each other, from the field row `first` on
module _ (t : Tables) (store : List ℕ) (lawfully : lawful t ≡ true) (all : ℕ) where
  rows_numbers : (i first n : ℕ) → i + n ≤ length t.registers / register_row_width → are_rows t all i first n ≡ true
      → all_numbers t.registers t.paths t.labels store i n ≡ entries_numbers (name_at t.paths 0) (entries_from t i n) store first
  unfolding are_rows all_numbers entries_numbers entries_from
  rows_numbers i first zero h e = refl
  rows_numbers i first (suc n) h e =
      let own : is_register_row t all i first ≡ true = and_left (is_register_row t all i first) _ e in
      let f : (register_row t.registers i).first ≡ first = row_first t all i first own in
      let c : length (fields_from t.fields t.labels first (register_row t.registers i).count) ≡ (register_row t.registers i).count =
      fields_length t.fields t.labels first (register_row t.registers i).count in
      let rest : all_numbers t.registers t.paths t.labels store (suc i) n
      ≡ entries_numbers (name_at t.paths 0) (entries_from t (suc i) n) store (first + (register_row t.registers i).count) =
      rows_numbers (suc i) (first + (register_row t.registers i).count) n (omega (arith, h)) (and_right (is_register_row t all i first) _ e) in
      rw (
        lawful_bounded_numbers t store lawfully i (omega (arith, h)),
        f,
        c,
        rest,
        run_numbers t.registers t.paths t.fields t.labels store i first (register_row t.registers i).count,
      )

-- the numbers of lawful rows are those of the map in them
pub numbers_all : (t : Tables) (store : List ℕ) → lawful t ≡ true
    → all_numbers t.registers t.paths t.labels store 0 (length t.registers / register_row_width) ≡ map_numbers (rows_in t) store
unfolding lawful map_numbers
numbers_all t store e =
    rows_numbers t store e (length t.fields / field_row_width) 0 0 (length t.registers / register_row_width) (omega arith)
    (and_right (are_whole (length t.registers) (length t.paths) (length t.fields) (length t.labels)) _ e)
