-- The stored fields of lawful rows, as the loops go through them.
use mathlib.Core.Path.{◌≡◌, refl, sym, ap, ap₂, ◌∙◌}
use mathlib.Core.Bool.{Bool, true, false, ◌||◌}
use mathlib.Core.List.{List, [], ◌∷◌, ◌++◌}
use Prim.Native.Nat.{ℕ, zero, suc, ◌+◌, ◌-◌, ◌/◌, ◌<◌, ◌≤◌}
use native.Mathlib.Omega.{arith}
use lib.ListN.{length, length-append}
use borrow.Author.Tests.{eqb-true}
use Rattle.basics.specs.Limits.{register_row_width, field_row_width}
use Rattle.fields.specs.declared.FieldAt.{FieldAt}
use Rattle.fields.specs.declared.Offset.{Offset}
use Rattle.chars.proofs.Laws.{and_left, and_right}
use Rattle.rows.specs.Rows.{Tables}
use Rattle.rows.specs.declared.RegisterRow.{RegisterRow}
use Rattle.rows.specs.Lawful.{register_row, field_row, is_register_row, are_rows, are_whole, lawful}
use Rattle.rows.specs.Reading.{fields_from, entry_in, entries_from}
use Rattle.rows.proofs.Each.{row_first}
use Rattle.model.specs.declared.View.{View}
use Rattle.model.specs.Model.{any_reached, reaches_register}
use Rattle.access.specs.Stored.{stored_in, stored_among, stored_fields, sizes_of, device_in}
use Rattle.access.specs.Runs.{register_of, stored_field, run_fields, row_fields, stored_rows, all_fields, reached_rows}
use Rattle.access.proofs.Facts.{row_run, row_some}
use Rattle.access.proofs.Joined.{length_run}

-- ---- the fields that stand in the tables are those of the rows

run_stored : (t : Tables) (i j n : ℕ) → stored_in (entry_in t i) j (fields_from t.fields t.labels j n) ≡ run_fields (register_row t.registers i) t.fields j n
unfolding stored_in fields_from run_fields
run_stored t i j zero = refl
run_stored t i j (suc n) = ap (λ (l : List View). stored_field (register_row t.registers i) (field_row t.fields j) j ∷ l) (run_stored t i (suc j) n)

length_from : (fields labels : List ℕ) (j n : ℕ) → length (fields_from fields labels j n) ≡ n
unfolding fields_from
length_from fields labels j zero = refl
length_from fields labels j (suc n) = ap suc (length_from fields labels (suc j) n)

-- the number of a field row is the row's own
among_stored : (t : Tables) (all i first n : ℕ) → are_rows t all i first n ≡ true → stored_among first (entries_from t i n) ≡ stored_rows t.registers t.fields i n
unfolding are_rows stored_among entries_from stored_rows
among_stored t all i first zero e = refl
among_stored t all i first (suc n) e =
    let own : is_register_row t all i first ≡ true = and_left (is_register_row t all i first) _ e in
    let r : RegisterRow = register_row t.registers i in
    let f : r.first ≡ first = row_first t all i first own in
    ap₂ (λ (a b : List View). a ++ b)
    (ap (λ (k : ℕ). stored_in (entry_in t i) k (entry_in t i).fields) (sym f) ∙ run_stored t i r.first r.count)
    (ap (λ (k : ℕ). stored_among (first + k) (entries_from t (suc i) n)) (length_from t.fields t.labels r.first r.count)
    ∙ among_stored t all (suc i) (first + r.count) n (and_right (is_register_row t all i first) _ e))

-- the rows of lawful tables
pub whole_rows : (t : Tables) → lawful t ≡ true → are_rows t (length t.fields / field_row_width) 0 0 (length t.registers / register_row_width) ≡ true
unfolding lawful
whole_rows t e = and_right (are_whole (length t.registers) (length t.paths) (length t.fields) (length t.labels)) _ e

pub stored_rows_lem : (t : Tables) → lawful t ≡ true → stored_fields t ≡ all_fields t.registers t.fields
stored_rows_lem t e = among_stored t (length t.fields / field_row_width) 0 0 (length t.registers / register_row_width) (whole_rows t e)

-- ---- the field rows, one after the other

unfoldable pub at_rows : List ℕ → ℕ → ℕ → List FieldAt
at_rows fields j zero = []
at_rows fields j (suc n) = field_row fields j ∷ at_rows fields (suc j) n

length_at : (fields : List ℕ) (j n : ℕ) → length (at_rows fields j n) ≡ n
unfolding at_rows
length_at fields j zero = refl
length_at fields j (suc n) = ap suc (length_at fields (suc j) n)

unfoldable pub fields_at : List View → List FieldAt
fields_at [] = []
fields_at (c ∷ m) = c.field ∷ fields_at m

length_fields : (m : List View) → length (fields_at m) ≡ length m
unfolding fields_at
length_fields [] = refl
length_fields (c ∷ m) = ap suc (length_fields m)

-- a run's fields, then those of the next rows
run_at : (r : RegisterRow) (fields : List ℕ) (j n k : ℕ) (m : List View) → fields_at m ≡ at_rows fields (j + n) k → fields_at (run_fields r fields j n ++ m) ≡ at_rows fields j (n + k)
unfolding fields_at at_rows run_fields
run_at r fields j zero k m e =
    let z : j + 0 ≡ j = omega arith in
    let y : 0 + k ≡ k = omega arith in
    rw y (rw z at e)
run_at r fields j (suc n) k m e =
    let z : j + suc n ≡ suc j + n = omega arith in
    let y : suc n + k ≡ suc (n + k) = omega arith in
    rw y (ap (λ (l : List FieldAt). field_row fields j ∷ l) (run_at r fields (suc j) n k m (rw z at e)))

rows_at : (t : Tables) (all i first n : ℕ) → are_rows t all i first n ≡ true → fields_at (stored_rows t.registers t.fields i n) ≡ at_rows t.fields first (all - first)
unfolding are_rows stored_rows fields_at at_rows
rows_at t all i first zero e =
    let z : first ≡ all = eqb-true first all e in
    let n : all - first ≡ 0 = omega arith in
    rw n refl
rows_at t all i first (suc n) e =
    let own : is_register_row t all i first ≡ true = and_left (is_register_row t all i first) _ e in
    let r : RegisterRow = register_row t.registers i in
    let f : r.first ≡ first = row_first t all i first own in
    let l : first + r.count ≤ all = row_run t all i first own in
    let k : r.count + (all - (first + r.count)) ≡ all - first = omega arith in
    ap (λ (j : ℕ). fields_at (run_fields r t.fields j r.count ++ stored_rows t.registers t.fields (suc i) n)) f
    ∙ run_at r t.fields first r.count (all - (first + r.count)) (stored_rows t.registers t.fields (suc i) n)
    (rows_at t all (suc i) (first + r.count) n (and_right (is_register_row t all i first) _ e))
    ∙ ap (at_rows t.fields first) k

pub stored_at : (t : Tables) → lawful t ≡ true → fields_at (stored_fields t) ≡ at_rows t.fields 0 (length t.fields / field_row_width)
stored_at t e =
    let n : length t.fields / field_row_width - 0 ≡ length t.fields / field_row_width = omega arith in
    ap fields_at (stored_rows_lem t e) ∙ rows_at t (length t.fields / field_row_width) 0 0 (length t.registers / register_row_width) (whole_rows t e) ∙ ap (at_rows t.fields 0) n

-- as many numbers as field rows
pub length_sizes : (m : List View) → length (sizes_of m) ≡ length m
unfolding sizes_of
length_sizes [] = refl
length_sizes (c ∷ m) = ap suc (length_sizes m)

pub stored_count : (t : Tables) → lawful t ≡ true → length (device_in t).sizes ≡ length t.fields / field_row_width
stored_count t e = length_sizes (stored_fields t) ∙ sym (length_fields (stored_fields t)) ∙ ap length (stored_at t e) ∙ length_at t.fields 0 (length t.fields / field_row_width)

-- ---- registers that are reached

run_reached : (a : Offset) (w : ℕ) (r : RegisterRow) (fields : List ℕ) (j n : ℕ) (m : List View) (b : Bool) → reaches_register a w r.address (register_of r) ≡ b → 0 < n
    → any_reached (run_fields r fields j n ++ m) a w ≡ b || any_reached m a w
unfolding any_reached run_fields
run_reached a w r fields j zero m b e h = absurd (omega arith)
run_reached a w r fields j (suc n) m true e h = ap (λ (x : Bool). x || any_reached (run_fields r fields (suc j) n ++ m) a w) e
run_reached a w r fields j (suc zero) m false e h = ap (λ (x : Bool). x || any_reached m a w) e
run_reached a w r fields j (suc (suc n)) m false e h =
    ap (λ (x : Bool). x || any_reached (run_fields r fields (suc j) (suc n) ++ m) a w) e ∙ run_reached a w r fields (suc j) (suc n) m false e (omega arith)

rows_reached : (a : Offset) (w : ℕ) (t : Tables) (all i first n : ℕ) → are_rows t all i first n ≡ true
    → reached_rows a w t.registers i n ≡ any_reached (stored_rows t.registers t.fields i n) a w
unfolding are_rows reached_rows stored_rows any_reached
rows_reached a w t all i first zero e = refl
rows_reached a w t all i first (suc n) e =
    let own : is_register_row t all i first ≡ true = and_left (is_register_row t all i first) _ e in
    let r : RegisterRow = register_row t.registers i in
    let b : Bool = reaches_register a w r.address (register_of r) in
    ap (λ (x : Bool). b || x) (rows_reached a w t all (suc i) (first + r.count) n (and_right (is_register_row t all i first) _ e))
    ∙ sym (run_reached a w r t.fields r.first r.count (stored_rows t.registers t.fields (suc i) n) b refl (row_some t all i first own))

pub stored_reached : (a : Offset) (w : ℕ) (t : Tables) → lawful t ≡ true → reached_rows a w t.registers 0 (length t.registers / register_row_width) ≡ any_reached (stored_fields t) a w
stored_reached a w t e =
    rows_reached a w t (length t.fields / field_row_width) 0 0 (length t.registers / register_row_width) (whole_rows t e) ∙ ap (λ (m : List View). any_reached m a w) (sym (stored_rows_lem t e))

-- ---- where the fields of a register stand

rows_length : (t : Tables) (all i first n k : ℕ) → are_rows t all i first n ≡ true → k < n → first + length (stored_rows t.registers t.fields i k) ≡ (register_row t.registers (i + k)).first
unfolding are_rows stored_rows
rows_length t all i first zero k e h = absurd (omega arith)
rows_length t all i first (suc n) zero e h =
    let z : i ≡ i + 0 = omega arith in
    let y : first + 0 ≡ first = omega arith in
    y ∙ sym (row_first t all i first (and_left (is_register_row t all i first) _ e)) ∙ ap (λ (j : ℕ). (register_row t.registers j).first) z
rows_length t all i first (suc n) (suc k) e h =
    let r : RegisterRow = register_row t.registers i in
    let rest : List View = stored_rows t.registers t.fields (suc i) k in
    let l : length (row_fields r t.fields ++ rest) ≡ r.count + length rest = length-append (row_fields r t.fields) rest ∙ ap (λ (m : ℕ). m + length rest) (length_run r t.fields r.first r.count) in
    let y : first + length (row_fields r t.fields ++ rest) ≡ (first + r.count) + length rest = omega (arith, l) in
    let z : suc i + k ≡ i + suc k = omega arith in
    y ∙ rows_length t all (suc i) (first + r.count) n k (and_right (is_register_row t all i first) _ e) (omega arith) ∙ ap (λ (j : ℕ). (register_row t.registers j).first) z
