-- Fields one behind the other: what an access does to their numbers, what a read is given, and whether an access may be made again.
use mathlib.Core.Path.{◌≡◌, refl, sym, ap, ◌∙◌}
use mathlib.Core.Bool.{Bool, false}
use mathlib.Core.List.{List, [], ◌∷◌, ◌++◌, append-nil, append_assoc}
use Prim.Native.Nat.{ℕ, zero, suc, ◌+◌, ◌*◌, ◌^◌}
use native.Mathlib.Omega.{arith}
use lib.Bits.{bit_or}
use lib.ListN.{length}
use Rattle.fields.specs.declared.Offset.{Offset}
use Rattle.bits.specs.Bits.{number}
use Rattle.rows.specs.declared.RegisterRow.{RegisterRow}
use Rattle.rows.specs.Lawful.{register_row, field_row}
use Rattle.model.specs.declared.View.{View}
use Rattle.model.specs.declared.Access.{Access}
use Rattle.model.specs.Model.{view_after, stepped, field_gives, gives}
use Rattle.model.proofs.Joined.{stepped_more, word_more}
use Rattle.access.specs.Runs.{stored_field, run_fields, row_fields, stored_rows}

-- ---- the fields of rows, the last one apart

run_last : (r : RegisterRow) (fields : List ℕ) (j n : ℕ) → run_fields r fields j (suc n) ≡ run_fields r fields j n ++ (stored_field r (field_row fields (j + n)) (j + n) ∷ [])
unfolding run_fields
run_last r fields j zero = let z : j ≡ j + 0 = omega arith in ap (λ (k : ℕ). stored_field r (field_row fields k) k ∷ []) z
run_last r fields j (suc n) =
    let z : suc j + n ≡ j + suc n = omega arith in
    ap (λ (l : List View). stored_field r (field_row fields j) j ∷ l) (run_last r fields (suc j) n)
    ∙ ap (λ (k : ℕ). stored_field r (field_row fields j) j ∷ (run_fields r fields (suc j) n ++ (stored_field r (field_row fields k) k ∷ []))) z

pub length_run : (r : RegisterRow) (fields : List ℕ) (j n : ℕ) → length (run_fields r fields j n) ≡ n
unfolding run_fields
length_run r fields j zero = refl
length_run r fields j (suc n) = ap suc (length_run r fields (suc j) n)

pub rows_last : (registers fields : List ℕ) (i n : ℕ) → stored_rows registers fields i (suc n) ≡ stored_rows registers fields i n ++ row_fields (register_row registers (i + n)) fields
unfolding stored_rows
rows_last registers fields i zero =
    let z : i ≡ i + 0 = omega arith in
    append-nil (row_fields (register_row registers i) fields) ∙ ap (λ (k : ℕ). row_fields (register_row registers k) fields) z
rows_last registers fields i (suc n) =
    let z : suc i + n ≡ i + suc n = omega arith in
    ap (λ (l : List View). row_fields (register_row registers i) fields ++ l) (rows_last registers fields (suc i) n)
    ∙ sym (append_assoc (row_fields (register_row registers i) fields) (stored_rows registers fields (suc i) n) (row_fields (register_row registers (suc i + n)) fields))
    ∙ ap (λ (k : ℕ). (row_fields (register_row registers i) fields ++ stored_rows registers fields (suc i) n) ++ row_fields (register_row registers k) fields) z

-- ---- one field more, and one register more

pub stepped_field : (x : Access) (r : RegisterRow) (fields : List ℕ) (j n : ℕ) (s : List ℕ)
    → view_after x (stored_field r (field_row fields (j + n)) (j + n)) (stepped x (run_fields r fields j n) s) ≡ stepped x (run_fields r fields j (suc n)) s
stepped_field x r fields j n s =
    sym (stepped_more x (run_fields r fields j n) (stored_field r (field_row fields (j + n)) (j + n)) s) ∙ ap (λ (o : List View). stepped x o s) (sym (run_last r fields j n))

pub word_field : (r : RegisterRow) (fields : List ℕ) (j n : ℕ) (a : Offset) (w : ℕ) (b : ℕ → ℕ → Bool)
    → bit_or (number w (gives (run_fields r fields j n) a w b)) (number w (field_gives a w (stored_field r (field_row fields (j + n)) (j + n)) (b (j + n)))) ≡ number w (gives (run_fields r fields j (suc n)) a w b)
word_field r fields j n a w b =
    word_more (run_fields r fields j n) (stored_field r (field_row fields (j + n)) (j + n)) a w b ∙ ap (λ (o : List View). number w (gives o a w b)) (sym (run_last r fields j n))

pub no_word : (n : ℕ) → number n (λ j. false) ≡ 0
unfolding number
no_word zero = refl
no_word (suc n) = ap (λ (x : ℕ). x + 0 * 2 ^ n) (no_word n) ∙ (omega arith)
