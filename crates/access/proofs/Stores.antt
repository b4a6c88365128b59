-- The store after a reset, and whether a store fits.
use mathlib.Core.Path.{◌≡◌, refl, sym, ap, ap₂, ◌∙◌}
use mathlib.Core.Bool.{Bool, true, false, ◌&&◌}
use mathlib.Core.List.{List, [], ◌∷◌, ◌++◌}
use Prim.Native.Nat.{ℕ, zero, suc, ◌+◌, ◌-◌, ◌/◌, ◌^◌, ◌<◌, ◌≤◌}
use native.Mathlib.Omega.{arith}
use lib.Dec.{ltb}
use lib.ListN.{length, get_or, drop}
use lib.Pow.{pow_pos}
use borrow.Author.Tests.{lt-ltb, leb-false}
use lib.Seq.{drop-cons}
use Rattle.basics.specs.Given.{or_else}
use Rattle.basics.specs.Limits.{field_row_width}
use Rattle.fields.specs.declared.FieldAt.{FieldAt}
use Rattle.fields.specs.Fields.{is_wide, is_reset_wide}
use Rattle.rows.specs.Rows.{Tables}
use Rattle.rows.specs.Lawful.{field_row, lawful}
use Rattle.model.specs.declared.View.{View}
use Rattle.model.specs.Model.{fits, size}
use Rattle.access.specs.Stored.{stored_fields, sizes_of, device_in}
use Rattle.access.specs.Perform.{resets}
use Rattle.access.specs.Runs.{is_fitting, fitting_rows, reset_in, resets_from}
use Rattle.access.proofs.Facts.{all_within}
use Rattle.access.proofs.Fields.{at_rows, fields_at, stored_at, stored_count}
use Rattle.std.specs.Prelude.{Option, Some, None}

-- ---- whether the store fits

fits_at : List FieldAt → List ℕ → Bool
fits_at [] s = true
fits_at (f ∷ fs) [] = false
fits_at (f ∷ fs) (v ∷ s) = is_fitting v f && fits_at fs s

fits_fields : (m : List View) (s : List ℕ) → fits (sizes_of m) s ≡ fits_at (fields_at m) s
unfolding fits fits_at fields_at sizes_of
fits_fields [] s = refl
fits_fields (c ∷ m) [] = refl
fits_fields (c ∷ m) (v ∷ s) = ap (λ (b : Bool). ltb v (2 ^ size c) && b) (fits_fields m s)

fitting_at : (fields s : List ℕ) (j n : ℕ) → j + n ≤ length s → fitting_rows fields s j n ≡ fits_at (at_rows fields j n) (drop j s)
unfolding fitting_rows fits_at at_rows
fitting_at fields s j zero h = refl
fitting_at fields s j (suc n) h =
    ap (λ (b : Bool). is_fitting (get_or s j 0) (field_row fields j) && b) (fitting_at fields s (suc j) n (omega arith))
    ∙ ap (fits_at (field_row fields j ∷ at_rows fields (suc j) n)) (sym (drop-cons s j 0 (omega arith)))

pub stored_fitting : (t : Tables) → lawful t ≡ true → (s : List ℕ) → length t.fields / field_row_width ≤ length s
    → fitting_rows t.fields s 0 (length t.fields / field_row_width) ≡ fits (device_in t).sizes s
stored_fitting t e s h =
    let n : 0 + length t.fields / field_row_width ≤ length s = omega arith in
    fitting_at t.fields s 0 (length t.fields / field_row_width) n ∙ ap (λ (l : List FieldAt). fits_at l s) (sym (stored_at t e)) ∙ sym (fits_fields (stored_fields t) s)

-- ---- a reset

resets_at : List FieldAt → List ℕ
resets_at [] = []
resets_at (f ∷ fs) = reset_in f ∷ resets_at fs

resets_fields : (m : List View) → resets m ≡ resets_at (fields_at m)
unfolding resets resets_at fields_at
resets_fields [] = refl
resets_fields (c ∷ m) = ap (λ (l : List ℕ). reset_in c.field ∷ l) (resets_fields m)

resets_rows : (fields : List ℕ) (j n : ℕ) → resets_from fields j n ≡ resets_at (at_rows fields j n)
unfolding resets_from resets_at at_rows
resets_rows fields j zero = refl
resets_rows fields j (suc n) = ap (λ (l : List ℕ). reset_in (field_row fields j) ∷ l) (resets_rows fields (suc j) n)

pub stored_reset : (t : Tables) → lawful t ≡ true → (s : List ℕ)
    → resets_from t.fields 0 (length t.fields / field_row_width) ++ drop (length t.fields / field_row_width) s ≡ resets (stored_fields t) ++ drop (length (device_in t).sizes) s
stored_reset t e s =
    ap₂ (λ (l : List ℕ) (n : ℕ). l ++ drop n s)
    (resets_rows t.fields 0 (length t.fields / field_row_width) ∙ ap resets_at (sym (stored_at t e)) ∙ sym (resets_fields (stored_fields t)))
    (sym (stored_count t e))

-- a reset that is no wider than its field fits
narrow_fits : (f : FieldAt) → is_reset_wide f ≡ false → is_fitting (reset_in f) f ≡ true
unfolding is_reset_wide
narrow_fits f e = by f.values.reset e
  where
    same : suc f.high.0 - f.low.0 ≡ f.high.0 + 1 - f.low.0
    same = omega arith

    by : (g : Option ℕ) → is_wide g (suc f.high.0 - f.low.0) ≡ false → ltb (or_else 0 g) (2 ^ (f.high.0 + 1 - f.low.0)) ≡ true
    by None q = lt-ltb 0 (2 ^ (f.high.0 + 1 - f.low.0)) (pow_pos (f.high.0 + 1 - f.low.0))
    by (Some n) q = lt-ltb n (2 ^ (f.high.0 + 1 - f.low.0)) (rw same at (leb-false (2 ^ (suc f.high.0 - f.low.0)) n q))

resets_fit : (fields rest : List ℕ) (j n : ℕ) → ((k : ℕ) → j ≤ k → k < j + n → is_reset_wide (field_row fields k) ≡ false)
    → fits_at (at_rows fields j n) (resets_at (at_rows fields j n) ++ rest) ≡ true
unfolding fits_at resets_at at_rows
resets_fit fields rest j zero h = refl
resets_fit fields rest j (suc n) h =
    ap₂ (λ (a b : Bool). a && b) (narrow_fits (field_row fields j) (h j (omega arith) (omega arith))) (resets_fit fields rest (suc j) n (λ k l m. h k (omega arith) (omega arith)))

pub stored_reset_fits : (t : Tables) → lawful t ≡ true → (rest : List ℕ) → fits (device_in t).sizes (resets (stored_fields t) ++ rest) ≡ true
stored_reset_fits t e rest =
    fits_fields (stored_fields t) (resets (stored_fields t) ++ rest)
    ∙ ap₂ (λ (l : List FieldAt) (r : List ℕ). fits_at l (r ++ rest)) (stored_at t e) (resets_fields (stored_fields t) ∙ ap resets_at (stored_at t e))
    ∙ resets_fit t.fields rest 0 (length t.fields / field_row_width) (λ k l m. (all_within t e k (omega arith)).narrow)
