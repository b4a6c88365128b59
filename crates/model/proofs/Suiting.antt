-- How lawful rows come to be suited, and how a loop over all field rows judges whether a store fits.
use mathlib.Core.Path.{◌≡◌, refl, sym, ap, ◌∙◌, subst}
use mathlib.Core.Bool.{Bool, true, false, not, ◌&&◌, ◌||◌}
use mathlib.Core.List.{List, [], ◌∷◌}
use Prim.Native.Nat.{ℕ, zero, suc, ◌^◌, ◌≤◌, ◌<◌, zero-le, suc-le-suc}
use native.Mathlib.Nat.{not-suc-le-zero, le_of_suc-le-suc}
use native.Mathlib.Omega.{arith}
use lib.ListN.{length, get_or}
use lib.Dec.{eqb, ltb}
use borrow.Author.Tests.{ltb-true, lt-ltb, eqb-true, not-false}
use Rattle.chars.proofs.Laws.{and_left, and_right, and_both, or_left}
use Rattle.fields.specs.Codes.{read_code}
use Rattle.fields.specs.declared.ReadEffect.TheVariants as onread
use Rattle.fields.specs.declared.FieldType.{FieldType}
use Rattle.fields.specs.Fields as fields
use Rattle.model.specs.declared.View.{View}
use Rattle.model.specs.Model.{Device, size, fits, view_in}
use Rattle.model.specs.Repeats.{changed_by_reading}
use Rattle.model.specs.Suited.{Suited}
use Rattle.model.proofs.Fits.{fits_at_lem, fits_made}
use Rattle.model.proofs.Retry.{fails}
use Rattle.chars.proofs.Laws.{differ}

-- ---- 12

has_effect : (v : FieldType) → changed_by_reading v ≡ true → ltb 0 v.onread ≡ true
has_effect v e = by (eqb v.onread (read_code onread.Rclr)) (eqb v.onread (read_code onread.Rset)) refl refl e
  where
    by : (p q : Bool) → eqb v.onread (read_code onread.Rclr) ≡ p → eqb v.onread (read_code onread.Rset) ≡ q → p || q ≡ true → ltb 0 v.onread ≡ true
    by true q h k z = lt-ltb 0 v.onread (omega (arith, eqb-true v.onread (read_code onread.Rclr) h))
    by false true h k z = lt-ltb 0 v.onread (omega (arith, eqb-true v.onread (read_code onread.Rset) k))
    by false false h k z = differ (sym z)

-- rule 12 of rows gives what reads ask of a view
pub usable_by_12 : (v : FieldType) → fields.has_unusable_effect v ≡ false → changed_by_reading v ≡ true → fields.is_readable v ≡ true
unfolding fields.has_unusable_effect
usable_by_12 v e h =
    let r = fields.is_readable v in
    let first : ltb 0 v.onread && not r ≡ false = or_left (ltb 0 v.onread && not r) (ltb 0 v.onwrite && not (fields.is_writable v)) e in
    not-false r (sym (ap (λ (b : Bool). b && not r) (has_effect v h)) ∙ first)

-- ---- whether a store fits, by the field rows

-- the number of each field row fits that field's width
unfoldable pub rows_fit : List View → List ℕ → Bool
rows_fit [] s = true
rows_fit (c ∷ cs) s = ltb (get_or s c.index 0) (2 ^ size c) && rows_fit cs s

-- each number is shown by some row: the field rows that are no alias's
pub record Covered (d : Device) : Type 0 where
  pub view : ℕ → ℕ
  pub row : (f : ℕ) → f < length d.sizes → view f < length d.views
  pub index : (f : ℕ) → f < length d.sizes → (view_in d.views (view f)).index ≡ f

rows_at : (cs : List View) (s : List ℕ) → rows_fit cs s ≡ true → (k : ℕ) → k < length cs → get_or s (view_in cs k).index 0 < 2 ^ size (view_in cs k)
unfolding rows_fit
rows_at [] s e k h = absurd (not-suc-le-zero h)
rows_at (c ∷ cs) s e zero h =
    ltb-true (get_or s c.index 0) (2 ^ size c) (and_left (ltb (get_or s c.index 0) (2 ^ size c)) (rows_fit cs s) e)
rows_at (c ∷ cs) s e (suc k) h = rows_at cs s (and_right (ltb (get_or s c.index 0) (2 ^ size c)) (rows_fit cs s) e) k (le_of_suc-le-suc h)

rows_made : (cs : List View) (s : List ℕ) → ((k : ℕ) → k < length cs → get_or s (view_in cs k).index 0 < 2 ^ size (view_in cs k)) → rows_fit cs s ≡ true
unfolding rows_fit
rows_made [] s h = refl
rows_made (c ∷ cs) s h =
    and_both (ltb (get_or s c.index 0) (2 ^ size c)) (rows_fit cs s) (lt-ltb (get_or s c.index 0) (2 ^ size c) (h 0 (suc-le-suc zero-le)))
    (rows_made cs s (λ k p. h (suc k) (suc-le-suc p)))

same_test : (p q : Bool) → (p ≡ true → q ≡ true) → (q ≡ true → p ≡ true) → p ≡ q
same_test true q f g = sym (f refl)
same_test false q f g = sym (fails q (λ e. differ (sym (g e))))

-- with a store that is long enough, a loop over all field rows, aliases too, judges the same
pub rows_fit_lem : (d : Device) → Suited d → Covered d → (s : List ℕ) → length d.sizes ≤ length s → rows_fit d.views s ≡ fits d.sizes s
rows_fit_lem d ok all s l =
    same_test (rows_fit d.views s) (fits d.sizes s)
    (λ e. fits_made d.sizes s l
    (λ f h. let k = all.view f in let p = all.row f h in
    subst (λ (g : ℕ). get_or s g 0 < 2 ^ get_or d.sizes g 0) (all.index f h)
    (subst (λ (n : ℕ). get_or s (view_in d.views k).index 0 < 2 ^ n) (sym (ok.each k p).same) (rows_at d.views s e k p))))
    (λ e. rows_made d.views s
    (λ k p. let c = view_in d.views k in let q = ok.each k p in
    subst (λ (n : ℕ). get_or s c.index 0 < 2 ^ n) q.same (fits_at_lem d.sizes s e c.index q.row)))
