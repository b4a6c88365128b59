-- Stores under a table of actions: of the numbers' sizes alone, so for numbers and marks alike.
use mathlib.Core.Path.{◌≡◌, refl, sym, ap, ap₂, ◌∙◌}
use mathlib.Core.Bool.{Bool, true}
use mathlib.Core.List.{List, [], ◌∷◌}
use Prim.Native.Nat.{ℕ, zero, suc, ◌^◌, ◌≤◌, ◌<◌, zero-le, suc-le-suc}
use native.Mathlib.Nat.{not-suc-le-zero, le_of_suc-le-suc, lt_of_lt_of_le}
use native.Mathlib.Omega.{arith}
use lib.ListN.{length, get_or, set, drop, replicate}
use lib.Dec.{eqb, eqb-zero-suc, eqb-suc-zero, eqb-suc-suc}
use lib.Pow.{pow_mono}
use Rattle.std.specs.Prelude.{if◌then◌else◌}
use Rattle.bits.specs.Bits.{bit}
use Rattle.bits.proofs.BitLaws.{bit-number, number_ext, number_bit, number_lt}
use Rattle.actions.specs.declared.Action.{Action}
use Rattle.actions.specs.declared.Action.TheVariants.{Kept}
use Rattle.actions.specs.Actions.{apply, followed_by, copied}
use Rattle.actions.proofs.ActionLaws.{apply_followed, apply-copied}
use Rattle.model.specs.Model.{fits, Words, Fitting, acted, bits_of}
use Rattle.model.specs.Lists.{Stored}
use Rattle.model.proofs.Fits.{fits_first, fits_rest, fits_more, fits_long, zeros_fit, zeros_words}

-- the store with an action on each bit, t f i on bit i of number f
unfoldable pub under : List ℕ → (ℕ → ℕ → Action) → List ℕ → List ℕ
under [] t s = s
under (n ∷ m) t [] = []
under (n ∷ m) t (v ∷ s) = acted n (t 0) v ∷ under m (λ f. t (suc f)) s

pub get_or_under : (m : List ℕ) (t : ℕ → ℕ → Action) (s : List ℕ) (f : ℕ) → f < length m → f < length s
    → get_or (under m t s) f 0 ≡ acted (get_or m f 0) (t f) (get_or s f 0)
unfolding under
get_or_under [] t s f h k = absurd (not-suc-le-zero h)
get_or_under (n ∷ m) t [] f h k = absurd (not-suc-le-zero k)
get_or_under (n ∷ m) t (v ∷ s) zero h k = refl
get_or_under (n ∷ m) t (v ∷ s) (suc f) h k = get_or_under m (λ g. t (suc g)) s f (le_of_suc-le-suc h) (le_of_suc-le-suc k)

-- the stored bits afterwards
pub bit_under : (m : List ℕ) (t : ℕ → ℕ → Action) (s : List ℕ) → fits m s ≡ true → (f i : ℕ) → Stored m f i
    → bits_of (under m t s) f i ≡ apply (t f i) (bits_of s f i)
bit_under m t s h f i p =
    ap (λ (v : ℕ). bit v i) (get_or_under m t s f p.row (omega (arith, p.row, fits_long m s h)))
    ∙ bit-number (get_or m f 0) (λ j. apply (t f j) (bits_of s f j)) i p.place

pub fits_under : (m : List ℕ) (t : ℕ → ℕ → Action) (s : List ℕ) → fits m s ≡ true → fits m (under m t s) ≡ true
unfolding under
fits_under [] t s h = h
fits_under (n ∷ m) t [] h = h
fits_under (n ∷ m) t (v ∷ s) h =
    fits_more n m (acted n (t 0) v) (under m (λ f. t (suc f)) s) (number_lt n (λ i. apply (t 0 i) (bit v i)))
    (fits_under m (λ f. t (suc f)) s (fits_rest n m v s h))

-- actions that agree at each stored bit leave the same store
pub under_ext : (m : List ℕ) (t u : ℕ → ℕ → Action) (s : List ℕ) → ((f i : ℕ) → Stored m f i → t f i ≡ u f i)
    → under m t s ≡ under m u s
unfolding under
under_ext [] t u s h = refl
under_ext (n ∷ m) t u [] h = refl
under_ext (n ∷ m) t u (v ∷ s) h =
    ap₂ (λ (x : ℕ) (l : List ℕ). x ∷ l)
    (number_ext n (λ i. apply (t 0 i) (bit v i)) (λ i. apply (u 0 i) (bit v i))
    (λ i k. ap (λ (a : Action). apply a (bit v i)) (h 0 i (record { row = suc-le-suc zero-le; place = k }))))
    (under_ext m (λ f. t (suc f)) (λ f. u (suc f)) s
    (λ f i p. h (suc f) i (record { row = suc-le-suc p.row; place = p.place })))

-- so do actions that have equal effects on each stored bit of this store
pub under_same : (m : List ℕ) (t u : ℕ → ℕ → Action) (s : List ℕ)
    → ((f i : ℕ) → Stored m f i → apply (t f i) (bits_of s f i) ≡ apply (u f i) (bits_of s f i)) → under m t s ≡ under m u s
unfolding under
under_same [] t u s h = refl
under_same (n ∷ m) t u [] h = refl
under_same (n ∷ m) t u (v ∷ s) h =
    ap₂ (λ (x : ℕ) (l : List ℕ). x ∷ l)
    (number_ext n (λ i. apply (t 0 i) (bit v i)) (λ i. apply (u 0 i) (bit v i))
    (λ i k. h 0 i (record { row = suc-le-suc zero-le; place = k })))
    (under_same m (λ f. t (suc f)) (λ f. u (suc f)) s
    (λ f i p. h (suc f) i (record { row = suc-le-suc p.row; place = p.place })))

pub under_kept : (m : List ℕ) (s : List ℕ) → fits m s ≡ true → under m (λ f i. Kept) s ≡ s
unfolding under
under_kept [] s h = refl
under_kept (n ∷ m) [] h = refl
under_kept (n ∷ m) (v ∷ s) h =
    ap₂ (λ (x : ℕ) (l : List ℕ). x ∷ l) (number_bit n v (fits_first n m v s h)) (under_kept m s (fits_rest n m v s h))

-- actions one after the other
pub under_under : (m : List ℕ) (t u : ℕ → ℕ → Action) (s : List ℕ)
    → under m u (under m t s) ≡ under m (λ f i. followed_by (t f i) (u f i)) s
unfolding under
under_under [] t u s = refl
under_under (n ∷ m) t u [] = refl
under_under (n ∷ m) t u (v ∷ s) =
    ap₂ (λ (x : ℕ) (l : List ℕ). x ∷ l)
    (number_ext n (λ i. apply (u 0 i) (bit (acted n (t 0) v) i)) (λ i. apply (followed_by (t 0 i) (u 0 i)) (bit v i))
    (λ i k. ap (apply (u 0 i)) (bit-number n (λ j. apply (t 0 j) (bit v j)) i k) ∙ sym (apply_followed (t 0 i) (u 0 i) (bit v i))))
    (under_under m (λ f. t (suc f)) (λ f. u (suc f)) s)

-- numbers past the last stay
pub under_past : (m : List ℕ) (t : ℕ → ℕ → Action) (s : List ℕ) → drop (length m) (under m t s) ≡ drop (length m) s
unfolding under
under_past [] t s = refl
under_past (n ∷ m) t [] = refl
under_past (n ∷ m) t (v ∷ s) = under_past m (λ f. t (suc f)) s

-- a store of 64-bit numbers is left as one
pub words_under : (m : List ℕ) (t : ℕ → ℕ → Action) (s : List ℕ) → ((f : ℕ) → f < length m → get_or m f 0 ≤ 64) → Words s → Words (under m t s)
unfolding under
words_under m t s k h = record { each = go m t s k h.each }
  where
    go : (m : List ℕ) (t : ℕ → ℕ → Action) (s : List ℕ) → ((f : ℕ) → f < length m → get_or m f 0 ≤ 64)
        → ((f : ℕ) → f < length s → get_or s f 0 < 2 ^ 64) → (f : ℕ) → f < length (under m t s) → get_or (under m t s) f 0 < 2 ^ 64
    go [] t s k h f p = h f p
    go (n ∷ m) t [] k h f p = h f p
    go (n ∷ m) t (v ∷ s) k h zero p = lt_of_lt_of_le (number_lt n (λ i. apply (t 0 i) (bit v i))) (pow_mono (k 0 (suc-le-suc zero-le)))
    go (n ∷ m) t (v ∷ s) k h (suc f) p =
        go m (λ g. t (suc g)) s (λ g q. k (suc g) (suc-le-suc q)) (λ g q. h (suc g) (suc-le-suc q)) f (le_of_suc-le-suc p)

-- actions on the bits of number k alone
abbrev pub only : ℕ → (ℕ → Action) → ℕ → ℕ → Action
only k t f i = if eqb k f then t i else Kept

-- one number set to itself under actions is the store under these on that number alone
pub set_under : (m : List ℕ) (k : ℕ) (t : ℕ → Action) (s : List ℕ) → fits m s ≡ true → k < length m
    → set s k (acted (get_or m k 0) t (get_or s k 0)) ≡ under m (only k t) s
unfolding under
set_under [] k t s h p = absurd (not-suc-le-zero p)
set_under (n ∷ m) k t [] h p = refl
set_under (n ∷ m) zero t (v ∷ s) h p =
    ap (λ (l : List ℕ). acted n t v ∷ l)
    (sym (under_kept m s (fits_rest n m v s h))
    ∙ under_ext m (λ f i. Kept) (λ f. only zero t (suc f)) s (λ f i q. ap (λ (b : Bool). if b then t i else Kept) (sym (eqb-zero-suc f))))
set_under (n ∷ m) (suc k) t (v ∷ s) h p =
    ap₂ (λ (x : ℕ) (l : List ℕ). x ∷ l)
    (sym (number_bit n v (fits_first n m v s h))
    ∙ number_ext n (bit v) (λ i. apply (only (suc k) t 0 i) (bit v i))
    (λ i q. ap (λ (b : Bool). apply (if b then t i else Kept) (bit v i)) (sym (eqb-suc-zero k))))
    (set_under m k t s (fits_rest n m v s h) (le_of_suc-le-suc p)
    ∙ under_ext m (only k t) (λ f. only (suc k) t (suc f)) s (λ f i q. ap (λ (b : Bool). if b then t i else Kept) (sym (eqb-suc-suc k f))))

-- for any bits, a fitting store that has them
abbrev pub store_of : List ℕ → (ℕ → ℕ → Bool) → List ℕ
store_of m b = under m (λ f i. copied (b f i)) (replicate (length m) 0)

pub store_of_fits : (m : List ℕ) (b : ℕ → ℕ → Bool) → fits m (store_of m b) ≡ true
store_of_fits m b = fits_under m (λ f i. copied (b f i)) (replicate (length m) 0) (zeros_fit m)

pub store_of_fitting : (m : List ℕ) → ((f : ℕ) → f < length m → get_or m f 0 ≤ 64) → (b : ℕ → ℕ → Bool) → Fitting m (store_of m b)
store_of_fitting m k b =
    record {
      fitting = store_of_fits m b;
      words = words_under m (λ f i. copied (b f i)) (replicate (length m) 0) k (zeros_words (length m));
    }

pub store_of_bit : (m : List ℕ) (b : ℕ → ℕ → Bool) (f i : ℕ) → Stored m f i → bits_of (store_of m b) f i ≡ b f i
store_of_bit m b f i p =
    bit_under m (λ g k. copied (b g k)) (replicate (length m) 0) (zeros_fit m) f i p
    ∙ apply-copied (b f i) (bits_of (replicate (length m) 0) f i)
