-- Stores that fit: what the test says of each number, and the store of zeros.
use mathlib.Core.Path.{◌≡◌, refl, sym, ap, ◌∙◌, subst}
use mathlib.Core.Bool.{Bool, true, false}
use mathlib.Core.List.{List, [], ◌∷◌}
use Prim.Native.Nat.{ℕ, zero, suc, ◌+◌, ◌-◌, ◌^◌, ◌≤◌, ◌<◌, zero-le, suc-le-suc}
use native.Mathlib.Nat.{not-suc-le-zero, le_of_suc-le-suc, le_of_eq, lt_of_lt_of_le}
use native.Mathlib.Omega.{arith}
use lib.ListN.{length, get_or, drop, replicate, length-replicate, length-drop, get_or-replicate}
use lib.Seq.{get_or-drop}
use lib.Dec.{ltb}
use lib.Pow.{pow_pos, pow_mono}
use borrow.Author.Tests.{ltb-true, ltb-false, lt-ltb}
use Rattle.chars.proofs.Laws.{and_left, and_right, and_both}
use Rattle.model.specs.Model.{fits, Words}
use Rattle.chars.proofs.Laws.{differ}

module _ (n : ℕ) (m : List ℕ) (v : ℕ) (s : List ℕ) where
  pub fits_first : fits (n ∷ m) (v ∷ s) ≡ true → v < 2 ^ n
  unfolding fits
  fits_first h = ltb-true v (2 ^ n) (and_left (ltb v (2 ^ n)) (fits m s) h)

  pub fits_rest : fits (n ∷ m) (v ∷ s) ≡ true → fits m s ≡ true
  unfolding fits
  fits_rest h = and_right (ltb v (2 ^ n)) (fits m s) h

  pub fits_more : v < 2 ^ n → fits m s ≡ true → fits (n ∷ m) (v ∷ s) ≡ true
  unfolding fits
  fits_more k h = and_both (ltb v (2 ^ n)) (fits m s) (lt-ltb v (2 ^ n) k) h

-- a store that fits has all its numbers
pub fits_long : (m : List ℕ) (s : List ℕ) → fits m s ≡ true → length m ≤ length s
unfolding fits
fits_long [] s h = zero-le
fits_long (n ∷ m) [] h = differ (sym h)
fits_long (n ∷ m) (v ∷ s) h = suc-le-suc (fits_long m s (fits_rest n m v s h))

-- and each is below its bound
pub fits_at_lem : (m : List ℕ) (s : List ℕ) → fits m s ≡ true → (f : ℕ) → f < length m → get_or s f 0 < 2 ^ get_or m f 0
unfolding fits
fits_at_lem [] s h f k = absurd (not-suc-le-zero k)
fits_at_lem (n ∷ m) [] h f k = differ (sym h)
fits_at_lem (n ∷ m) (v ∷ s) h zero k = fits_first n m v s h
fits_at_lem (n ∷ m) (v ∷ s) h (suc f) k = fits_at_lem m s (fits_rest n m v s h) f (le_of_suc-le-suc k)

pub fits_made : (m : List ℕ) (s : List ℕ) → length m ≤ length s → ((f : ℕ) → f < length m → get_or s f 0 < 2 ^ get_or m f 0) → fits m s ≡ true
unfolding fits
fits_made [] s l k = refl
fits_made (n ∷ m) [] l k = absurd (not-suc-le-zero l)
fits_made (n ∷ m) (v ∷ s) l k =
    fits_more n m v s (k 0 (suc-le-suc zero-le)) (fits_made m s (le_of_suc-le-suc l) (λ f h. k (suc f) (suc-le-suc h)))

-- a number 0 for each fits
pub zeros_fit : (m : List ℕ) → fits m (replicate (length m) 0) ≡ true
zeros_fit m =
    fits_made m (replicate (length m) 0) (le_of_eq (sym (length-replicate (length m) 0)))
    (λ f h. subst (λ (v : ℕ). v < 2 ^ get_or m f 0) (sym (get_or-replicate (length m) f 0 0 h)) (pow_pos (get_or m f 0)))

pub zeros_words : (n : ℕ) → Words (replicate n 0)
zeros_words n =
    record {
      each = λ f h. subst (λ (v : ℕ). v < 2 ^ 64) (sym (get_or-replicate n f 0 0 (subst (λ (l : ℕ). f < l) (length-replicate n 0) h))) (pow_pos 64);
    }

-- a store that fits, in numbers of at most 64 bits, with the numbers of such a store past them
pub fits_words : (m s u : List ℕ) → ((f : ℕ) → f < length m → get_or m f 0 ≤ 64) → fits m u ≡ true → drop (length m) u ≡ drop (length m) s → Words s → Words u
fits_words m s u narrow h past w = record { each = λ f p. by f p (ltb f (length m)) refl }
  where
    long : length u - length m ≡ length s - length m
    long = sym (length-drop (length m) u) ∙ ap length past ∙ length-drop (length m) s

    by : (f : ℕ) → f < length u → (b : Bool) → ltb f (length m) ≡ b → get_or u f 0 < 2 ^ 64
    by f p true e = let q = ltb-true f (length m) e in lt_of_lt_of_le (fits_at_lem m u h f q) (pow_mono (narrow f q))
    by f p false e =
        let q = ltb-false f (length m) e in
        let z : length m + (f - length m) ≡ f = omega arith in
        let same : get_or u f 0 ≡ get_or s f 0 =
        ap (λ (k : ℕ). get_or u k 0) (sym z) ∙ sym (get_or-drop (length m) u (f - length m) 0) ∙ ap (λ (l : List ℕ). get_or l (f - length m) 0) past
        ∙ get_or-drop (length m) s (f - length m) 0 ∙ ap (λ (k : ℕ). get_or s k 0) z in
        subst (λ (v : ℕ). v < 2 ^ 64) (sym same) (w.each f (omega (arith, long)))
