-- Laws of the definitions, in the form that the proofs use.
use mathlib.Core.Bool.{Bool, true, false, ◌||◌}
use mathlib.Core.Path.{◌≡◌, refl, sym, ap, ◌∙◌}
use Prim.Native.Nat.{ℕ, zero, suc, ◌+◌, ◌-◌, ◌*◌, ◌^◌, ◌<◌, ◌≤◌}
use native.Mathlib.Nat.{pow-suc}
use native.Mathlib.Omega.{arith}
use lib.Count.{ones}
use lib.Dec.{eqb, leb, ltb}
use borrow.Author.Tests.{eq-eqb, ne_eqb, eqb-true, eqb-false, lt-leb, ltb-true, ltb-false}
use Rattle.std.proofs.lemmas.Nat.{ones_cat, pow_pos, zero_from_ones}
use Rattle.property_values.specs.Settings.{is_power_to, is_alignment}

-- a power of two has one bit
bit_above : (k r : ℕ) → r < 2 ^ k → ones (2 ^ k + r) ≡ 1 + ones r
unfolding ones
bit_above k r h = let n : 1 * 2 ^ k ≡ 2 ^ k = omega arith in rw n at (ones_cat k 1 r h)

one_bit : (k n : ℕ) → n ≡ 2 ^ k → ones n ≡ 1
unfolding ones
one_bit k n e = let m : n ≡ 2 ^ k + 0 = omega arith in rw m (bit_above k 0 (pow_pos k))

power_parts : (k n : ℕ) → is_power_to k n ≡ true → (ones n ≡ 1) × (n ≤ 2 ^ k)
unfolding is_power_to
power_parts zero n e = let m : n ≡ 2 ^ 0 = eqb-true n 1 e in (one_bit 0 n m, omega arith)
power_parts (suc k) n e = by (eqb n (2 ^ suc k)) refl e (power_parts k n)
  where
    by : (b : Bool) → eqb n (2 ^ suc k) ≡ b → (b || is_power_to k n) ≡ true
        → (is_power_to k n ≡ true → (ones n ≡ 1) × (n ≤ 2 ^ k)) → (ones n ≡ 1) × (n ≤ 2 ^ suc k)
    by true q e l = let m : n ≡ 2 ^ suc k = eqb-true n (2 ^ suc k) q in (one_bit (suc k) n m, omega arith)
    by false q e l = let p : (ones n ≡ 1) × (n ≤ 2 ^ k) = l e in (p.0, omega (arith, pow-suc 2 k))

-- and what has one bit is a power of two
power_found : (k n : ℕ) → n < 2 ^ suc k → ones n ≡ 1 → is_power_to k n ≡ true
unfolding is_power_to ones
power_found zero n h e = by n h e
  where
    by : (m : ℕ) → m < 2 ^ 1 → ones m ≡ 1 → eqb m 1 ≡ true
    by zero h e = absurd (omega arith)
    by (suc m) h e = eq-eqb (suc m) 1 (omega arith)
power_found (suc k) n h e = by (ltb n (2 ^ suc k)) refl (λ l. power_found k n l e)
  where
    by : (b : Bool) → ltb n (2 ^ suc k) ≡ b → (n < 2 ^ suc k → is_power_to k n ≡ true)
        → (eqb n (2 ^ suc k) || is_power_to k n) ≡ true
    by true q l =
        let m : n < 2 ^ suc k = ltb-true n (2 ^ suc k) q in
        rw (ne_eqb n (2 ^ suc k) (λ f. omega arith)) (l m)
    by false q l =
        let m : 2 ^ suc k ≤ n = ltb-false n (2 ^ suc k) q in
        let r : ℕ = n - 2 ^ suc k in
        let s : n ≡ 2 ^ suc k + r = omega arith in
        let f : r < 2 ^ suc k = omega (arith, pow-suc 2 (suc k)) in
        let g : ones n ≡ 1 + ones r = ap ones s ∙ bit_above (suc k) r f in
        let z : r ≡ 0 = zero_from_ones r (omega arith) in
        rw (eq-eqb n (2 ^ suc k) (omega arith))

module _ (n : ℕ) where
  pub alignment_small : {b : Bool} → n ≤ 65536 → b ≡ eqb (ones n) 1 → b ≡ is_alignment n
  alignment_small h e = e ∙ sym (by (eqb (ones n) 1) refl (is_power_to 16 n) refl)
    where
      by : (b : Bool) → eqb (ones n) 1 ≡ b → (c : Bool) → is_power_to 16 n ≡ c → c ≡ b
      by true q c f = sym f ∙ power_found 16 n (omega arith) (eqb-true (ones n) 1 q)
      by false q true f = absurd (eqb-false (ones n) 1 q (power_parts 16 n f).0)
      by false q false f = refl

  pub alignment_large : 65536 < n → leb n 65536 ≡ is_alignment n
  alignment_large h = lt-leb n 65536 h ∙ sym (by (is_power_to 16 n) refl)
    where
      by : (c : Bool) → is_power_to 16 n ≡ c → c ≡ false
      by true f = absurd (let p : (ones n ≡ 1) × (n ≤ 65536) = power_parts 16 n f in omega arith)
      by false f = refl
