-- The laws of bits, once over the width. Assumes nothing.
use mathlib.Core.Path.{◌≡◌, refl, sym, ap, ap₂, ◌∙◌, subst}
use mathlib.Core.Bool.{Bool, true, false, not, ◌||◌, ◌&&◌}
use Prim.Native.Nat.{ℕ, zero, suc, ◌+◌, ◌-◌, ◌*◌, ◌/◌, ◌%◌, ◌^◌, ◌<◌, max, min}
use native.Mathlib.Nat.{not-suc-le-zero, zero-add, mul_assoc, add-mul-div_right, add-mul-mod_self_right, mod-eq_of_lt, div-eq_of_lt, mod-lt, zero-lt-suc, pow-suc, zero-max, max-zero, suc-max-suc, min-le_left, zero-min, min-zero, suc-min-suc, mod-one}
use native.Mathlib.Omega.{arith}
use native.Mathlib.Numerals.{add-one, one-add}
use native.Mathlib.Decide.{dec_lt}
use lib.Arith.{digits_mod}
use lib.Dec.{eqb, eqb-suc-zero}
use lib.Pow.{pow_pos, pow-add, mod-pow-add}
use lib.Bits.{bit_or, or_shr, or_step, or_lt, bit_and, and_shr, and_step, and_lt}
use Rattle.bits.specs.Bits.{nonzero, digit, bit, number}

nonzero-digit : (b : Bool) → nonzero (digit b) ≡ b
nonzero-digit true = refl
nonzero-digit false = refl

digit-nonzero : (x : ℕ) → x < 2 → digit (nonzero x) ≡ x
digit-nonzero zero h = refl
digit-nonzero (suc zero) h = refl
digit-nonzero (suc (suc x)) h = absurd (omega arith)

-- the test that a word is not 0
pub nonzero_test : (x : ℕ) → not (eqb x 0) ≡ nonzero x
nonzero_test zero = refl
nonzero_test (suc x) = ap not (eqb-suc-zero x)

digit_lt : (b : Bool) → digit b < 2
digit_lt true = omega arith
digit_lt false = omega arith

-- ---- the number of some bits

pub number_lt : (n : ℕ) (f : ℕ → Bool) → number n f < 2 ^ n
unfolding number
number_lt zero f = omega arith
number_lt (suc n) f = go (f n) (number_lt n f)
  where
    go : (b : Bool) → number n f < 2 ^ n → number n f + digit b * 2 ^ n < 2 ^ suc n
    go true h = omega (arith, pow-suc 2 n)
    go false h = omega (arith, pow-suc 2 n)

pub number_ext : (n : ℕ) (f g : ℕ → Bool) → ((i : ℕ) → i < n → f i ≡ g i) → number n f ≡ number n g
unfolding number
number_ext zero f g h = refl
number_ext (suc n) f g h =
    ap₂ (λ (x : ℕ) (b : Bool). x + digit b * 2 ^ n) (number_ext n f g (λ i k. h i (omega arith))) (h n (omega arith))

-- a digit above bit i does not change it
above : (r d k i : ℕ) → bit (r + d * 2 ^ (suc k + i)) i ≡ bit r i
unfolding bit
above r d k i =
    ap nonzero
    (ap (λ (x : ℕ). (r + x) / 2 ^ i % 2)
    (ap (λ (x : ℕ). d * x) (pow-add 2 (suc k) i ∙ ap (λ (x : ℕ). x * 2 ^ i) (pow-suc 2 k))
    ∙ sym (mul_assoc d (2 ^ k * 2) (2 ^ i)) ∙ ap (λ (x : ℕ). x * 2 ^ i) (sym (mul_assoc d (2 ^ k) 2)))
    ∙ ap (λ (x : ℕ). x % 2) (add-mul-div_right r (d * 2 ^ k * 2) (pow_pos i))
    ∙ add-mul-mod_self_right (r / 2 ^ i) (d * 2 ^ k) 2)

-- the digit at n, above a number below 2 ^ n
top : (n r : ℕ) (b : Bool) → r < 2 ^ n → bit (r + digit b * 2 ^ n) n ≡ b
unfolding bit
top n r b h =
    ap nonzero
    (ap (λ (x : ℕ). x % 2) (add-mul-div_right r (digit b) (pow_pos n) ∙ ap (λ (x : ℕ). x + digit b) (div-eq_of_lt h) ∙ zero-add (digit b))
    ∙ mod-eq_of_lt (digit_lt b))
    ∙ nonzero-digit b

pub bit-number : (n : ℕ) (f : ℕ → Bool) (i : ℕ) → i < n → bit (number n f) i ≡ f i
unfolding number
bit-number zero f i h = absurd (not-suc-le-zero h)
bit-number (suc n) f i h = go (dec_lt i n) (bit-number n f i)
  where
    go : Dec (i < n) → (i < n → bit (number n f) i ≡ f i) → bit (number n f + digit (f n) * 2 ^ n) i ≡ f i
    go (yes k) ih =
        let e : suc (n - suc i) + i ≡ n = omega arith in
        subst (λ (m : ℕ). bit (number n f + digit (f n) * 2 ^ m) i ≡ bit (number n f) i) e (above (number n f) (digit (f n)) (n - suc i) i)
        ∙ ih k
    go (no k) ih =
        let e : n ≡ i = omega arith in
        subst (λ (m : ℕ). bit (number n f + digit (f n) * 2 ^ n) m ≡ f m) e (top n (number n f) (f n) (number_lt n f))

-- ---- a number is that of its bits

bit-digit : (n v : ℕ) → digit (bit v n) ≡ v / 2 ^ n % 2
unfolding bit
bit-digit n v = digit-nonzero (v / 2 ^ n % 2) (mod-lt (v / 2 ^ n) (zero-lt-suc 1))

number_mod : (n v : ℕ) → number n (bit v) ≡ v % 2 ^ n
unfolding number
number_mod zero v = sym (mod-one v)
number_mod (suc n) v =
    ap₂ (λ (x y : ℕ). x + y * 2 ^ n) (number_mod n v) (bit-digit n v)
    ∙ swap
    ∙ sym (mod-pow-add v 1 n) ∙ ap (λ (k : ℕ). v % 2 ^ k) (one-add n)
  where
    swap : v % 2 ^ n + (v / 2 ^ n % 2) * 2 ^ n ≡ (v / 2 ^ n % 2 ^ 1) * 2 ^ n + v % 2 ^ n
    swap = omega arith

pub number_bit : (n v : ℕ) → v < 2 ^ n → number n (bit v) ≡ v
number_bit n v h = number_mod n v ∙ mod-eq_of_lt h

-- two numbers below 2 ^ n with the same bits are equal
bit_ext : (n a b : ℕ) → a < 2 ^ n → b < 2 ^ n → ((i : ℕ) → i < n → bit a i ≡ bit b i) → a ≡ b
bit_ext n a b ha hb h = sym (number_bit n a ha) ∙ number_ext n (bit a) (bit b) h ∙ number_bit n b hb

-- ---- words joined by or, bit by bit

nonzero_max : (x y : ℕ) → nonzero (max x y) ≡ nonzero x || nonzero y
nonzero_max zero y = ap nonzero (zero-max y)
nonzero_max (suc x) zero = ap nonzero (max-zero (suc x))
nonzero_max (suc x) (suc y) = ap nonzero (suc-max-suc x y)

low_two : (x : ℕ) → x % 2 < 2
low_two x = mod-lt x (zero-lt-suc 1)

bit-bit_or : (a b i : ℕ) → bit (bit_or a b) i ≡ bit a i || bit b i
unfolding bit
bit-bit_or a b i =
    let p = a / 2 ^ i in
    let q = b / 2 ^ i in
    ap (λ (x : ℕ). nonzero (x % 2)) (or_shr a b i ∙ or_step p q)
    ∙ ap nonzero (digits_mod (bit_or (p / 2) (q / 2)) (omega (arith, low_two p, low_two q)))
    ∙ nonzero_max (p % 2) (q % 2)

pub or_number : (n : ℕ) (f g : ℕ → Bool) → bit_or (number n f) (number n g) ≡ number n (λ i. f i || g i)
or_number n f g =
    bit_ext n (bit_or (number n f) (number n g)) (number n (λ i. f i || g i))
    (or_lt n (number n f) (number n g) (number_lt n f) (number_lt n g)) (number_lt n (λ i. f i || g i))
    (λ i h. bit-bit_or (number n f) (number n g) i ∙ ap₂ (λ (x y : Bool). x || y) (bit-number n f i h) (bit-number n g i h)
    ∙ sym (bit-number n (λ j. f j || g j) i h))

-- ---- the bits that two words share

nonzero_min : (x y : ℕ) → nonzero (min x y) ≡ nonzero x && nonzero y
nonzero_min zero y = ap nonzero (zero-min y)
nonzero_min (suc x) zero = ap nonzero (min-zero (suc x))
nonzero_min (suc x) (suc y) = ap nonzero (suc-min-suc x y)

min_lt : (x y : ℕ) → x < 2 → min x y < 2
min_lt x y h = omega (arith, min-le_left x y)

bit-bit_and : (a b i : ℕ) → bit (bit_and a b) i ≡ bit a i && bit b i
unfolding bit
bit-bit_and a b i =
    let p = a / 2 ^ i in
    let q = b / 2 ^ i in
    ap (λ (x : ℕ). nonzero (x % 2)) (and_shr a b i ∙ and_step p q)
    ∙ ap nonzero (digits_mod (bit_and (p / 2) (q / 2)) (min_lt (p % 2) (q % 2) (low_two p)))
    ∙ nonzero_min (p % 2) (q % 2)

pub and_number : (n : ℕ) (f g : ℕ → Bool) → bit_and (number n f) (number n g) ≡ number n (λ i. f i && g i)
and_number n f g =
    bit_ext n (bit_and (number n f) (number n g)) (number n (λ i. f i && g i))
    (and_lt n (number n f) (number n g) (number_lt n f) (number_lt n g)) (number_lt n (λ i. f i && g i))
    (λ i h. bit-bit_and (number n f) (number n g) i ∙ ap₂ (λ (x y : Bool). x && y) (bit-number n f i h) (bit-number n g i h)
    ∙ sym (bit-number n (λ j. f j && g j) i h))

-- one bit more, as a loop adds it
pub number_more : (f : ℕ → Bool) (i acc r : ℕ) (b : Bool) → acc ≡ number i f → b ≡ f i → r ≡ acc + digit b * 2 ^ i → r ≡ number (i + 1) f
unfolding number
number_more f i acc r b p q e =
    e ∙ ap₂ (λ (x : ℕ) (t : Bool). x + digit t * 2 ^ i) p q ∙ ap (λ (k : ℕ). number k f) (sym (add-one i))

pub number-below : (f : ℕ → Bool) (i acc : ℕ) → acc ≡ number i f → acc < 2 ^ i
number-below f i acc p = subst (λ (x : ℕ). x < 2 ^ i) (sym p) (number_lt i f)

pub number_zero : (f : ℕ → Bool) → 0 ≡ number 0 f
unfolding number
number_zero f = refl
