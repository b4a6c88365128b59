-- Laws of covers: a field meets a cover with one field more where it meets the cover or overlaps that field unlawfully. Assumes nothing.
use mathlib.Core.Bool.{Bool, true, false, ◌||◌, ◌&&◌, not, or-false, or-true, and-true, and-false, and-or_distrib_left}
use mathlib.Core.Path.{◌≡◌, refl, sym, ap, ap₂, ◌∙◌}
use Prim.Native.Nat.{ℕ, zero, suc, ◌+◌, ◌-◌, ◌*◌, ◌/◌, ◌%◌, ◌^◌, ◌≤◌, ◌<◌}
use native.Mathlib.Nat.{pow-suc, zero-div}
use native.Mathlib.Omega.{arith}
use native.Mathlib.Decide.{dec_lt, dec_le}
use lib.Dec.{eqb, leb, ltb}
use lib.Pow.{pow_pos, pow_mono, shl_exact, high, ones_lt, ones_split}
use lib.Bits.{bit_and, bit_or}
use borrow.Author.Tests.{ltb-true, leb-true, leb-false, le-leb, lt-leb, eqb-true}
use Rattle.fields.specs.Codes.{access_code}
use Rattle.fields.specs.declared.AccessRight.TheVariants as access
use Rattle.fields.specs.Fields.{is_read_write_pair, is_overlap}
use Rattle.fields.specs.declared.FieldAt.{FieldAt}
use Rattle.bits.specs.Bits.{nonzero, digit, bit, number}
use Rattle.bits.proofs.BitLaws.{nonzero_test, number_ext, number_bit, bit-number, or_number, and_number}
use Rattle.cover.specs.declared.Cover.{Cover}
use Rattle.cover.specs.Covers.{any_below, is_narrow, has_bit, closes, closed_to, closed_by, meets_in, nothing_covered, cover_with}

-- ---- a field below bit 64

both : (a b : Bool) → (a && b) ≡ true → (a ≡ true) × (b ≡ true)
both true b e = (refl, e)
both false b e = cc

module _ (f : FieldAt) where
  pub narrow_within : is_narrow f ≡ true → (f.low.0 ≤ f.high.0) × (f.high.0 < 64)
  unfolding is_narrow
  narrow_within e =
      let y = both (leb f.low.0 f.high.0) (ltb f.high.0 64) e in
      (leb-true f.low.0 f.high.0 y.0, ltb-true f.high.0 64 y.1)

-- ---- the bits of a field as a word

abbrev within : ℕ → ℕ → ℕ → Bool
within l h i = leb l i && leb i h

module _ (l h : ℕ) where
  -- no bit below the lowest
  none_within : (n : ℕ) → n ≤ l → number n (within l h) ≡ 0
  unfolding number
  none_within zero k = refl
  none_within (suc n) k = rw (none_within n (omega arith), lt-leb l n k) (omega arith)

  -- every bit from the lowest on
  some-within : (n : ℕ) → l ≤ n → n ≤ suc h → number n (within l h) + 2 ^ l ≡ 2 ^ n
  unfolding number
  some-within zero k m = let z : l ≡ 0 = omega arith in rw z
  some-within (suc n) k m = go (dec_le l n) (λ a. some-within n a (omega arith))
    where
      go : Dec (l ≤ n) → (l ≤ n → number n (within l h) + 2 ^ l ≡ 2 ^ n) → number (suc n) (within l h) + 2 ^ l ≡ 2 ^ suc n
      go (yes a) ih = rw (le-leb l n a, le-leb n h (omega arith)) (omega (arith, ih a, pow-suc 2 n))
      go (no a) ih = let z : l ≡ suc n = omega arith in rw (none_within (suc n) (omega arith), z) (omega arith)

  -- no bit above the highest
  all_within : (n : ℕ) → l ≤ h → suc h ≤ n → number n (within l h) + 2 ^ l ≡ 2 ^ suc h
  unfolding number
  all_within zero k m = absurd (omega arith)
  all_within (suc n) k m = go (dec_le (suc h) n) (all_within n k)
    where
      go : Dec (suc h ≤ n) → (suc h ≤ n → number n (within l h) + 2 ^ l ≡ 2 ^ suc h) → number (suc n) (within l h) + 2 ^ l ≡ 2 ^ suc h
      go (yes a) ih = rw (le-leb l n (omega arith), lt-leb n h a) (omega (arith, ih a))
      go (no a) ih = let z : n ≡ h = omega arith in some-within (suc n) (omega arith) (omega arith) ∙ ap (λ (x : ℕ). 2 ^ suc x) z

  module _ (k : l ≤ h) (m : h < 64) where
    low_shifted : (1 * 2 ^ l) % 2 ^ 64 ≡ 1 * 2 ^ l
    low_shifted = shl_exact 1 l 64 (omega arith) (omega arith)

    ones_to : (2 ^ 64 - 1) / 2 ^ (63 - h) ≡ 2 ^ suc h - 1
    ones_to =
        let z : suc h + (63 - h) ≡ 64 = omega arith in
        ap (λ (x : ℕ). x / 2 ^ (63 - h)) (ap (λ (x : ℕ). 2 ^ x - 1) (sym z) ∙ ones_split (suc h) (63 - h)) ∙ high (2 ^ suc h - 1) (63 - h) (ones_lt (63 - h))

    powers : 2 ^ l ≤ 2 ^ suc h
    powers = pow_mono (omega arith)

    -- what the code computes
    pub mask_one : 1 ≤ (1 * 2 ^ l) % 2 ^ 64
    mask_one = omega (arith, low_shifted, pow_pos l)

    pub mask_less : (1 * 2 ^ l) % 2 ^ 64 - 1 ≤ (2 ^ 64 - 1) / 2 ^ (63 - h)
    mask_less = omega (arith, low_shifted, ones_to, powers)

    pub mask_is : (2 ^ 64 - 1) / 2 ^ (63 - h) - ((1 * 2 ^ l) % 2 ^ 64 - 1) ≡ number 64 (within l h)
    mask_is = omega (arith, low_shifted, ones_to, powers, pow_pos l, all_within 64 k m)

-- ---- some bit below a bound

nonzero_yes : (x : ℕ) → 0 < x → nonzero x ≡ true
nonzero_yes zero h = absurd (omega arith)
nonzero_yes (suc x) h = refl

nonzero-digit : (b : Bool) (x y : ℕ) → 0 < y → nonzero (x + digit b * y) ≡ (b || nonzero x)
nonzero-digit true x y h = nonzero_yes (x + 1 * y) (omega arith)
nonzero-digit false x y h = let z : x + 0 * y ≡ x = omega arith in rw z

any_number : (n : ℕ) (f : ℕ → Bool) → nonzero (number n f) ≡ any_below n f
unfolding number any_below
any_number zero f = refl
any_number (suc n) f = nonzero-digit (f n) (number n f) (2 ^ n) (pow_pos n) ∙ ap (λ (x : Bool). f n || x) (any_number n f)

any_ext : (n : ℕ) (f g : ℕ → Bool) → ((i : ℕ) → i < n → f i ≡ g i) → any_below n f ≡ any_below n g
unfolding any_below
any_ext zero f g h = refl
any_ext (suc n) f g h = ap₂ (λ (x y : Bool). x || y) (h n (omega arith)) (any_ext n f g (λ i k. h i (omega arith)))

regrouped : (a b c d : Bool) → ((a || b) || (c || d)) ≡ ((a || c) || (b || d))
regrouped true b c d = refl
regrouped false true true d = refl
regrouped false true false d = refl
regrouped false false c d = refl

any_or : (n : ℕ) (f g : ℕ → Bool) → any_below n (λ i. f i || g i) ≡ (any_below n f || any_below n g)
unfolding any_below
any_or zero f g = refl
any_or (suc n) f g = rw (any_or n f g) (regrouped (f n) (g n) (any_below n f) (any_below n g))

any_none : (n : ℕ) (f : ℕ → Bool) → ((i : ℕ) → i < n → f i ≡ false) → any_below n f ≡ false
unfolding any_below
any_none zero f h = refl
any_none (suc n) f h = rw (h n (omega arith)) (any_none n f (λ i k. h i (omega arith)))

any_here : (n : ℕ) (f : ℕ → Bool) (i : ℕ) → i < n → f i ≡ true → any_below n f ≡ true
unfolding any_below
any_here zero f i k e = absurd (omega arith)
any_here (suc n) f i k e = go (dec_lt i n) (λ m. any_here n f i m e)
  where
    go : Dec (i < n) → (i < n → any_below n f ≡ true) → (f n || any_below n f) ≡ true
    go (yes m) ih = rw (ih m) (or-true (f n))
    go (no m) ih = let z : n ≡ i = omega arith in rw (z, e)

-- ---- two fields share a bit where neither lies above the other

module _ (l h p q : ℕ) (a : l ≤ h) (b : p ≤ q) (m : h < 64) where
  shared_at : (i : ℕ) → l ≤ i → i ≤ h → p ≤ i → i ≤ q → (within l h i && within p q i) ≡ true
  shared_at i c d e f = rw (le-leb l i c, le-leb i h d, le-leb p i e, le-leb i q f)

  shared : l ≤ q → p ≤ h → any_below 64 (λ i. within l h i && within p q i) ≡ true
  shared c d = go (dec_le l p)
    where
      go : Dec (l ≤ p) → any_below 64 (λ i. within l h i && within p q i) ≡ true
      go (yes k) = any_here 64 (λ i. within l h i && within p q i) p (omega arith) (shared_at p k d (omega arith) b)
      go (no k) = any_here 64 (λ i. within l h i && within p q i) l (omega arith) (shared_at l (omega arith) a (omega arith) c)

  apart_at : (i : ℕ) → (l ≤ q → p ≤ h → ⊥) → (within l h i && within p q i) ≡ false
  apart_at i n = by (leb l i) (leb i h) (leb p i) (leb i q) refl refl refl refl
    where
      by : (x y z w : Bool) → leb l i ≡ x → leb i h ≡ y → leb p i ≡ z → leb i q ≡ w → ((x && y) && (z && w)) ≡ false
      by true true true true c d e f = absurd (n (omega (arith, leb-true l i c, leb-true i q f)) (omega (arith, leb-true p i e, leb-true i h d)))
      by true true true false c d e f = refl
      by true true false w c d e f = refl
      by true false z w c d e f = refl
      by false y z w c d e f = refl

  apart : (l ≤ q → p ≤ h → ⊥) → any_below 64 (λ i. within l h i && within p q i) ≡ false
  apart n = any_none 64 (λ i. within l h i && within p q i) (λ i k. apart_at i n)

  any_shared : any_below 64 (λ i. within l h i && within p q i) ≡ (leb l q && leb p h)
  any_shared = by (leb l q) (leb p h) refl refl
    where
      by : (x y : Bool) → leb l q ≡ x → leb p h ≡ y → any_below 64 (λ i. within l h i && within p q i) ≡ (x && y)
      by true true c d = shared (leb-true l q c) (leb-true p h d)
      by true false c d = apart (λ u v. omega (arith, leb-false p h d))
      by false y c d = apart (λ u v. omega (arith, leb-false l q c))

-- ---- what is closed, and what meets it

word_bits : {w : ℕ} → w < 2 ^ 64 → w ≡ number 64 (bit w)
word_bits {w} h = sym (number_bit 64 w h)

module _ (a : ℕ) (f : FieldAt) {w : ℕ} {b : Bool} (g : b ≡ is_read_write_pair a f.values.sw) (fits : w < 2 ^ 64) where
  pub closed_not : b ≡ true → w ≡ closed_by a f w
  unfolding closed_by closes
  closed_not y = word_bits fits ∙ number_ext 64 (bit w) (λ i. bit w i || closes a f i) (λ i k. rw (← g, y) (sym (or-false (bit w i))))

  pub closed_more : {x : ℕ} → b ≡ false → x ≡ number 64 (has_bit f) → bit_or w x ≡ closed_by a f w
  unfolding closed_by closes
  closed_more {x} y e =
      ap₂ (λ (u v : ℕ). bit_or u v) (word_bits fits) e ∙ or_number 64 (bit w) (has_bit f)
      ∙ number_ext 64 (λ i. bit w i || has_bit f i) (λ i. bit w i || closes a f i) (λ i k. rw (← g, y))

module _ (c : Cover) (f : FieldAt) {x y : ℕ} where
  pub meets_is : x ≡ number 64 (has_bit f) → y ≡ closed_to f.values.sw c → y < 2 ^ 64 → not (eqb (bit_and x y) 0) ≡ meets_in c f
  unfolding meets_in
  meets_is d e h =
      nonzero_test (bit_and x y)
      ∙ ap nonzero (ap₂ (λ (u v : ℕ). bit_and u v) d (word_bits h) ∙ and_number 64 (has_bit f) (bit y))
      ∙ any_number 64 (λ i. has_bit f i && bit y i)
      ∙ (rw e)

-- only `r` and `w` are in a lawful pair
pair_none : (a b : ℕ) → eqb a (access_code access.R) ≡ false → eqb a (access_code access.W) ≡ false → is_read_write_pair a b ≡ is_read_write_pair (access_code access.Na) b
unfolding is_read_write_pair
pair_none a b d e = rw (d, e)

closed_none : (a : ℕ) (g : FieldAt) (w : ℕ) → eqb a (access_code access.R) ≡ false → eqb a (access_code access.W) ≡ false → closed_by (access_code access.Na) g w ≡ closed_by a g w
unfolding closed_by closes
closed_none a g w d e =
    number_ext 64 (λ i. bit w i || closes (access_code access.Na) g i) (λ i. bit w i || closes a g i) (λ i k. rw (pair_none a g.values.sw d e))

-- what one field more closes to a later one of any access
closed_with : (a : ℕ) (c : Cover) (g : FieldAt) → closed_to a (cover_with c g) ≡ closed_by a g (closed_to a c)
unfolding closed_to cover_with
closed_with a c g = by (eqb a (access_code access.R)) (eqb a (access_code access.W)) refl refl
  where
    by : (x y : Bool) → eqb a (access_code access.R) ≡ x → eqb a (access_code access.W) ≡ y → closed_to a (cover_with c g) ≡ closed_by a g (closed_to a c)
    by true y d e = rw (eqb-true a (access_code access.R) d)
    by false true d e = rw (eqb-true a (access_code access.W) e)
    by false false d e = rw (d, e) (closed_none a g c.others d e)

shared_unless : (f g : FieldAt) (b : Bool) → is_narrow f ≡ true → is_narrow g ≡ true
    → any_below 64 (λ i. has_bit f i && (b && has_bit g i)) ≡ ((leb f.low.0 g.high.0 && leb g.low.0 f.high.0) && b)
unfolding has_bit
shared_unless f g true d e =
    let x = narrow_within f d in
    let y = narrow_within g e in
    any_shared f.low.0 f.high.0 g.low.0 g.high.0 x.0 y.0 x.1 ∙ sym (and-true (leb f.low.0 g.high.0 && leb g.low.0 f.high.0))
shared_unless f g false d e =
    any_none 64 (λ i. has_bit f i && (false && has_bit g i)) (λ i k. and-false (has_bit f i))
    ∙ sym (and-false (leb f.low.0 g.high.0 && leb g.low.0 f.high.0))

-- a field meets what is closed with one field more where it meets what was closed, or overlaps that field unlawfully
pub meets_with : (c : Cover) (f g : FieldAt) → is_narrow f ≡ true → is_narrow g ≡ true → meets_in (cover_with c g) f ≡ (meets_in c f || is_overlap f g)
unfolding meets_in is_overlap closes closed_by
meets_with c f g d e =
    let a = f.values.sw in
    any_ext 64 (λ i. has_bit f i && bit (closed_to a (cover_with c g)) i) (λ i. (has_bit f i && bit (closed_to a c) i) || (has_bit f i && closes a g i))
    (λ i k. rw (closed_with a c g, bit-number 64 (λ j. bit (closed_to a c) j || closes a g j) i k) (and-or_distrib_left (has_bit f i) (bit (closed_to a c) i) (closes a g i)))
    ∙ any_or 64 (λ i. has_bit f i && bit (closed_to a c) i) (λ i. has_bit f i && closes a g i)
    ∙ ap (λ (x : Bool). any_below 64 (λ i. has_bit f i && bit (closed_to a c) i) || x) (shared_unless f g (not (is_read_write_pair a g.values.sw)) d e)

closed_nothing : (a : ℕ) → closed_to a nothing_covered ≡ 0
unfolding closed_to
closed_nothing a = by (eqb a (access_code access.R)) (eqb a (access_code access.W)) refl refl
  where
    by : (x y : Bool) → eqb a (access_code access.R) ≡ x → eqb a (access_code access.W) ≡ y → closed_to a nothing_covered ≡ 0
    by true y d e = rw d
    by false true d e = rw (d, e)
    by false false d e = rw (d, e)

bit_zero : (i : ℕ) → bit 0 i ≡ false
unfolding bit
bit_zero i = rw zero-div

pub meets_nothing : (f : FieldAt) → meets_in nothing_covered f ≡ false
unfolding meets_in
meets_nothing f =
    any_none 64 (λ i. has_bit f i && bit (closed_to f.values.sw nothing_covered) i)
    (λ i k. rw (closed_nothing f.values.sw, bit_zero i) (and-false (has_bit f i)))
