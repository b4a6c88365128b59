-- Laws of items that are the same as an earlier one, and of halving for the first of them.
use mathlib.Core.Bool.{Bool, true, false}
use mathlib.Core.Path.{◌≡◌, refl, sym, ap, ◌∙◌}
use Prim.Native.Nat.{ℕ, zero, suc, ◌+◌, ◌-◌, ◌<◌, ◌≤◌, ◌/◌}
use native.Mathlib.Omega.{arith}
use native.Mathlib.Decide.{dec_lt}
use borrow.Author.Tests.{eq-eqb, ne_eqb}
use Rattle.std.specs.Prelude.{if◌then◌else◌}
use Rattle.bits.specs.Bits.{digit}
use Rattle.orders.specs.declared.Bounds.{Bounds}
use Rattle.orders.specs.Unique.{meets, unique, first_from, first_meeting, SomeMeeting, narrow_by}

module _ (same : ℕ → ℕ → Bool) where
  -- ---- one step of each
  pub meets_here : (j k : ℕ) → same k j ≡ true → meets same j (suc k) ≡ true
  unfolding meets
  meets_here j k e = ap (λ (b : Bool). if b then true else meets same j k) e

  pub meets_next : (j k : ℕ) → same k j ≡ false → meets same j (suc k) ≡ meets same j k
  unfolding meets
  meets_next j k e = ap (λ (b : Bool). if b then true else meets same j k) e

  pub meets_none : (j : ℕ) → meets same j 0 ≡ false
  unfolding meets
  meets_none j = refl

  unique_here : (n : ℕ) → meets same n n ≡ true → unique same (suc n) ≡ false
  unfolding unique
  unique_here n e = ap (λ (b : Bool). if b then false else unique same n) e

  unique_next : (n : ℕ) → meets same n n ≡ false → unique same (suc n) ≡ unique same n
  unfolding unique
  unique_next n e = ap (λ (b : Bool). if b then false else unique same n) e

  pub unique_none : unique same 0 ≡ true
  unfolding unique
  unique_none = refl

  -- ---- what it means
  pub meets_not : (j k : ℕ) → ((i : ℕ) → i < k → same i j ≡ false) → meets same j k ≡ false
  meets_not j zero f = meets_none j
  meets_not j (suc k) f = meets_next j k (f k (omega arith)) ∙ meets_not j k (λ i h. f i (omega arith))

  pub meets_pair : (j k i : ℕ) → i < k → same i j ≡ true → meets same j k ≡ true
  meets_pair j zero i h e = absurd (omega arith)
  meets_pair j (suc k) i h e = by (same k j) refl (meets_pair j k i)
    where
      by : (b : Bool) → same k j ≡ b → (i < k → same i j ≡ true → meets same j k ≡ true) → meets same j (suc k) ≡ true
      by true z f = meets_here j k z
      by false z f =
          elim (dec_lt i k) [
            | yes l ↦ meets_next j k z ∙ f l e
            | no l ↦ let q : i ≡ k = omega arith in absurd (omega (arith, ap digit (sym e ∙ ap (λ (m : ℕ). same m j) q ∙ z)))
          ]

  pub unique_apart : (n : ℕ) → ((i j : ℕ) → i < j → j < n → same i j ≡ false) → unique same n ≡ true
  unique_apart zero f = unique_none
  unique_apart (suc n) f = unique_next n (meets_not n n (λ i h. f i n h (omega arith))) ∙ unique_apart n (λ i j h l. f i j h (omega arith))

-- ---- the first that meets an earlier one

module _ (same : ℕ → ℕ → Bool) where
  pub first_here : (i count : ℕ) → meets same i i ≡ true → first_from same i (suc count) ≡ i
  unfolding first_from
  first_here i count e = ap (λ (b : Bool). if b then i else first_from same (i + 1) count) e

  pub first_next : (i count : ℕ) → meets same i i ≡ false → first_from same i (suc count) ≡ first_from same (i + 1) count
  unfolding first_from
  first_next i count e = ap (λ (b : Bool). if b then i else first_from same (i + 1) count) e

  pub first_none : (i : ℕ) → first_from same i 0 ≡ i
  unfolding first_from
  first_none i = refl

  -- of unique items none meets an earlier one
  pub unique_alone : (n : ℕ) → unique same n ≡ true → (i : ℕ) → i < n → meets same i i ≡ false
  unique_alone zero e i h = absurd (omega arith)
  unique_alone (suc n) e i h = by (meets same n n) refl (unique_alone n)
    where
      by : (b : Bool) → meets same n n ≡ b → (unique same n ≡ true → (i : ℕ) → i < n → meets same i i ≡ false) → meets same i i ≡ false
      by true z f = absurd (omega (arith, ap digit (sym (unique_here same n z) ∙ e)))
      by false z f =
          elim (dec_lt i n) [
            | yes l ↦ f (sym (unique_next same n z) ∙ e) i l
            | no l ↦ let q : i ≡ n = omega arith in rw q z
          ]

  pub unique_before : {n h : ℕ} → unique same n ≡ true → meets same h h ≡ true → n ≤ h
  unique_before {n} {h} u m =
      elim (dec_lt h n) [
        | yes l ↦ absurd (omega (arith, ap digit (sym m ∙ unique_alone n u h l)))
        | no l ↦ omega arith
      ]

  first_on : (i count h : ℕ) → ((k : ℕ) → i ≤ k → k < i + h → meets same k k ≡ false)
      → first_from same i (h + count) ≡ first_from same (i + h) count
  first_on i count zero f = let z : i + 0 ≡ i = omega arith in let y : 0 + count ≡ count = omega arith in rw (z, y) refl
  first_on i count (suc h) f =
      let y : suc h + count ≡ suc (h + count) = omega arith in
      let z : i + suc h ≡ i + 1 + h = omega arith in
      let r = first_on (i + 1) count h (λ k l m. f k (omega arith) (omega arith)) in
      rw (y, z) (first_next i (h + count) (f i (omega arith) (omega arith)) ∙ r)

  pub first_is : (n h : ℕ) → unique same h ≡ true → meets same h h ≡ true → h < n → h ≡ first_meeting same n
  unfolding first_meeting
  first_is n h u m l =
      let z : n ≡ h + suc (n - suc h) = omega arith in
      let y : 0 + h ≡ h = omega arith in
      let c : ℕ = suc (n - suc h) in
      let o = first_on 0 c h (λ k o p. unique_alone h u k (omega arith)) in
      sym (ap (first_from same 0) z ∙ o ∙ ap (λ (i : ℕ). first_from same i c) y ∙ first_here h (n - suc h) m)

  pub first_clear : (n : ℕ) → unique same n ≡ true → n ≡ first_meeting same n
  unfolding first_meeting
  first_clear n u =
      let z : n ≡ n + 0 = omega arith in
      let y : 0 + n ≡ n = omega arith in
      let o = first_on 0 0 n (λ k o p. unique_alone n u k (omega arith)) in
      sym (ap (first_from same 0) z ∙ o ∙ ap (λ (i : ℕ). first_from same i 0) y ∙ first_none n)

  from_within : (i count : ℕ) → first_from same i count ≤ i + count
  from_within i zero = rw (first_none i) (omega arith)
  from_within i (suc count) = by (meets same i i) refl (from_within (i + 1) count)
    where
      by : (b : Bool) → meets same i i ≡ b → first_from same (i + 1) count ≤ i + 1 + count → first_from same i (suc count) ≤ i + suc count
      by true e l = rw (first_here i count e) (omega arith)
      by false e l = rw (first_next i count e) (omega arith)

  pub first_within : (n : ℕ) → first_meeting same n ≤ n
  unfolding first_meeting
  first_within n = omega (arith, from_within 0 n)

-- ---- halving: none below `low` meets an earlier one, and `high` does

pub record Halving (same : ℕ → ℕ → Bool) (n low high : ℕ) : Type 0 where
  pub clear : unique same low ≡ true
  pub hit : meets same high high ≡ true
  pub ordered : low ≤ high
  pub within : high < n

pub halving_start : {same : ℕ → ℕ → Bool} {n h : ℕ} → h < n → meets same h h ≡ true → Halving same n 0 h
halving_start {same} l m = record { clear = unique_none same; hit = m; ordered = omega arith; within = l }

module _ {same : ℕ → ℕ → Bool} {n low high : ℕ} (b : Halving same n low high) where
  pub halving_clear : {middle : ℕ} → middle ≤ high → unique same middle ≡ true → Halving same n middle high
  halving_clear h u = record { clear = u; hit = b.hit; ordered = h; within = b.within }

  pub halving_hit : {h : ℕ} → h < high → meets same h h ≡ true → Halving same n low h
  halving_hit {h} l m = record { clear = b.clear; hit = m; ordered = unique_before same b.clear m; within = omega (arith, b.within) }

  pub halving_end : high ≤ low → high ≡ first_meeting same n
  halving_end h =
      let o = b.ordered in
      let z : low ≡ high = omega arith in
      first_is same n high (ap (unique same) (sym z) ∙ b.clear) b.hit b.within

-- ---- a step of halving

pub narrow_low : (b : Bounds) (middle : ℕ) {found : ℕ} → found ≡ middle → record { low = middle; high = b.high } ≡ narrow_by b middle found
unfolding narrow_by
narrow_low b middle {found} e = rw (eq-eqb found middle e)

pub narrow_high : (b : Bounds) (middle : ℕ) {found : ℕ} → (found ≡ middle → ⊥)
    → record { low = b.low; high = found } ≡ narrow_by b middle found
unfolding narrow_by
narrow_high b middle {found} e = rw (ne_eqb found middle e)

-- the middle of two bounds, rounded up
abbrev middle_of : Bounds → ℕ
middle_of b = b.low + (b.high - b.low + 1) / 2

module _ {same : ℕ → ℕ → Bool} {b : Bounds} {found : ℕ} (h : b.low < b.high)
    (f : SomeMeeting same (b.low + (b.high - b.low + 1) / 2) found)
  where
    middle_high : middle_of b ≤ b.high
    middle_high = omega arith

    middle_low : b.low < middle_of b
    middle_low = omega arith

    narrow_by_lem : (P : Bounds → Type 0) → (found ≡ middle_of b → P (record { low = middle_of b; high = b.high }))
        → (found < middle_of b → P (record { low = b.low; high = found })) → P (narrow_by b (middle_of b) found)
    narrow_by_lem P p q =
        elim (dec_lt found (middle_of b)) [
          | yes l ↦ rw (← narrow_high b (middle_of b) {found = found} (λ z. omega arith)) (q l)
          | no l ↦
              let m = f.within in
              let z : found ≡ middle_of b = omega arith in
              rw (← narrow_low b (middle_of b) {found = found} z) (p z)
        ]

    module _ {r : Bounds} (z : r ≡ narrow_by b (b.low + (b.high - b.low + 1) / 2) found) where
      pub halved : {n : ℕ} → Halving same n b.low b.high → Halving same n r.low r.high
      halved {n} w =
          rw z
          (narrow_by_lem (λ r. Halving same n r.low r.high)
          (λ e. halving_clear w middle_high (f.clear e))
          (λ l. halving_hit w (omega (arith, middle_high)) (f.hit l)))

      pub halved_less : r.high - r.low < b.high - b.low
      halved_less =
          rw z
          (narrow_by_lem (λ r. r.high - r.low < b.high - b.low)
          (λ e. omega (arith, middle_low, middle_high))
          (λ l. omega (arith, middle_high)))
