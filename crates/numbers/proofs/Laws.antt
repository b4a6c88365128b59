-- Laws of the definitions, in the form that the proofs use.
use mathlib.Core.Bool.{Bool, true, false}
use mathlib.Core.Path.{◌≡◌, refl, sym, ◌∙◌}
use mathlib.Core.List.{List, [], ◌∷◌}
use lib.Pow.{shl_exact}
use Prim.Native.Nat.{ℕ, ◌+◌, ◌-◌, ◌*◌, ◌/◌, ◌%◌, ◌^◌, ◌<◌, ◌≤◌}
use native.Mathlib.Nat.{pow-le-pow_right, mul-le-mul_left, le-div_iff_mul-le, div-lt_iff_lt-mul}
use native.Mathlib.Omega.{arith}
use lib.Dec.{eqb, ltb}
use lib.ListN.{length, drop, get_or, take, drop_of_length-le, get_or-eq_default}
use borrow.Author.Tests.{ltb-false, eq-eqb, ne_eqb, lt-ltb, le-ltb, le-leb, lt-leb}
use Rattle.chars.specs.Ascii.{is_within, is_digit, is_spaced_digit}
use Rattle.chars.specs.Run.{run, run_end, every}
use Rattle.chars.specs.declared.Radix.{Radix}
use Rattle.chars.specs.declared.Radix.TheVariants.{Decimal, Hex}
use Rattle.chars.proofs.Laws.{drop_next, either, within_high}
use Rattle.numbers.specs.Number.{digit_value, next_value, value_from, value, fitting, base_of, radix_of, plain_digits, spaced_digits, width_of, sized_number, sized_at, hex_prefixed, hex_number, number_of}
use Rattle.std.specs.Prelude.{Result, Ok, Err, Option, Some, None}
use Rattle.numbers.specs.declared.BadNumber.{BadNumber}
use Rattle.numbers.specs.declared.BadNumber.TheVariants.{Malformed, TooWide}

-- a value against some bits
module _ (bits n : ℕ) where
  pub fitting_yes : n < 2 ^ bits → Ok n ≡ fitting bits n
  unfolding fitting
  fitting_yes h = rw (lt-ltb n (2 ^ bits) h)

  pub fitting_no : 2 ^ bits ≤ n → Err TooWide ≡ fitting bits n
  unfolding fitting
  fitting_no h = rw (le-ltb n (2 ^ bits) h)

  -- a value that fits is itself
  pub fitting-value : {v : ℕ} → fitting bits n ≡ Ok v → v ≡ n
  unfolding fitting
  fitting-value {v} = either (λ (x : Result ℕ BadNumber). x ≡ Ok v → v ≡ n) (ltb n (2 ^ bits)) (λ _ e. cc) (λ _ e. cc)

  fitting_wide : fitting bits n ≡ Err TooWide → 2 ^ bits ≤ n
  unfolding fitting
  fitting_wide = either (λ (x : Result ℕ BadNumber). x ≡ Err TooWide → 2 ^ bits ≤ n) (ltb n (2 ^ bits)) (λ _ e. other e) (λ f _. ltb-false n (2 ^ bits) f)
    where
      other : Ok n ≡ Err TooWide → 2 ^ bits ≤ n
      other e = absurd (let z : ◌≡◌ {A = ℕ} 0 1 = cc in omega arith)

  fitting_formed : {X : Type 0} → fitting bits n ≡ Err Malformed → X
  unfolding fitting
  fitting_formed {X} = either (λ (x : Result ℕ BadNumber). x ≡ Err Malformed → X) (ltb n (2 ^ bits)) (λ _ e. cc) (λ _ e. cc)

  -- what is no value is too wide
  pub fitting_else : (m : Result ℕ BadNumber) {b : BadNumber} → m ≡ fitting bits n → m ≡ Err b → 2 ^ bits ≤ n
  fitting_else (Ok v) e o = absurd (let z : ◌≡◌ {A = ℕ} 0 1 = cc in omega arith)
  fitting_else (Err Malformed) e o = fitting_formed (sym e)
  fitting_else (Err TooWide) e o = fitting_wide (sym e)

-- more bits hold what fewer hold
pub power_more : (a b : ℕ) → a ≤ b → 2 ^ a ≤ 2 ^ b
power_more a b h = pow-le-pow_right (omega arith) h

-- a value of 64 bits against some bits, by a shift
module _ (bits v : ℕ) where
  pub fit_all : v < 2 ^ 64 → 64 ≤ bits → Ok v ≡ fitting bits v
  fit_all f h = fitting_yes bits v (omega (arith, power_more 64 bits h))

  module _ (h : bits < 64) where
    shifted : (1 * 2 ^ bits) % 2 ^ 64 ≡ 1 * 2 ^ bits
    shifted = shl_exact 1 bits 64 (omega arith) (omega arith)

    pub fit_yes : v < (1 * 2 ^ bits) % 2 ^ 64 → Ok v ≡ fitting bits v
    fit_yes t = fitting_yes bits v (omega (arith, shifted))

    pub fit_no : (1 * 2 ^ bits) % 2 ^ 64 ≤ v → Err TooWide ≡ fitting bits v
    fit_no t = fitting_no bits v (omega (arith, shifted))

-- the value of a digit, `w` being its distance from the first digit of its range
module _ (b : ℕ) {r : Bool} where
  pub digit-decimal : {w : ℕ} → r ≡ is_within 48 57 b → r ≡ true → w ≡ b - 48 → w ≡ digit_value b
  unfolding digit_value
  digit-decimal e f g = rw (sym e ∙ f, g)

  module _ {q : Bool} (d : q ≡ is_within 48 57 b) (n : q ≡ false) where
    pub digit_lower : {w : ℕ} → r ≡ is_within 97 102 b → r ≡ true → w ≡ b - 97 → w + 10 ≡ digit_value b
    unfolding digit_value
    digit_lower e f g = rw (sym d ∙ n, sym e ∙ f, g)

    module _ {p : Bool} (l : p ≡ is_within 97 102 b) (m : p ≡ false) where
      pub digit_upper : {w : ℕ} → r ≡ is_within 65 70 b → r ≡ true → w ≡ b - 65 → w + 10 ≡ digit_value b
      unfolding digit_value
      digit_upper e f g = rw (sym d ∙ n, sym l ∙ m, sym e ∙ f, g)

      pub digit_none : r ≡ is_within 65 70 b → r ≡ false → 0 ≡ digit_value b
      unfolding digit_value
      digit_none e f = rw (sym d ∙ n, sym l ∙ m, sym e ∙ f)

-- a digit is below 16
pub digit_small : (b : ℕ) → digit_value b < 16
unfolding digit_value
digit_small b =
    either small (is_within 48 57 b) (λ e. omega (arith, within_high 48 57 b refl e))
    (λ _. either small (is_within 97 102 b) (λ e. omega (arith, within_high 97 102 b refl e))
    (λ _. either small (is_within 65 70 b) (λ e. omega (arith, within_high 65 70 b refl e)) (λ _. omega arith)))
  where
    small : ℕ → Type 0
    small n = n < 16

-- one byte more
module _ (base n b : ℕ) where
  pub next_underscore : b ≡ 95 → n ≡ next_value base n b
  unfolding next_value
  next_underscore e = rw (eq-eqb b 95 e)

  pub next_digit : {d : ℕ} → (b ≡ 95 → ⊥) → d ≡ digit_value b → n * base + d ≡ next_value base n b
  unfolding next_value
  next_digit e f = rw (ne_eqb b 95 e, f)

-- the test by a quotient says whether the product with the digit fits 64 bits
module _ (v base d : ℕ) (h : 1 ≤ base) (s : d < 16) where
  pub quotient_above : (18446744073709551615 - d) / base < v → 2 ^ 64 ≤ v * base + d
  quotient_above q = omega (arith, (div-lt_iff_lt-mul h).0 q)

  pub quotient_below : v ≤ (18446744073709551615 - d) / base → v * base + d < 2 ^ 64
  quotient_below q = omega (arith, (le-div_iff_mul-le h).0 q)

grow : (base n d : ℕ) → 1 ≤ base → n ≤ n * base + d
grow base n d h =
    let m : n * 1 ≤ n * base = mul-le-mul_left n h in
    omega arith

next_grows : (base n b : ℕ) → 1 ≤ base → n ≤ next_value base n b
unfolding next_value
next_grows base n b h = either (λ (x : ℕ). n ≤ x) (eqb b 95) (λ _. omega arith) (λ _. grow base n (digit_value b) h)

-- a value does not fall as bytes follow
pub value_grows : (base n : ℕ) (s : List ℕ) → 1 ≤ base → n ≤ value_from base n s
unfolding value_from
value_grows base n [] h = omega arith
value_grows base n (b ∷ s) h = omega (arith, next_grows base n b h, value_grows base (next_value base n b) s h)

-- the value of a text's digits from the place i on, behind digits of the value n, comes to x
module _ (base : ℕ) (t : List ℕ) (i n : ℕ) {x : Result ℕ BadNumber} (at : fitting 64 (value_from base n (drop i t)) ≡ x) where
  pub value_end : n < 2 ^ 64 → length t ≤ i → Ok n ≡ x
  unfolding value_from
  value_end f h = fitting_yes 64 n f ∙ (rw (drop_of_length-le t h) at at)

  module _ {m : Result ℕ BadNumber} (h : i < length t) (e : m ≡ fitting 64 (next_value base n (get_or t i 0))) where
    pub value_next : {v : ℕ} → m ≡ Ok v → fitting 64 (value_from base v (drop (i + 1) t)) ≡ x
    unfolding value_from
    value_next f = rw (fitting-value 64 (next_value base n (get_or t i 0)) (sym e ∙ f)) (rw (drop_next t i h) at at)

    pub value_wide : {b : BadNumber} → 1 ≤ base → m ≡ Err b → m ≡ x
    unfolding value_from
    value_wide b o =
        let next : ℕ = next_value base n (get_or t i 0) in
        let l : 2 ^ 64 ≤ value_from base next (drop (i + 1) t) =
        omega (arith, fitting_else 64 next m e o, value_grows base next (drop (i + 1) t) b) in
        e ∙ sym (fitting_no 64 next (fitting_else 64 next m e o)) ∙ fitting_no 64 (value_from base next (drop (i + 1) t)) l ∙ (rw (drop_next t i h) at at)

pub ruleset values = (value_end, value_next, value_wide)

-- the letter of a radix
module _ (b : ℕ) where
  pub radix_none : (b ≡ 98 → ⊥) → (b ≡ 100 → ⊥) → (b ≡ 104 → ⊥) → None ≡ radix_of b
  unfolding radix_of
  radix_none f g h = rw (ne_eqb b 98 f, ne_eqb b 100 g, ne_eqb b 104 h)

-- digits from the place i of a text on
module _ (r : Radix) (t : List ℕ) (i : ℕ) where
  pub plain_none : length t ≤ i → false ≡ plain_digits r (drop i t)
  unfolding plain_digits
  plain_none h = rw (drop_of_length-le t h)

  pub plain_some : {x : Bool} → i < length t → x ≡ every (is_digit r) (drop i t) → x ≡ plain_digits r (drop i t)
  unfolding plain_digits
  plain_some h e = rw (drop_next t i h) (rw (drop_next t i h) at e)

  pub spaced_none : length t ≤ i → false ≡ spaced_digits r (drop i t)
  unfolding spaced_digits
  spaced_none h = rw (drop_of_length-le t h)

  module _ {d : Bool} (h : i < length t) (e : d ≡ is_digit r (get_or t i 0)) where
    pub spaced_first : d ≡ false → false ≡ spaced_digits r (drop i t)
    unfolding spaced_digits
    spaced_first f = rw (drop_next t i h, sym e ∙ f)

    pub spaced_more : {x : Bool} → d ≡ true → x ≡ every (is_spaced_digit r) (drop (i + 1) t) → x ≡ spaced_digits r (drop i t)
    unfolding spaced_digits
    spaced_more f g = rw (drop_next t i h, sym e ∙ f) g

-- a value that fits 64 bits, against fewer bits
module _ (bits n : ℕ) (h : bits ≤ 64) {m : Result ℕ BadNumber} (e : m ≡ fitting 64 n) where
  pub fewer_wide : {b : BadNumber} → m ≡ Err b → m ≡ fitting bits n
  fewer_wide o =
      let l : 2 ^ 64 ≤ n = fitting_else 64 n m e o in
      e ∙ sym (fitting_no 64 n l) ∙ fitting_no bits n (omega (arith, power_more bits 64 h))

  pub fewer_fits : {v : ℕ} {x : Result ℕ BadNumber} → m ≡ Ok v → x ≡ fitting bits v → x ≡ fitting bits n
  fewer_fits f g = rw (fitting-value 64 n (sym e ∙ f)) at g

-- a width
module _ (s : List ℕ) {m : Result ℕ BadNumber} (e : m ≡ fitting 64 (value 10 s)) where
  pub width_wide : {b : BadNumber} → m ≡ Err b → 0 ≡ width_of s
  unfolding width_of
  width_wide o = rw (lt-leb (value 10 s) 64 (omega (arith, fitting_else 64 (value 10 s) m e o)))

  module _ {v : ℕ} (f : m ≡ Ok v) where
    pub width_above : 64 < v → 0 ≡ width_of s
    unfolding width_of
    width_above h =
        let q : v ≡ value 10 s = fitting-value 64 (value 10 s) (sym e ∙ f) in
        rw (lt-leb (value 10 s) 64 (rw q at h))

    pub width_within : v ≤ 64 → v ≡ width_of s
    unfolding width_of
    width_within h =
        let q : v ≡ value 10 s = fitting-value 64 (value 10 s) (sym e ∙ f) in
        rw (le-leb (value 10 s) 64 (rw q at h)) q

module _ (s : List ℕ) {d : Bool} (e : d ≡ plain_digits Hex s) where
  pub hex-digits : {x : Result ℕ BadNumber} → d ≡ true → x ≡ fitting 64 (value 16 s) → x ≡ hex_number s
  unfolding hex_number
  hex-digits f g = rw (sym e ∙ f) g

  pub hex_other : d ≡ false → (Err Malformed) ≡ hex_number s
  unfolding hex_number
  hex_other f = rw (sym e ∙ f)

-- a number of a width
module _ (w : ℕ) (s : List ℕ) {l : Option Radix} where
  pub sized_unknown : l ≡ None → (Err Malformed) ≡ sized_number w l s
  unfolding sized_number
  sized_unknown e = rw e

  module _ {r : Radix} (e : l ≡ Some r) where
    pub sized_zero : w ≡ 0 → (Err Malformed) ≡ sized_number w l s
    unfolding sized_number
    sized_zero f = rw (e, le-ltb 0 w (omega arith))

    module _ {d : Bool} (f : w ≡ 0 → ⊥) (g : d ≡ spaced_digits r s) where
      pub sized_malformed : d ≡ false → (Err Malformed) ≡ sized_number w l s
      unfolding sized_number
      sized_malformed h = rw (e, lt-ltb 0 w (omega arith), sym g ∙ h)

      pub sized_digits : {b : ℕ} {x : Result ℕ BadNumber} → d ≡ true → b ≡ base_of r → x ≡ fitting w (value b s) → x ≡ sized_number w l s
      unfolding sized_number
      sized_digits h i j = rw (e, lt-ltb 0 w (omega arith), sym g ∙ h, ← i) j

-- a number with its quote at k
module _ (t : List ℕ) (k : ℕ) where
  pub quote_past : length t ≤ k → (Err Malformed) ≡ sized_at t k
  unfolding sized_at
  quote_past h = rw (get_or-eq_default t 0 h)

  module _ (h : k < length t) where
    pub quote_other : (get_or t k 0 ≡ 39 → ⊥) → (Err Malformed) ≡ sized_at t k
    unfolding sized_at
    quote_other f = rw (ne_eqb (get_or t k 0) 39 f)

    module _ (e : get_or t k 0 ≡ 39) where
      pub quote_last : length t ≤ k + 1 → (Err Malformed) ≡ sized_at t k
      unfolding sized_at sized_number radix_of
      quote_last f = rw (eq-eqb (get_or t k 0) 39 e, get_or-eq_default t 0 f)

      pub quote_sized : {w : ℕ} {l : Option Radix} {x : Result ℕ BadNumber} → w ≡ width_of (take (k - 0) (drop 0 t)) → l ≡ radix_of (get_or t (k + 1) 0)
          → x ≡ sized_number w l (drop (k + 1 + 1) t) → x ≡ sized_at t k
      unfolding sized_at
      quote_sized f g i =
          let n : k + 1 + 1 ≡ k + 2 = omega arith in
          let m : k - 0 ≡ k = omega arith in
          rw (eq-eqb (get_or t k 0) 39 e, ← (rw m at f), ← g, ← n) i

-- the forms of a number
module _ (t : List ℕ) {d : Bool} {x : Result ℕ BadNumber} (e : d ≡ plain_digits Decimal t) where
  pub number-decimal : d ≡ true → x ≡ fitting 64 (value 10 t) → x ≡ number_of t
  unfolding number_of
  number-decimal f g = rw (sym e ∙ f) g

  module _ {h : Bool} (f : d ≡ false) (i : h ≡ hex_prefixed t) where
    pub number-hex : h ≡ true → x ≡ hex_number (drop 2 t) → x ≡ number_of t
    unfolding number_of
    number-hex g j = rw (sym e ∙ f, sym i ∙ g) j

    pub number_sized : {k : ℕ} → h ≡ false → k ≡ run_end (is_digit Decimal) t 0 → x ≡ sized_at t k → x ≡ number_of t
    unfolding number_of run_end
    number_sized {k} g j l =
        let n : k ≡ length (run (is_digit Decimal) t) = omega arith in
        rw (sym e ∙ f, sym i ∙ g, ← n) l
