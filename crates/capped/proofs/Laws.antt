-- Laws of the definitions: each operation on cut numbers, cut again, is the operation on the true ones, cut.
use mathlib.Core.Bool.{Bool, true, false, ◌||◌}
use mathlib.Core.Path.{◌≡◌, refl, sym, ap, subst, ◌∙◌}
use Prim.Native.Nat.{ℕ, zero, suc, min, ◌+◌, ◌-◌, ◌*◌, ◌/◌, ◌%◌, ◌^◌, ◌<◌, ◌≤◌, ◌∣◌}
use native.Mathlib.Nat.{le-mul_of_pos_right, mul-zero, zero-mul, mul_comm, mul_assoc, mul-add, mul_right_comm, suc-mul, mul-le-mul_left, mul-le-mul_right, le-div_iff_mul-le, lt-div-mul-add, div-mul-le_self, div-eq_of_lt, pow-suc, one-le-pow, pow-le-pow_right, div-mul_cancel, one-dvd, dvd_refl, dvd_trans, dvd-add, dvd-mul_left, dvd-mul_right, dvd_of_mod-eq-zero, mod-eq-zero_of_dvd, dvd_of_mul-dvd-mul_right, mul-dvd-mul_right, le_of_dvd, pos_of_dvd_of_pos}
use native.Mathlib.Omega.{arith}
use lib.Dec.{eqb, leb, ltb}
use borrow.Author.Tests.{lt-ltb, le-ltb, le-leb, lt-leb, ltb-true, ltb-false, leb-true, leb-false, eqb-true, eqb-false}
use Rattle.basics.specs.Limits.{alignment_limit}
use Rattle.chars.proofs.Laws.{either}
use Rattle.property_values.specs.Settings.{is_alignment, is_power_to}
use Rattle.capped.specs.Offsets.{cap, factor_bound, cut, larger, raised, multiple_from, common_multiple, power_from, power_above}

-- a number cut at the cap
module _ (x : ℕ) where
  pub cut_low : x < cap → cut x ≡ x
  unfolding cut
  cut_low h = rw (lt-ltb x cap h)

  pub cut_high : cap ≤ x → cut x ≡ cap
  unfolding cut
  cut_high h = rw (le-ltb x cap h)

  -- what holds of a number below the cap, and of the cap in place of one that is not
  cut_either : (Q : ℕ → Type 0) → (x < cap → Q x) → (cap ≤ x → Q cap) → Q (cut x)
  unfolding cut
  cut_either Q p q = either Q (ltb x cap) (λ e. p (ltb-true x cap e)) (λ e. q (ltb-false x cap e))

  -- the library's smaller of two
  pub cut_min : min x cap ≡ cut x
  cut_min = cut_either (λ (n : ℕ). min x cap ≡ n) (λ h. omega arith) (λ h. omega arith)

  pub cut_bound : cut x ≤ cap
  cut_bound = cut_either (λ (n : ℕ). n ≤ cap) (λ h. omega arith) (λ h. omega arith)

  -- a number up to the cap stays
  pub cut_stays : x ≤ cap → x ≡ cut x
  cut_stays l = cut_either (λ (n : ℕ). x ≡ n) (λ h. refl) (λ h. omega arith)

  pub cut_positive : 1 ≤ x → 1 ≤ cut x
  cut_positive l = cut_either (λ (n : ℕ). 1 ≤ n) (λ h. l) (λ h. omega arith)

  pub cut_capped : {r : ℕ} → r ≡ cut x → r ≤ cap
  cut_capped e = rw e cut_bound

-- two numbers that are not below the cap
high : (x y : ℕ) → cap ≤ x → cap ≤ y → cut x ≡ cut y
high x y f g = cut_high x f ∙ sym (cut_high y g)

module _ (x y : ℕ) where
  pub cut_sum : cut (cut x + cut y) ≡ cut (x + y)
  cut_sum =
      cut_either x (λ (n : ℕ). cut (n + cut y) ≡ cut (x + y))
      (λ f. cut_either y (λ (n : ℕ). cut (x + n) ≡ cut (x + y)) (λ g. refl) (λ g. high (x + cap) (x + y) (omega arith) (omega arith)))
      (λ f. high (cap + cut y) (x + y) (omega arith) (omega arith))

-- the larger of two cut numbers
pub cut-larger : (x y : ℕ) → larger (cut x) (cut y) ≡ cut (larger x y)
cut-larger x y = omega (arith, cut_min x, cut_min y, cut_min (larger x y))

-- a product
pub cut_product : (x n : ℕ) → cut (cut x * n) ≡ cut (x * n)
cut_product x zero = ap cut (mul-zero (cut x) ∙ sym (mul-zero x))
cut_product x (suc n) =
    let p : 0 < suc n = omega arith in
    cut_either x (λ (m : ℕ). cut (m * suc n) ≡ cut (x * suc n)) (λ h. refl)
    (λ h. high (cap * suc n) (x * suc n) (le-mul_of_pos_right cap p) (omega (arith, le-mul_of_pos_right x p)))

pub product_fits : (a n : ℕ) → a ≤ cap → n ≤ factor_bound → a * n < 2 ^ 64
product_fits a n f g = omega (arith, mul-le-mul_left a g)

-- a number raised to a multiple of a step
module _ (x s : ℕ) (p : 1 ≤ s) where
  pub raised-fits : x ≤ cap → s ≤ cap → (x + (s - 1)) / s * s < 2 ^ 64
  raised-fits f g = omega (arith, div-mul-le_self (x + (s - 1)) s)

  raised_above : x ≤ raised x s
  unfolding raised
  raised_above =
      let q : x + (s - 1) < (x + (s - 1)) / s * s + s = lt-div-mul-add p in
      omega arith

  raised_step : 1 ≤ x → s ≤ raised x s
  unfolding raised
  raised_step l =
      let q : 1 ≤ (x + (s - 1)) / s = (le-div_iff_mul-le p).1 (omega arith) in
      let m : 1 * s ≤ (x + (s - 1)) / s * s = mul-le-mul_right s q in
      omega arith

raised_zero : (s : ℕ) → 1 ≤ s → raised 0 s ≡ 0
unfolding raised
raised_zero s p =
    let q : (0 + (s - 1)) / s ≡ 0 = div-eq_of_lt (omega arith) in
    rw q (zero-mul s)

pub cut-raised : (x s : ℕ) → 1 ≤ s → cut (raised (cut x) (cut s)) ≡ cut (raised x s)
cut-raised x s p =
    cut_either x (λ (n : ℕ). cut (raised n (cut s)) ≡ cut (raised x s)) (λ _. cut_either s (λ (n : ℕ). cut (raised x n) ≡ cut (raised x s)) (λ _. refl) (wide x))
    (λ h. high (raised cap (cut s)) (raised x s) (raised_above cap (cut s) (cut_positive s p)) (omega (arith, raised_above x s p)))
  where
    wide : (x : ℕ) → cap ≤ s → cut (raised x cap) ≡ cut (raised x s)
    wide zero h = ap cut (raised_zero cap (omega arith) ∙ sym (raised_zero s p))
    wide (suc x) h =
        high (raised (suc x) cap) (raised (suc x) s) (raised_step (suc x) cap (omega arith) (omega arith))
        (omega (arith, raised_step (suc x) s p (omega arith)))

-- the first of p, 2 p, 4 p, .. that is not below x, with turns enough
power_stop : (turns p x : ℕ) → x ≤ p → power_from turns p x ≡ p
unfolding power_from
power_stop zero p x h = refl
power_stop (suc turns) p x h = rw (le-leb x p h)

power_step : (turns p x : ℕ) → p < x → power_from (suc turns) p x ≡ power_from turns (p * 2) x
unfolding power_from
power_step turns p x h = rw (lt-leb x p h)

power_reaches : (turns p x : ℕ) → 1 ≤ p → x ≤ p + turns → x ≤ power_from turns p x
unfolding power_from
power_reaches zero p x l e = omega arith
power_reaches (suc turns) p x l e =
    either (λ (n : ℕ). x ≤ n) (leb x p) (λ h. leb-true x p h)
    (λ _. power_reaches turns (p * 2) x (omega arith) (omega arith))

pub above_reaches : (x : ℕ) → x ≤ power_above x
unfolding power_above
above_reaches x = power_reaches x 1 x (omega arith) (omega arith)

pub cut_power : (x : ℕ) → cut (power_above (cut x)) ≡ cut (power_above x)
cut_power x =
    cut_either x (λ (n : ℕ). cut (power_above n) ≡ cut (power_above x)) (λ _. refl)
    (λ h. high (power_above cap) (power_above x) (above_reaches cap) (omega (arith, above_reaches x)))

-- the loop has come to the power p
pub record Doubling (x p : ℕ) : Type 0 where
  pub turns : ℕ
  pub enough : x ≤ p + turns
  pub exponent : ℕ
  pub power : p ≡ 2 ^ exponent
  pub positive : 1 ≤ p
  pub bound : p ≤ cap
  pub same : power_from turns p x ≡ power_above x

pub doubling_start : (x : ℕ) → Doubling x 1
unfolding power_above
doubling_start x = record { turns = x; enough = omega arith; exponent = 0; power = refl; positive = omega arith; bound = omega arith; same = refl }

two_positive : 0 < 2
two_positive = omega arith

-- a power of two below the cap, doubled
power_room : (k p : ℕ) → p ≡ 2 ^ k → p < cap → 2 * p ≤ cap
power_room k p e h = by (leb 40 k) refl
  where
    by : (r : Bool) → leb 40 k ≡ r → 2 * p ≤ cap
    by true f =
        let l : 2 ^ 40 ≤ 2 ^ k = pow-le-pow_right two_positive (leb-true 40 k f) in
        absurd (omega arith)
    by false f =
        let l : 2 ^ suc k ≤ 2 ^ 40 = pow-le-pow_right two_positive (leb-false 40 k f) in
        let q : 2 ^ suc k ≡ 2 ^ k * 2 = pow-suc 2 k in
        omega arith

module _ (x p : ℕ) (d : Doubling x p) where
  pub doubling_next : p < x → x ≤ cap → Doubling x (2 * p)
  doubling_next h l = by d.turns d.enough d.same
    where
      by : (turns : ℕ) → x ≤ p + turns → power_from turns p x ≡ power_above x → Doubling x (2 * p)
      by zero e f = absurd (omega arith)
      by (suc turns) e f =
          let q : p * 2 ≡ 2 * p = omega arith in
          record {
            turns = turns;
            enough = omega (arith, d.positive);
            exponent = suc d.exponent;
            power = sym q ∙ ap (λ (n : ℕ). n * 2) d.power ∙ sym (pow-suc 2 d.exponent);
            positive = omega (arith, d.positive);
            bound = power_room d.exponent p d.power (omega arith);
            same = ap (λ (n : ℕ). power_from turns n x) (sym q) ∙ sym (power_step turns p x h) ∙ f;
          }

  pub doubling_less : p < x → x - 2 * p < x - p
  doubling_less h = omega (arith, d.positive)

  pub doubling_end : x ≤ p → p ≡ cut (power_above x)
  doubling_end h = cut_stays p d.bound ∙ ap cut (sym (power_stop d.turns p x h) ∙ d.same)

-- two to some power up to k
record PowerTo (k a : ℕ) : Type 0 where
  exponent : ℕ
  power : a ≡ 2 ^ exponent
  within : exponent ≤ k

power_to : (k a : ℕ) → is_power_to k a ≡ true → PowerTo k a
unfolding is_power_to
power_to zero a t = record { exponent = 0; power = eqb-true a 1 t; within = omega arith }
power_to (suc k) a t = by (eqb a (2 ^ suc k)) refl (power_to k a) t
  where
    by : (r : Bool) → eqb a (2 ^ suc k) ≡ r → (is_power_to k a ≡ true → PowerTo k a) → (r || is_power_to k a) ≡ true → PowerTo (suc k) a
    by true e f t = record { exponent = suc k; power = eqb-true a (2 ^ suc k) e; within = omega arith }
    by false e f t = record { exponent = (f t).exponent; power = (f t).power; within = omega (arith, (f t).within) }

-- a product with an odd number is even only if the other factor is
odd_even : (m q : ℕ) → q % 2 ≡ 1 → (m * q) % 2 ≡ 0 → m ≡ m / 2 * 2
odd_even m q o f =
    let e : q ≡ q / 2 * 2 + 1 = omega arith in
    let g : m * q ≡ m * (q / 2 * 2) + m * 1 = ap (λ (n : ℕ). m * n) e ∙ mul-add m (q / 2 * 2) 1 in
    let h : m * (q / 2) * 2 ≡ m * (q / 2 * 2) = mul_assoc m (q / 2) 2 in
    omega arith

-- a power of two that divides the product with an odd number divides the other factor
odd_factor : (k m q : ℕ) → q % 2 ≡ 1 → 2 ^ k ∣ m * q → 2 ^ k ∣ m
odd_factor zero m q o d = one-dvd m
odd_factor (suc k) m q o d =
    let p : 2 ^ suc k ≡ 2 ^ k * 2 = pow-suc 2 k in
    let c : 2 ^ k * 2 ∣ m * q = rw p at d in
    let f : (m * q) % 2 ≡ 0 = mod-eq-zero_of_dvd 2 (dvd_trans 2 (dvd-mul_left 2 (2 ^ k)) c) in
    let g : m ≡ m / 2 * 2 = odd_even m q o f in
    let e : m * q ≡ m / 2 * q * 2 = ap (λ (n : ℕ). n * q) g ∙ mul_right_comm (m / 2) 2 q in
    let half : 2 ^ k ∣ m / 2 = odd_factor k (m / 2) q o (dvd_of_mul-dvd-mul_right (2 ^ k) two_positive (subst (λ (n : ℕ). 2 ^ k * 2 ∣ n) e c)) in
    rw p (subst (λ (n : ℕ). 2 ^ k * 2 ∣ n) (sym g) (mul-dvd-mul_right (2 ^ k) half 2))

-- a number that divides what a power of two divides, and that this power does not divide, divides it twice
divides_twice : (k m n : ℕ) → m ∣ n → 2 ^ k ∣ n → (2 ^ k ∣ m → ⊥) → 2 * m ∣ n
divides_twice k m n d p f = by ((n / m) % 2) refl
  where
    q : n / m * m ≡ n
    q = div-mul_cancel m d

    by : (r : ℕ) → (n / m) % 2 ≡ r → 2 * m ∣ n
    by zero e =
        let h : n / m ≡ n / m / 2 * 2 = omega arith in
        let w : n ≡ n / m / 2 * (2 * m) = sym q ∙ ap (λ (x : ℕ). x * m) h ∙ mul_assoc (n / m / 2) 2 m in
        subst (λ (x : ℕ). 2 * m ∣ x) (sym w) (dvd-mul_left (2 * m) (n / m / 2))
    by (suc r) e = absurd (f (odd_factor k m (n / m) (omega arith) (subst (λ (x : ℕ). 2 ^ k ∣ x) (sym q ∙ mul_comm (n / m) m) p)))

-- the search from m by steps of b meets each number m + t b, unless it has stopped before
record Meets (a found limit : ℕ) : Type 0 where
  divided : a ∣ found
  least : found ≤ limit

meets : (turns t a b m : ℕ) → t < turns → a ∣ m + t * b → Meets a (multiple_from turns a b m) (m + t * b)
unfolding multiple_from
meets zero t a b m h d = absurd (omega arith)
meets (suc turns) t a b m h d =
    either (λ (n : ℕ). Meets a n (m + t * b)) (eqb (m % a) 0)
    (λ e. record { divided = dvd_of_mod-eq-zero a (eqb-true (m % a) 0 e); least = omega arith })
    (λ e. later t h d (λ s. meets turns s a b (m + b)) (eqb-false (m % a) 0 e))
  where
    later : (t : ℕ) → t < suc turns → a ∣ m + t * b → ((s : ℕ) → s < turns → a ∣ m + b + s * b → Meets a (multiple_from turns a b (m + b)) (m + b + s * b))
        → (m % a ≡ 0 → ⊥) → Meets a (multiple_from turns a b (m + b)) (m + t * b)
    later zero h d f g =
        let e : m + 0 * b ≡ m = omega (arith, zero-mul b) in
        absurd (g (mod-eq-zero_of_dvd a (rw e at d)))
    later (suc s) h d f g =
        let e : m + suc s * b ≡ m + b + s * b = omega (arith, suc-mul s b) in
        rw e (f s (omega arith) (rw e at d))

from_low : (turns a b m : ℕ) → m ≤ multiple_from turns a b m
unfolding multiple_from
from_low zero a b m = omega arith
from_low (suc turns) a b m = either (λ (n : ℕ). m ≤ n) (eqb (m % a) 0) (λ _. omega arith) (λ _. omega (arith, from_low turns a b (m + b)))

from_whole : (turns a b m : ℕ) → b ∣ m → b ∣ multiple_from turns a b m
unfolding multiple_from
from_whole zero a b m d = d
from_whole (suc turns) a b m d =
    either (λ (n : ℕ). b ∣ n) (eqb (m % a) 0) (λ _. d) (λ _. from_whole turns a b (m + b) (dvd-add b d (dvd_refl b)))

common_above : (a b : ℕ) → b ≤ common_multiple a b
unfolding common_multiple
common_above a b = from_low a a b b

pub common_low : (a b : ℕ) → is_alignment a ≡ true → 1 ≤ b → b ≤ common_multiple a b
common_low a b t p = common_above a b

pub cut_common : (a b : ℕ) → is_alignment a ≡ true → 1 ≤ b → cut (common_multiple a (cut b)) ≡ cut (common_multiple a b)
cut_common a b t p =
    cut_either b (λ (n : ℕ). cut (common_multiple a n) ≡ cut (common_multiple a b)) (λ _. refl)
    (λ h. high (common_multiple a cap) (common_multiple a b) (common_above a cap) (omega (arith, common_above a b)))

-- the search meets the multiple (q + 1) b, if a divides it and q is below a
common_meets : (q a b : ℕ) → q < a → a ∣ suc q * b → Meets a (common_multiple a b) (suc q * b)
unfolding common_multiple
common_meets q a b h d =
    let e : suc q * b ≡ b + q * b = omega (arith, suc-mul q b) in
    rw e (meets a q a b b h (rw e at d))

common_reached : (a b : ℕ) → 1 ≤ a → Meets a (common_multiple a b) (a * b)
common_reached zero b h = absurd (omega arith)
common_reached (suc n) b h = common_meets n (suc n) b (omega arith) (dvd-mul_right (suc n) b)

common_least : (q a b : ℕ) → 1 ≤ a → 1 ≤ q * b → a ∣ q * b → common_multiple a b ≤ q * b
common_least zero a b h p d = absurd (omega (arith, zero-mul b))
common_least (suc q) a b h p d = by (ltb q a) refl
  where
    by : (r : Bool) → ltb q a ≡ r → common_multiple a b ≤ suc q * b
    by true e = (common_meets q a b (ltb-true q a e) d).least
    by false e =
        let l : a ≤ suc q = omega (arith, ltb-false q a e) in
        omega (arith, (common_reached a b h).least, mul-le-mul_right b l)

-- the loop has come to the multiple m
pub record Doubled (a b m : ℕ) : Type 0 where
  pub whole : b ∣ m
  pub part : m ∣ common_multiple a b

pub doubled_start : (a b : ℕ) → Doubled a b b
unfolding common_multiple
doubled_start a b = record { whole = dvd_refl b; part = from_whole a a b b (dvd_refl b) }

module _ (a : ℕ) (t : is_alignment a ≡ true) where
  to : PowerTo 16 a
  to = power_to 16 a t

  pub alignment_low : 0 < a
  alignment_low = rw to.power (one-le-pow to.exponent 2 two_positive)

  pub alignment_high : a ≤ alignment_limit
  alignment_high = rw to.power (pow-le-pow_right two_positive to.within)

  module _ (b : ℕ) (p : 1 ≤ b) where
    common_positive : 1 ≤ common_multiple a b
    common_positive = omega (arith, common_above a b)

    common_bound : b ≤ cap → common_multiple a b < 2 ^ 60
    common_bound h =
        let l : a * b ≤ alignment_limit * b = mul-le-mul_right b alignment_high in
        omega (arith, (common_reached a b alignment_low).least)

    module _ (m : ℕ) (d : Doubled a b m) where
      doubled_end : m % a ≡ 0 → m ≡ common_multiple a b
      doubled_end e =
          let l : m ≤ common_multiple a b = le_of_dvd common_positive d.part in
          let q : m / b * b ≡ m = div-mul_cancel b d.whole in
          let z : 1 ≤ m = pos_of_dvd_of_pos d.part common_positive in
          let w : common_multiple a b ≤ m / b * b = common_least (m / b) a b alignment_low (rw q z) (rw q (dvd_of_mod-eq-zero a e)) in
          omega arith

      pub doubled_cut : {r : ℕ} → r ≡ cut m → m % a ≡ 0 → r ≡ cut (common_multiple a b)
      doubled_cut e f = e ∙ ap cut (doubled_end f)

      module _ (f : m % a ≡ 0 → ⊥) where
        twice : 2 * m ∣ common_multiple a b
        twice =
            divides_twice to.exponent m (common_multiple a b) d.part
            (subst (λ (n : ℕ). n ∣ common_multiple a b) to.power (common_reached a b alignment_low).divided)
            (λ g. f (mod-eq-zero_of_dvd a (subst (λ (n : ℕ). n ∣ m) (sym to.power) g)))

        pub doubled_next : Doubled a b (2 * m)
        doubled_next = record { whole = dvd_trans b d.whole (dvd-mul_left m 2); part = twice }

        pub doubled_less : common_multiple a b - 2 * m < common_multiple a b - m
        doubled_less =
            let l : 2 * m ≤ common_multiple a b = le_of_dvd common_positive twice in
            let z : 0 < m = pos_of_dvd_of_pos d.part common_positive in
            omega arith

        pub doubled_fits : b ≤ cap → 2 * m < 2 ^ 64
        doubled_fits h =
            let l : 2 * m ≤ common_multiple a b = le_of_dvd common_positive twice in
            omega (arith, common_bound h)
