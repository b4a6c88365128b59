-- Each operator, one law for each way that the code goes.
use mathlib.Core.Path.{◌≡◌}
use mathlib.Core.Bool.{not}
use Prim.Native.Nat.{ℕ, ◌*◌, ◌/◌, ◌%◌, ◌^◌, ◌<◌, ◌≤◌}
use native.Mathlib.Nat.{le-div_iff_mul-le, div-lt_iff_lt-mul, mod-eq_of_lt}
use native.Mathlib.Omega.{arith}
use lib.Pow.{pow_pos}
use borrow.Author.Tests.{lt-ltb, le-ltb, le-leb, lt-leb, eq-eqb, ne_eqb}
use Rattle.operators.specs.declared.Operator.TheVariants as operator
use Rattle.operators.specs.Operators.{within, only_if, result_of}
use lib.Dec.{eqb, leb}
use Rattle.std.specs.Prelude.{Option, Some, None, SomeIff}

within_is : (n : ℕ) → n < 2 ^ 64 → Some n ≡ within n
within_is n h = rw (lt-ltb n (2 ^ 64) h)

within_out : (n : ℕ) → 2 ^ 64 ≤ n → None ≡ within n
within_out n h = rw (le-ltb n (2 ^ 64) h)

-- what the library's checked operations answer
pub checked_within : (r : Option ℕ) (n : ℕ) → SomeIff r (n < 2 ^ 64) n → r ≡ within n
checked_within None n h = within_out n (omega (arith, h))
checked_within (Some x) n h = rw h.1 (within_is n h.0)

pub checked_unless_zero : (r : Option ℕ) (b n : ℕ) → SomeIff r (0 < b) n → r ≡ only_if (not (eqb b 0)) (Some n)
checked_unless_zero None b n h = rw (eq-eqb b 0 (omega (arith, h)))
checked_unless_zero (Some x) b n h = rw (h.1, ne_eqb b 0 (omega (arith, h.0)))

pub checked_at_most : (r : Option ℕ) (a b n : ℕ) → SomeIff r (b ≤ a) n → r ≡ only_if (leb b a) (Some n)
checked_at_most None a b n h = rw (lt-leb b a (omega (arith, h)))
checked_at_most (Some x) a b n h = rw (h.1, le-leb b a h.0)

module _ (a b : ℕ) where
  pub left_far : 64 ≤ b → None ≡ result_of operator.ShiftLeft a b
  unfolding result_of
  left_far h = rw (le-ltb b 64 h)

  module _ (h : b < 64) where
    pub left_out : 18446744073709551615 / 2 ^ b < a → None ≡ result_of operator.ShiftLeft a b
    unfolding result_of
    left_out q = rw (lt-ltb b 64 h) (within_out (a * 2 ^ b) (omega (arith, (div-lt_iff_lt-mul {k = 2 ^ b} {x = 18446744073709551615} {y = a} (pow_pos b)).0 q)))

    left_small : a ≤ 18446744073709551615 / 2 ^ b → a * 2 ^ b < 2 ^ 64
    left_small q = omega (arith, (le-div_iff_mul-le {k = 2 ^ b} {x = a} {y = 18446744073709551615} (pow_pos b)).0 q)

    pub left_is : a ≤ 18446744073709551615 / 2 ^ b → Some (a * 2 ^ b % 2 ^ 64) ≡ result_of operator.ShiftLeft a b
    unfolding result_of
    left_is q = rw (lt-ltb b 64 h, mod-eq_of_lt (left_small q)) (within_is (a * 2 ^ b) (left_small q))

    pub right_is : Some (a / 2 ^ b) ≡ result_of operator.ShiftRight a b
    unfolding result_of
    right_is = rw (lt-ltb b 64 h)

  pub right_far : 64 ≤ b → None ≡ result_of operator.ShiftRight a b
  unfolding result_of
  right_far h = rw (le-ltb b 64 h)
