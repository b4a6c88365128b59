-- Laws of the definitions, one for each way that the code goes.
use mathlib.Core.Bool.{Bool, true, false, ◌||◌}
use mathlib.Core.Path.{◌≡◌, refl, sym, ◌∙◌, subst}
use Prim.Native.Nat.{ℕ, ◌*◌, ◌%◌, ◌^◌, ◌<◌, ◌≤◌}
use native.Mathlib.Nat.{pow-le-pow_right}
use native.Mathlib.Omega.{arith}
use lib.Dec.{eqb, leb}
use lib.Pow.{shl_exact}
use borrow.Author.Tests.{lt-leb, eqb-true}
use Rattle.fields.specs.Codes.{is_width}

-- what holds of 8, 16, 32 and 64 holds of every width
module _ (P : ℕ → Type 0) (eight : P 8) (sixteen : P 16) (thirty_two : P 32) (sixty-four : P 64) (n : ℕ) where
  pub width_cases : is_width n ≡ true → P n
  unfolding is_width
  width_cases e = by8 (eqb n 8) refl e
    where
      by64 : eqb n 64 ≡ true → P n
      by64 q = subst P (sym (eqb-true n 64 q)) sixty-four

      by32 : (b : Bool) → eqb n 32 ≡ b → (b || eqb n 64) ≡ true → P n
      by32 true q f = subst P (sym (eqb-true n 32 q)) thirty_two
      by32 false q f = by64 f

      by16 : (b : Bool) → eqb n 16 ≡ b → (b || (eqb n 32 || eqb n 64)) ≡ true → P n
      by16 true q f = subst P (sym (eqb-true n 16 q)) sixteen
      by16 false q f = by32 (eqb n 32) refl f

      by8 : (b : Bool) → eqb n 8 ≡ b → (b || (eqb n 16 || (eqb n 32 || eqb n 64))) ≡ true → P n
      by8 true q f = subst P (sym (eqb-true n 8 q)) eight
      by8 false q f = by16 (eqb n 16) refl f

-- a number of 64 bits against some bits, by a shift
module _ (bits v : ℕ) where
  pub more_all : v < 2 ^ 64 → 64 ≤ bits → false ≡ leb (2 ^ bits) v
  more_all f h =
      let p : 2 ^ 64 ≤ 2 ^ bits = pow-le-pow_right (omega arith) h in
      sym (lt-leb (2 ^ bits) v (omega arith))

  pub more_some : bits < 64 → leb ((1 * 2 ^ bits) % 2 ^ 64) v ≡ leb (2 ^ bits) v
  more_some h =
      let p : (1 * 2 ^ bits) % 2 ^ 64 ≡ 2 ^ bits = shl_exact 1 bits 64 (omega arith) (omega arith) ∙ omega arith in
      rw p
