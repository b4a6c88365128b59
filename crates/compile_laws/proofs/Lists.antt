-- Laws of tests, and of what holds of all of a list.
use mathlib.Core.Path.{◌≡◌, refl}
use mathlib.Core.Bool.{Bool, true, false, not}
use mathlib.Core.List.{List, [], ◌∷◌, ◌++◌}
use Prim.Native.Nat.{ℕ, suc}
use native.Mathlib.Omega.{arith}
use Rattle.std.specs.Prelude.{if◌then◌else◌}
use Rattle.basics.specs.All.{All, all_none, all_more}

pub all_first : {A : Type 0} {P : A → Type 0} {x : A} {xs : List A} → All P (x ∷ xs) → P x
all_first (all_more p a) = p

pub all_rest : {A : Type 0} {P : A → Type 0} {x : A} {xs : List A} → All P (x ∷ xs) → All P xs
all_rest (all_more p a) = a

pub all_left : {A : Type 0} {P : A → Type 0} (xs ys : List A) → All P (xs ++ ys) → All P xs
all_left [] ys h = all_none
all_left (x ∷ xs) ys h = all_more (all_first h) (all_left xs ys (all_rest h))

pub not_of : (b : Bool) → b ≡ false → not b ≡ true
not_of true e = cc
not_of false e = refl

-- a number of a fault, or none
module _ (n x : ℕ) where
  pub none_test : (b : Bool) → (if b then suc n else x) ≡ 0 → b ≡ false
  none_test true f = absurd (omega arith)
  none_test false f = refl

  pub none_on : (b : Bool) → (if b then suc n else x) ≡ 0 → x ≡ 0
  none_on true f = absurd (omega arith)
  none_on false f = f
