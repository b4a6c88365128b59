-- What holds of a result of the judge, if there is one.
use mathlib.Core.Path.{◌≡◌, refl}
use mathlib.Core.Bool.{Bool, true, false}
use Prim.Native.Nat.{ℕ}
use native.Mathlib.Omega.{arith}
use Rattle.basics.specs.Judged.{Judged, fault, fine, onward, unless, found, Verdict, Accepted, Refused}

-- what holds of a result, if there is one
pub data Each {A : Type 0} (P : A → Type 0) : Judged A → Type 0 where
  each_fault : {n p : ℕ} → Each P (fault n p)
  each_fine : {a : A} → P a → Each P (fine a)

module _ {A : Type 0} (P : A → Type 0) where
  pub each_unless : (b : Bool) (n p : ℕ) {j : Judged A} → (b ≡ false → Each P j) → Each P (unless b n p j)
  unfolding unless
  each_unless true n p h = each_fault
  each_unless false n p h = h refl

  pub each_found : (f : Verdict) {j : Judged A} → (f ≡ Accepted → Each P j) → Each P (found f j)
  each_found Accepted h = h refl
  each_found (Refused n p) h = each_fault

  pub each_of : {j : Judged A} {a : A} → Each P j → j ≡ fine a → P a
  each_of each_fault e = absurd (let z : ◌≡◌ {A = ℕ} 0 1 = cc in omega arith)
  each_of {a = a} (each_fine {a = b} h) e = let z : b ≡ a = cc in rw z at h

pub each_onward : {A B : Type 0} (P : A → Type 0) (Q : B → Type 0) {j : Judged A} (k : A → Judged B) → Each P j → ((a : A) → P a → Each Q (k a)) → Each Q (onward j k)
unfolding onward
each_onward P Q k each_fault f = each_fault
each_onward P Q k (each_fine {a = a} h) f = f a h

-- where nothing is asked of the first result
pub each_next : {A B : Type 0} (Q : B → Type 0) (j : Judged A) (k : A → Judged B) → ((a : A) → Each Q (k a)) → Each Q (onward j k)
unfolding onward
each_next Q (fault n p) k f = each_fault
each_next Q (fine a) k f = f a
