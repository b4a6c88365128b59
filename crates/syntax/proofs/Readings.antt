-- What an answer says of the reading.
use mathlib.Core.Path.{◌≡◌, refl, ap}
use Prim.Native.Nat.{ℕ}
use native.Mathlib.Omega.{arith}
use Rattle.parts.specs.Reading.{Parsed, ok, stop, and_then, mapped}
use Rattle.syntax.specs.Answers.{answer_of}
use Rattle.basics.specs.Judged.{fine, fault}

pub answer_mapped : {A B : Type 0} (f : A → B) (p : Parsed A) → answer_of (mapped f p) ≡ answer_of p
unfolding answer_of mapped
answer_mapped f (ok a n) = refl
answer_mapped f (stop n p) = refl

pub done_ok : {A : Type 0} (p : Parsed A) {n : ℕ} → answer_of p ≡ fine n → (a : A) × (p ≡ ok a n)
unfolding answer_of
done_ok (ok a m) e = (a, ap (λ (k : ℕ). ok a k) (cc))
done_ok (stop m q) {n} e = absurd (let z : ◌≡◌ {A = ℕ} 0 1 = cc in omega arith)

pub refused_stop : {A : Type 0} (p : Parsed A) {n q : ℕ} → answer_of p ≡ fault n q → p ≡ stop n q
unfolding answer_of
refused_stop (ok a m) e = absurd (let z : ◌≡◌ {A = ℕ} 0 1 = cc in omega arith)
refused_stop (stop m q') e = cc

-- a reading that is known, read on
module _ {A B : Type 0} {p : Parsed A} (k : A → ℕ → Parsed B) where
  pub then_ok : {a : A} {n : ℕ} → p ≡ ok a n → and_then p k ≡ k a n
  unfolding and_then
  then_ok e = rw e

  pub then_stop : {n q : ℕ} → p ≡ stop n q → and_then p k ≡ stop n q
  unfolding and_then
  then_stop e = rw e
