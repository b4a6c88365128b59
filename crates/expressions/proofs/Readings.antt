-- What is known of a reading.
use mathlib.Core.Path.{◌≡◌, ap}
use Prim.Native.Nat.{ℕ}
use native.Mathlib.Omega.{arith}
use Rattle.expressions.specs.Reading.{Parsed, ok, stop, and_then, mapped}

-- a reading that is known, read on
module _ {A B : Type 0} {p : Parsed A} (k : A → ℕ → Parsed B) where
  pub then_ok : {a : A} {n : ℕ} → p ≡ ok a n → and_then p k ≡ k a n
  unfolding and_then
  then_ok e = rw e

  pub then_stop : {n q : ℕ} → p ≡ stop n q → and_then p k ≡ stop n q
  unfolding and_then
  then_stop e = rw e

-- what a mapped reading was
module _ {A B : Type 0} (f : A → B) where
  pub mapped_done : (p : Parsed A) {b : B} {n : ℕ} → ok b n ≡ mapped f p → (a : A) × ((p ≡ ok a n) × (f a ≡ b))
  unfolding mapped
  mapped_done (ok a m) {n = n} e = (a, (ap (λ (k : ℕ). ok a k) (cc), (cc)))
  mapped_done (stop m q) e = absurd (let z : ◌≡◌ {A = ℕ} 0 1 = cc in omega arith)

  pub mapped_stopped : (p : Parsed A) {n q : ℕ} → stop n q ≡ mapped f p → p ≡ stop n q
  unfolding mapped
  mapped_stopped (ok a m) e = absurd (let z : ◌≡◌ {A = ℕ} 0 1 = cc in omega arith)
  mapped_stopped (stop m r) e = cc

-- what holds of what was read and the cursor past it, unless it was refused
pub data HoldsRead {A : Type 0} (Q : A → ℕ → Type 0) : Parsed A → Type 0 where
  holds_ok : {a : A} {n : ℕ} → Q a n → HoldsRead Q (ok a n)
  holds_stop : {n p : ℕ} → HoldsRead Q (stop n p)

holds_here : {A : Type 0} {Q : A → ℕ → Type 0} {a : A} {n : ℕ} → HoldsRead Q (ok a n) → Q a n
holds_here (holds_ok q) = q

pub holds_of : {A : Type 0} {Q : A → ℕ → Type 0} {p : Parsed A} {a : A} {n : ℕ} → HoldsRead Q p → p ≡ ok a n → Q a n
holds_of {Q = Q} h e = holds_here {Q = Q} (rw e at h)

pub holds_more : {A : Type 0} {Q R : A → ℕ → Type 0} {p : Parsed A} → ((a : A) (n : ℕ) → Q a n → R a n) → HoldsRead Q p → HoldsRead R p
holds_more f (holds_ok {a = a} {n = n} q) = holds_ok (f a n q)
holds_more f holds_stop = holds_stop

pub holds_mapped : {A B : Type 0} {Q : A → ℕ → Type 0} {R : B → ℕ → Type 0} (g : A → B) {p : Parsed A} → ((a : A) (n : ℕ) → Q a n → R (g a) n) → HoldsRead Q p
    → HoldsRead R (mapped g p)
unfolding mapped
holds_mapped g f (holds_ok {a = a} {n = n} q) = holds_ok (f a n q)
holds_mapped g f holds_stop = holds_stop

pub holds_then : {A B : Type 0} {Q : A → ℕ → Type 0} {R : B → ℕ → Type 0} {p : Parsed A} {k : A → ℕ → Parsed B} → HoldsRead Q p
    → ((a : A) (n : ℕ) → Q a n → HoldsRead R (k a n)) → HoldsRead R (and_then p k)
unfolding and_then
holds_then (holds_ok {a = a} {n = n} q) f = f a n q
holds_then holds_stop f = holds_stop
