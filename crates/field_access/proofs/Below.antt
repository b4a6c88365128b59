-- A test of each number below a bound, as a loop makes it: so far all pass, one more passes, or one fails and so do all.
use mathlib.Core.Bool.{Bool, true, false, ◌&&◌, not}
use mathlib.Core.Path.{◌≡◌, refl, sym, ◌∙◌}
use Prim.Native.Nat.{ℕ, zero, suc, ◌+◌, ◌<◌}
use native.Mathlib.Numerals.{add-one}
use native.Mathlib.Decide.{dec_lt}
use native.Mathlib.Omega.{arith}
use borrow.Author.Tests.{not-true}
use Rattle.chars.proofs.Laws.{and_false}
use Rattle.model.specs.Repeats.{all_below}

module _ (p : ℕ → Bool) where
  pub below_none : all_below 0 p ≡ true
  unfolding all_below
  below_none = refl

  pub below_more : (k : ℕ) → all_below k p ≡ true → p k ≡ true → all_below (k + 1) p ≡ true
  unfolding all_below
  below_more k h e = rw (add-one k, h) e

  below_fails : (n k : ℕ) → k < n → p k ≡ false → all_below n p ≡ false
  unfolding all_below
  below_fails zero k l e = absurd (omega arith)
  below_fails (suc n) k l e = go (dec_lt k n) (λ q. below_fails n k q e)
    where
      go : Dec (k < n) → (k < n → all_below n p ≡ false) → (all_below n p && p n) ≡ false
      go (yes q) rest = rw (rest q)
      go (no q) rest = let s : n ≡ k = omega arith in rw (s, e) (and_false (all_below k p))

  -- a loop to a number that a call answers stops
  pub below_stop : (n k : ℕ) {m : ℕ} {r : Bool} → m ≡ n → r ≡ p k → k < m → not r ≡ true → false ≡ all_below n p
  below_stop n k {r = r} f e h y = sym (below_fails n k (omega arith) (sym e ∙ not-true r y))

pub ruleset below_loop = (below_none, below_more)
