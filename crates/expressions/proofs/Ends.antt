-- Where readings end: behind the cursor that they start at, within the text. The callers' readers of parts build on these.
use mathlib.Core.Bool.{Bool, true, false}
use mathlib.Core.Path.{◌≡◌, sym, ◌∙◌}
use mathlib.Core.List.{List}
use Prim.Native.Nat.{ℕ, suc, ◌≤◌}
use native.Mathlib.Omega.{arith}
use lib.ListN.{length}
use Rattle.lex.specs.Token.{token_at}
use Rattle.lex.specs.declared.Word.{Word}
use Rattle.lex.specs.declared.Word.TheVariants as word
use Rattle.lex.proofs.Bounds.{token_inside}
use Rattle.operators.specs.Operators.{row_count}
use Rattle.basics.specs.Limits.{parenthesis_limit}
use Rattle.expressions.specs.Reading.{Parsed, ok, stop, and_then, mapped}
use Rattle.expressions.specs.Value.{evaluated}
use Rattle.expressions.specs.Grammar.{expression_at, number_at}
use Rattle.expressions.proofs.Readings.{HoldsRead, holds_ok, holds_stop, holds_mapped}
use Rattle.expressions.proofs.Trees.{row_read}
use Rattle.expressions.proofs.Faults.{NumberLies, tree_lies}

-- a reading that ends from `low` to `high`, or is refused
pub data Ends {A : Type 0} (low high : ℕ) : Parsed A → Type 0 where
  ends_ok : {a : A} {n : ℕ} → (low ≤ n) × (n ≤ high) → Ends low high (ok a n)
  ends_stop : {n p : ℕ} → Ends low high (stop n p)

module _ {A : Type 0} {low high : ℕ} where
  ends_here : {a : A} {n : ℕ} → Ends low high (ok a n) → (low ≤ n) × (n ≤ high)
  ends_here (ends_ok h) = h

  pub ends_of : {p : Parsed A} {a : A} {n : ℕ} → Ends low high p → p ≡ ok a n → (low ≤ n) × (n ≤ high)
  ends_of h e = ends_here (rw e at h)

  pub ends_mapped : {B : Type 0} (f : A → B) {p : Parsed A} → Ends low high p → Ends low high (mapped f p)
  unfolding mapped
  ends_mapped f (ends_ok h) = ends_ok h
  ends_mapped f ends_stop = ends_stop

  pub ends_after : {low' : ℕ} {p : Parsed A} → low ≤ low' → Ends low' high p → Ends low high p
  ends_after l (ends_ok {n = n} h) = ends_ok {n = n} (omega arith, h.1)
  ends_after l ends_stop = ends_stop

pub ends_then : {A B : Type 0} {low mid high : ℕ} {p : Parsed A} {k : A → ℕ → Parsed B} → Ends mid high p
    → ((a : A) (n : ℕ) → mid ≤ n → n ≤ high → Ends low high (k a n)) → Ends low high (and_then p k)
unfolding and_then
ends_then (ends_ok {a = a} {n = n} h) f = f a n h.0 h.1
ends_then ends_stop f = ends_stop

ends_holds : {A : Type 0} {low high : ℕ} {Q : A → ℕ → Type 0} {p : Parsed A} → ((a : A) (n : ℕ) → Q a n → (low ≤ n) × (n ≤ high)) → HoldsRead Q p → Ends low high p
ends_holds f (holds_ok {a = a} {n = n} q) = ends_ok (f a n q)
ends_holds f holds_stop = ends_stop

module _ (t : List ℕ) (at : ℕ) where
  -- a token that passes a test which the end does not pass
  pub test_past : (P : Word → Bool) → P word.End ≡ false → P (token_at t at).word ≡ true → (suc at ≤ (token_at t at).end) × ((token_at t at).end ≤ length t)
  test_past P n y = token_inside t at (λ e. differ (rw e at y))
    where
      differ : P word.End ≡ true → ⊥
      differ z =
          let f : false ≡ true = sym n ∙ z in
          let o : ◌≡◌ {A = ℕ} 0 1 = cc in
          omega arith

  pub number_ends : Ends (suc at) (length t) (number_at t at)
  unfolding number_at expression_at
  number_ends = ends_mapped evaluated (ends_holds (λ e n w. (w.read.past, w.read.within)) (row_read t parenthesis_limit row_count at))

  -- where a number lies that is read, for the callers that put checks in order
  pub number_holds : HoldsRead (NumberLies t at) (number_at t at)
  unfolding number_at expression_at
  number_holds = holds_mapped evaluated (λ e n w. tree_lies t at w.read.spelt) (row_read t parenthesis_limit row_count at)
