-- Which operators of an expression are at fault.
use Rattle.std.specs.Prelude.{◌≡◌, ℕ, None}
use Rattle.operators.specs.declared.Operator.{Operator}
use Rattle.operators.specs.Operators.{result_of}
use Rattle.expressions.specs.Tree.{Expr, inside, apply}
use Rattle.expressions.specs.Value.{evaluated}

-- the operator at the place: it has no result, and stands over no refused part
pub data Faulty : Expr → ℕ → Type 0 where
  faulty_here : {o : Operator} {p : ℕ} {l r : Expr} → (evaluated l).refusal ≡ None → (evaluated r).refusal ≡ None
      → result_of o (evaluated l).value (evaluated r).value ≡ None → Faulty (apply o p l r) p
  faulty_left : {o : Operator} {p q : ℕ} {l r : Expr} → Faulty l q → Faulty (apply o p l r) q
  faulty_right : {o : Operator} {p q : ℕ} {l r : Expr} → Faulty r q → Faulty (apply o p l r) q
  faulty_inside : {p q : ℕ} {e : Expr} → Faulty e q → Faulty (inside p e) q
