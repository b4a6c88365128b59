-- The tree of an expression.
use Rattle.std.specs.Prelude.{ℕ}
use Rattle.operators.specs.declared.Operator.{Operator}

-- a number with its value and place; what stands in parentheses, with the opening one's place; an operator with its place, between two
pub data Expr : Type 0 where
  literal : ℕ → ℕ → Expr
  inside : ℕ → Expr → Expr
  apply : Operator → ℕ → Expr → Expr → Expr
