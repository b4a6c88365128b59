-- The value of an expression, or which operator refuses it.
use Rattle.std.specs.Prelude.{ℕ, Option, Some, None}
use Rattle.std.specs.Option.{option_or}
use Rattle.operators.specs.declared.Operator.{Operator}
use Rattle.operators.specs.Operators.{result_of}
use Rattle.expressions.specs.declared.Number.{Number}
use Rattle.expressions.specs.Tree.{Expr, literal, inside, apply}

-- a number that stands at a place, and one that is refused at an operator
abbrev pub sound : ℕ → ℕ → Number
sound n place = record { value = n; place = place; refusal = None }

abbrev pub refused_at : ℕ → ℕ → Number
refused_at p place = record { value = 0; place = place; refusal = Some p }

-- "of several the smallest place answers": the left part's comes first
abbrev pub earlier : Option ℕ → Option ℕ → Option ℕ
earlier left right = option_or left right

-- what an operator at the place `p` gives, in an expression that begins at `place`
unfoldable pub given : ℕ → ℕ → Option ℕ → Number
given p place (Some n) = sound n place
given p place None = refused_at p place

-- "No operator .. over a refused part is judged"
unfoldable pub settled : Option ℕ → ℕ → Number → Number
settled None place judged = judged
settled (Some q) place judged = refused_at q place

unfoldable pub joined : Operator → ℕ → Number → Number → Number
joined o p l r = settled (earlier l.refusal r.refusal) l.place (given p l.place (result_of o l.value r.value))

-- in parentheses: "an opening parenthesis included"
abbrev pub placed : ℕ → Number → Number
placed p x = record { value = x.value; place = p; refusal = x.refusal }

unfoldable pub evaluated : Expr → Number
evaluated (literal n p) = sound n p
evaluated (inside p e) = placed p (evaluated e)
evaluated (apply o p l r) = joined o p (evaluated l) (evaluated r)
