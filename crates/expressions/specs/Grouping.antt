-- How an expression is grouped: what the list of its operators says, and what the tree adds.
use Rattle.std.specs.Prelude.{List, [], ◌∷◌, ◌++◌, ◌≡◌, false, ℕ, suc, ◌<◌, ◌≤◌}
use Rattle.lex.specs.Token.{token_at}
use Rattle.operators.specs.declared.Operator.{Operator}
use Rattle.operators.specs.Operators.{row_of}
use Rattle.basics.specs.Limits.{parenthesis_limit}
use Rattle.expressions.specs.Words.{part_of, is_operator}
use Rattle.expressions.specs.Tree.{Expr, literal, inside, apply}
use Rattle.expressions.specs.declared.ExpressionWord.TheVariants as part

-- an operator with its place and the operand behind it
pub record Application : Type 0 where
  pub operator : Operator
  pub place : ℕ
  pub operand : Expr

-- the first operand and the list of operators, in the order of the text; what stands in parentheses is one operand
pub record Flat : Type 0 where
  pub first : Expr
  pub steps : List Application

abbrev pub behind : Flat → Operator → ℕ → Flat → Flat
behind l o p r = record { first = l.first; steps = l.steps ++ (record { operator = o; place = p; operand = r.first } ∷ r.steps) }

unfoldable pub flat : Expr → Flat
flat (literal n p) = record { first = literal n p; steps = [] }
flat (inside p e) = record { first = inside p e; steps = [] }
flat (apply o p l r) = behind (flat l) o p (flat r)

-- the row of the operator on top; an operand's is 0
abbrev pub row_on : Expr → ℕ
row_on (literal n p) = 0
row_on (inside p e) = 0
row_on (apply o p l r) = row_of o

-- "Verilog's precedence and left grouping": what stands right of an operator binds tighter, what stands left at least as tight
pub data Grouped : Expr → Type 0 where
  grouped_literal : {n p : ℕ} → Grouped (literal n p)
  grouped_inside : {p : ℕ} {e : Expr} → Grouped e → Grouped (inside p e)
  grouped_apply : {o : Operator} {p : ℕ} {l r : Expr} → Grouped l → Grouped r → row_on l ≤ row_of o → row_on r < row_of o → Grouped (apply o p l r)

-- what stands in parentheses at an operand of the tree is grouped; the tree's own operators may stand in any grouping
pub data OperandsGrouped : Expr → Type 0 where
  operands_literal : {n p : ℕ} → OperandsGrouped (literal n p)
  operands_inside : {p : ℕ} {e : Expr} → Grouped e → OperandsGrouped (inside p e)
  operands_apply : {o : Operator} {p : ℕ} {l r : Expr} → OperandsGrouped l → OperandsGrouped r → OperandsGrouped (apply o p l r)

-- at most so many parentheses are open at once
pub data Nested : ℕ → Expr → Type 0 where
  nested_literal : {d n p : ℕ} → Nested d (literal n p)
  nested_inside : {d p : ℕ} {e : Expr} → Nested d e → Nested (suc d) (inside p e)
  nested_apply : {d p : ℕ} {o : Operator} {l r : Expr} → Nested d l → Nested d r → Nested d (apply o p l r)

-- a tree is spelt by the words from a cursor to another
pub data WordsSpell (t : List ℕ) : ℕ → Expr → ℕ → Type 0 where
  spelt_literal : {at v : ℕ} → part_of (token_at t at).word ≡ part.Literal v → WordsSpell t at (literal v (token_at t at).start) (token_at t at).end
  spelt_inside : {at n : ℕ} {e : Expr} → part_of (token_at t at).word ≡ part.Open → WordsSpell t (token_at t at).end e n → part_of (token_at t n).word ≡ part.Close
      → WordsSpell t at (inside (token_at t at).start e) (token_at t n).end
  spelt_apply : {at m n : ℕ} {o : Operator} {l r : Expr} → WordsSpell t at l m → part_of (token_at t m).word ≡ part.Binary o → WordsSpell t (token_at t m).end r n
      → WordsSpell t at (apply o (token_at t m).start l r) n

-- "a constant expression": the words from a cursor to another spell the tree, it is grouped, not too deep, and no operator follows
pub record Expression (t : List ℕ) (at : ℕ) (e : Expr) (n : ℕ) : Type 0 where
  pub spelt : WordsSpell t at e n
  pub grouped : Grouped e
  pub nested : Nested parenthesis_limit e
  pub ends : is_operator (part_of (token_at t n).word) ≡ false
