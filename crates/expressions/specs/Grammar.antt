-- The grammar of constant expressions (document 02, item 1), as readers of the text at a cursor. The loop over one row's operators
-- takes a number of turns; one more than the text has bytes is enough, since each turn moves the cursor on.
use Rattle.std.specs.Prelude.{List, ℕ, zero, suc, length, Option, Some, None}
use Rattle.std.specs.Prelude.{if◌then◌else◌}
use Rattle.lex.specs.Token.{token_at}
use Rattle.lex.specs.declared.Token.{Token}
use Rattle.operators.specs.declared.Operator.{Operator}
use Rattle.operators.specs.Operators.{row_count}
use Rattle.basics.specs.Limits.{parenthesis_limit}
use Rattle.expressions.specs.Reading.{Parsed, ok, stop, and_then, mapped, unexpected}
use Rattle.expressions.specs.Words.{part_of, is_close, operator_in}
use Rattle.expressions.specs.Tree.{Expr, literal, inside, apply}
use Rattle.expressions.specs.Value.{sound, evaluated}
use Rattle.expressions.specs.declared.ExpressionWord.{ExpressionWord}
use Rattle.expressions.specs.declared.ExpressionWord.TheVariants as part
use Rattle.expressions.specs.declared.Number.{Number}

abbrev pub by_lookup : {A : Type 0} → Option Operator → A → (Operator → A) → A
by_lookup (Some o) none some = some o
by_lookup None none some = none

-- "left grouping": behind `left`, each operator of the row takes the next operand of the tighter rows
unfoldable pub joined_from : (ℕ → Parsed Expr) → ℕ → ℕ → List ℕ → Expr → ℕ → Parsed Expr
joined_from operand_from row zero text left at = stop 3 at
joined_from operand_from row (suc turns) text left at =
    let k = token_at text at in
    by_lookup (operator_in row (part_of k.word)) (ok left at) (λ o.
    and_then (operand_from k.end) (λ right next.
    joined_from operand_from row turns text (apply o k.start left right) next))

-- "Verilog's precedence": operands of the tighter rows, joined by this row's operators; row 0 is an operand
unfoldable pub row_at : (ℕ → Parsed Expr) → ℕ → List ℕ → ℕ → Parsed Expr
row_at operand_from zero text at = operand_from at
row_at operand_from (suc row) text at =
    and_then (row_at operand_from row text at) (λ left next.
    joined_from (row_at operand_from row text) (suc row) (suc (length text)) text left next)

-- a closing parenthesis has to stand there, behind something that was read
unfoldable pub closed_at : {A : Type 0} → A → List ℕ → ℕ → Parsed A
closed_at a text at = let k = token_at text at in if is_close (part_of k.word) then ok a k.end else unexpected k

-- a number, or an expression in parentheses, with a reader of what stands behind an opening one
abbrev pub operand_of : (ℕ → ℕ → Parsed Expr) → List ℕ → Token → ExpressionWord → Parsed Expr
operand_of inside_from text k (part.Literal n) = ok (literal n k.start) k.end
operand_of inside_from text k part.Open = and_then (inside_from k.start k.end) (λ e next. closed_at (inside k.start e) text next)
operand_of inside_from text k part.Close = unexpected k
operand_of inside_from text k (part.Binary o) = unexpected k
operand_of inside_from text k part.Other = unexpected k

unfoldable pub operand_with : (ℕ → ℕ → Parsed Expr) → List ℕ → ℕ → Parsed Expr
operand_with inside_from text at = let k = token_at text at in operand_of inside_from text k (part_of k.word)

-- an operand where so many parentheses may still be opened: "beyond that refusal 18 at the bracket"
unfoldable pub operand_at : ℕ → List ℕ → ℕ → Parsed Expr
operand_at zero text at = operand_with (λ p next. stop 18 p) text at
operand_at (suc depth) text at = operand_with (λ p next. row_at (operand_at depth text) row_count text next) text at

-- an expression
unfoldable pub expression_at : List ℕ → ℕ → Parsed Expr
expression_at text at = row_at (operand_at parenthesis_limit text) row_count text at

-- "Wherever a number may stand": a constant expression, as its value or the operator that refuses it
unfoldable pub number_at : List ℕ → ℕ → Parsed Number
number_at text at = mapped evaluated (expression_at text at)

-- what document 01 reads where a number may stand: a number alone
abbrev pub plain_of : Token → ExpressionWord → Parsed Number
plain_of k (part.Literal n) = ok (sound n k.start) k.end
plain_of k part.Open = unexpected k
plain_of k part.Close = unexpected k
plain_of k (part.Binary o) = unexpected k
plain_of k part.Other = unexpected k

unfoldable pub plain_at : List ℕ → ℕ → Parsed Number
plain_at text at = let k = token_at text at in plain_of k (part_of k.word)
