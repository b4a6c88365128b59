-- What a word may be in an expression (document 02, item 1).
use Rattle.std.specs.Prelude.{Bool, true, false, ℕ, eqb, Option, Some, None}
use Rattle.std.specs.Prelude.{if◌then◌else◌}
use Rattle.vocabulary.specs.declared.Mark.{Mark}
use Rattle.vocabulary.specs.declared.Mark.TheVariants as mark
use Rattle.lex.specs.declared.Word.{Word}
use Rattle.lex.specs.declared.Word.TheVariants as word
use Rattle.operators.specs.declared.Operator.{Operator}
use Rattle.operators.specs.declared.Operator.TheVariants as operator
use Rattle.operators.specs.Operators.{row_of}
use Rattle.expressions.specs.declared.ExpressionWord.{ExpressionWord}
use Rattle.expressions.specs.declared.ExpressionWord.TheVariants as part

-- the marks of expressions: "parentheses, `* / % + - << >> & ^ |` and the comparisons"
abbrev pub mark_part : Mark → ExpressionWord
mark_part mark.OpenBrace = part.Other
mark_part mark.CloseBrace = part.Other
mark_part mark.OpenBracket = part.Other
mark_part mark.CloseBracket = part.Other
mark_part mark.Semicolon = part.Other
mark_part mark.Colon = part.Other
mark_part mark.Comma = part.Other
mark_part mark.Equals = part.Other
mark_part mark.At = part.Other
mark_part mark.PlusEquals = part.Other
mark_part mark.PercentEquals = part.Other
mark_part mark.OpenParen = part.Open
mark_part mark.CloseParen = part.Close
mark_part mark.Times = part.Binary operator.Times
mark_part mark.Slash = part.Binary operator.Over
mark_part mark.Percent = part.Binary operator.Modulo
mark_part mark.Plus = part.Binary operator.Plus
mark_part mark.Minus = part.Binary operator.Minus
mark_part mark.ShiftLeft = part.Binary operator.ShiftLeft
mark_part mark.ShiftRight = part.Binary operator.ShiftRight
mark_part mark.Less = part.Binary operator.Less
mark_part mark.AtMost = part.Binary operator.AtMost
mark_part mark.More = part.Binary operator.More
mark_part mark.AtLeast = part.Binary operator.AtLeast
mark_part mark.Same = part.Binary operator.Same
mark_part mark.Unlike = part.Binary operator.Unlike
mark_part mark.Ampersand = part.Binary operator.And
mark_part mark.Caret = part.Binary operator.Xor
mark_part mark.Bar = part.Binary operator.Or

-- a number, a mark of expressions, or any other word
unfoldable pub part_of : Word → ExpressionWord
part_of word.End = part.Other
part_of word.Name = part.Other
part_of (word.Keyword k) = part.Other
part_of (word.Number n) = part.Literal n
part_of word.String = part.Other
part_of (word.Mark m) = mark_part m
part_of (word.Bad c) = part.Other

-- a closing parenthesis
abbrev pub is_close : ExpressionWord → Bool
is_close (part.Literal n) = false
is_close part.Open = false
is_close part.Close = true
is_close (part.Binary o) = false
is_close part.Other = false

-- an operator of that row
unfoldable pub in_row : ℕ → Operator → Option Operator
in_row row o = if eqb (row_of o) row then Some o else None

unfoldable pub operator_in : ℕ → ExpressionWord → Option Operator
operator_in row (part.Literal n) = None
operator_in row part.Open = None
operator_in row part.Close = None
operator_in row (part.Binary o) = in_row row o
operator_in row part.Other = None

-- any operator
abbrev pub is_operator : ExpressionWord → Bool
is_operator (part.Literal n) = false
is_operator part.Open = false
is_operator part.Close = false
is_operator (part.Binary o) = true
is_operator part.Other = false
