-- The first byte decides whether it is the end, a name, a number, a string or a mark.
use Rattle.lex.proofs.Tokens.{from_end, from_name, from_number, from_string, from_mark}
use Rattle.lex.proofs.token_from.Goals as goal

pub returns-then-i-text : goal.returns-then-i-text
returns-then-i-text c = search from_end

pub returns-then-is_letter : goal.returns-then-is_letter
returns-then-is_letter c = search from_name

pub returns-then-is_digit : goal.returns-then-is_digit
returns-then-is_digit c = search from_number

pub returns-then-b-eq34 : goal.returns-then-b-eq34
returns-then-b-eq34 c = search from_string

pub returns : goal.returns
returns c = search from_mark
