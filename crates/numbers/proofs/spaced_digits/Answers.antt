-- The first byte is a digit; behind it underscores may stand too.
use Rattle.numbers.proofs.Laws.{spaced_none, spaced_first, spaced_more}
use borrow.Author.Tests.{not-true, not-false}
use Rattle.numbers.proofs.spaced_digits.Goals as goal

pub returns-then-at-part : goal.returns-then-at-part
returns-then-at-part c = search spaced_none

pub returns-then-not-is_digit : goal.returns-then-not-is_digit
returns-then-not-is_digit c = search (spaced_first, not-true)

pub returns : goal.returns
returns c = search (spaced_more, not-false)
