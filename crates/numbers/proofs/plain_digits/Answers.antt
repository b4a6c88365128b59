-- There is a digit, and all bytes from it on are digits.
use Rattle.numbers.proofs.Laws.{plain_none, plain_some}
use Rattle.numbers.proofs.plain_digits.Goals as goal

pub returns-then-at-part : goal.returns-then-at-part
returns-then-at-part c = search plain_none

pub returns : goal.returns
returns c = search plain_some
