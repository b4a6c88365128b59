-- An unknown letter, no width and bytes that are no digits are malformed; else the value has to fit the width.
use Rattle.numbers.proofs.Laws.{sized_unknown, sized_zero, sized_malformed, sized_digits}
use borrow.Author.Tests.{not-true, not-false}
use Rattle.numbers.proofs.sized_number.Goals as goal

pub returns-in_default : goal.returns-in_default
returns-in_default c = search sized_unknown

pub returns-then-width-eq0 : goal.returns-then-width-eq0
returns-then-width-eq0 c = search sized_zero

pub returns-then-not-spaced_digits : goal.returns-then-not-spaced_digits
returns-then-not-spaced_digits c = search (sized_malformed, not-true)

pub returns : goal.returns
returns c = search (sized_digits, not-false)
