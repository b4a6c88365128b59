-- A width is a decimal number of at most 64; any other is 0, for none.
use borrow.Author.Rules.{rules}
use Rattle.numbers.proofs.Laws.{width_wide, width_above, width_within}
use Rattle.numbers.proofs.width_of.Goals as goal

pub returns-in-Err : goal.returns-in-Err
returns-in-Err c = search (rules, width_wide)

pub returns-then-width-gt64 : goal.returns-then-width-gt64
returns-then-width-gt64 c = search (rules, width_above)

pub returns-else-width-gt64 : goal.returns-else-width-gt64
returns-else-width-gt64 c = search (rules, width_within)
