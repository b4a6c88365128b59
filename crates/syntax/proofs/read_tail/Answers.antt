-- Without a name there must be instances; with one a semicolon may stand at once.
use Rattle.syntax.proofs.Turns.{tail_unnamed, tail_end, tail_instances}
use borrow.Author.Tests.{not-true, not-false}
use Rattle.syntax.proofs.read_tail.Goals as goal

pub returns-then-not-named : goal.returns-then-not-named
returns-then-not-named c = search (tail_unnamed, not-true)

pub returns-then-is_mark : goal.returns-then-is_mark
returns-then-is_mark c = search (tail_end, not-false)

pub returns : goal.returns
returns c = search (tail_instances, not-false)
