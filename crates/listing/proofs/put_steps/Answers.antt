use borrow.Author.Rules.{rules}
use Rattle.listing.proofs.Loops.{steps_on, steps_end}
use Rattle.listing.proofs.put_steps.Goals as goal

pub loop-k-preserved : goal.loop-k-preserved
loop-k-preserved c = search (rules, steps_on)

pub returns : goal.returns
returns c = search (rules, steps_end)
