use borrow.Author.Rules.{rules}
use Rattle.listing.proofs.Loops.{name_on, name_stop, name_end}
use Rattle.listing.proofs.put_name.Goals as goal

pub returns-then-byte-eq0 : goal.returns-then-byte-eq0
returns-then-byte-eq0 c = search (rules, name_stop)

pub loop-k-preserved : goal.loop-k-preserved
loop-k-preserved c = search (rules, name_on)

pub returns : goal.returns
returns c = search (rules, name_end)
