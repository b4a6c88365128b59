use borrow.Author.Rules.{rules}
use Rattle.listing.proofs.Loops.{fields_on, fields_end}
use Rattle.listing.proofs.put_fields.Goals as goal

pub loop-k-preserved : goal.loop-k-preserved
loop-k-preserved c = search (rules, fields_on)

pub returns : goal.returns
returns c = search (rules, fields_end)
