use borrow.Author.Rules.{rules}
use Rattle.orders.proofs.Unique.{halving_start, halving_end, halved, halved_less}
use Rattle.overlaps.proofs.bisect.Goals as goal

pub loop-bounds-init : goal.loop-bounds-init
loop-bounds-init c = search halving_start

pub pass-found-requires : goal.pass-found-requires
pass-found-requires c = (search rules, search rules)

pub loop-bounds-smaller : goal.loop-bounds-smaller
loop-bounds-smaller c = search halved_less

pub loop-bounds-preserved : goal.loop-bounds-preserved
loop-bounds-preserved c = search halved

pub returns : goal.returns
returns c = search halving_end
