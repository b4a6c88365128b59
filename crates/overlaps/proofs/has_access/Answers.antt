use borrow.Author.Rules.{rules}
use Rattle.sizes.proofs.Laws.{ready_low, ready_within}
use Rattle.overlaps.proofs.Access.{asking_start, asking_stop, asking_next, asking_end}
use Rattle.overlaps.proofs.has_access.Goals as goal

pub instances_of-span-requires : goal.instances_of-span-requires
instances_of-span-requires c = search (rules, ready_low, ready_within)

pub loop-i-init : goal.loop-i-init
loop-i-init c = search asking_start

pub returns-then-not-is_access : goal.returns-then-not-is_access
returns-then-not-is_access c = search asking_stop

pub loop-i-preserved : goal.loop-i-preserved
loop-i-preserved c = search asking_next

pub returns : goal.returns
returns c = search asking_end
