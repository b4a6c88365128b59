use Rattle.recall.proofs.Kept.{left_next, cells_start, cells_end, cells_none}
use Rattle.recall.proofs.keep_row.Goals as goal

pub returns-then-row-extent : goal.returns-then-row-extent
returns-then-row-extent c = search cells_none

pub loop-i-init : goal.loop-i-init
loop-i-init c = cells_start _ _ _ _ c.instances_of-span.ensures

pub loop-i-preserved : goal.loop-i-preserved
loop-i-preserved c = search left_next

pub returns : goal.returns
returns c = search cells_end
