use Rattle.recall.proofs.Kept.{shelves_start, shelves_next, shelves_end}
use Rattle.recall.proofs.clear_shelves.Goals as goal

pub loop-shelf-init : goal.loop-shelf-init
loop-shelf-init c = search shelves_start

pub loop-shelf-preserved : goal.loop-shelf-preserved
loop-shelf-preserved c = search shelves_next

pub returns : goal.returns
returns c = search shelves_end
