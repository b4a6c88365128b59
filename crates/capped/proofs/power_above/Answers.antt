use Rattle.capped.proofs.Laws.{doubling_start, doubling_next, doubling_less, doubling_end}
use Rattle.capped.proofs.power_above.Goals as goal

pub loop-power-init : goal.loop-power-init
loop-power-init c = search doubling_start

pub loop-power-smaller : goal.loop-power-smaller
loop-power-smaller c = search doubling_less

pub loop-power-preserved : goal.loop-power-preserved
loop-power-preserved c = search doubling_next

pub returns : goal.returns
returns c = search doubling_end
