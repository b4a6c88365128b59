-- No cell past the end is short; another is where the next one's instance begins behind its own, and near.
use Rattle.recall.proofs.Kept.{short_past, short_behind, short_near}
use Rattle.recall.proofs.is_surely_short.Goals as goal

pub returns-then-cells-i : goal.returns-then-cells-i
returns-then-cells-i c = search short_past

pub returns-then-next-place : goal.returns-then-next-place
returns-then-next-place c = search short_behind

pub returns : goal.returns
returns c = search short_near
