-- A short instance changes nothing; a long one is written on the shelf of its place.
use Rattle.recall.proofs.Kept.{one_behind, one_short, one_long}
use Rattle.recall.proofs.keep.Goals as goal

pub returns-then-end-place : goal.returns-then-end-place
returns-then-end-place c = search one_behind

pub returns-then-end-place-2 : goal.returns-then-end-place-2
returns-then-end-place-2 c = search one_short

pub returns : goal.returns
returns c = search one_long
