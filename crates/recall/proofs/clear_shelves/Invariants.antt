-- Emptying the shelves from this one on comes to the same as emptying all of them.
use Rattle.recall.specs.Shelves.{shelf_count}
use Rattle.recall.specs.Kept.{emptied_at}
use Rattle.recall.proofs.Kept.{Left}
use Rattle.recall.proofs.clear_shelves.Given as goal

abbrev pub invariant-loop-shelf : goal.invariant-loop-shelf
invariant-loop-shelf l = Left emptied_at l.initial.shapes l.shapes 0 l.shelf shelf_count
