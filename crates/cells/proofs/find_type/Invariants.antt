-- What the name means among the types left to look at is what it means among all.
use Rattle.cells.proofs.Laws.{Seeking}
use Rattle.cells.proofs.find_type.Given as goal

abbrev pub invariant-loop-at : goal.invariant-loop-at
invariant-loop-at l = Seeking l.text l.cells l.head l.stop l.name l.at

abbrev pub decreases-loop-at : goal.decreases-loop-at
decreases-loop-at l = l.at
