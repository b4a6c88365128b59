-- What the name comes to from the instance that the loop is at is what it comes to from the root.
use Prim.Native.Nat.{◌-◌}
use Rattle.name_tree.proofs.Laws.{Seeking}
use Rattle.name_tree.proofs.find.Given as goal

abbrev pub invariant-loop-node : goal.invariant-loop-node
invariant-loop-node l = Seeking l.text l.cells l.from l.count l.name l.node l.depth

abbrev pub decreases-loop-node : goal.decreases-loop-node
decreases-loop-node l = l.count - l.node
