-- What is left to lay, behind the true end, comes to the row's shape, cut.
use Rattle.sizes.proofs.Laws.{Laying}
use Rattle.sizes.proofs.group_shape.Given as goal

abbrev pub invariant-loop-i : goal.invariant-loop-i
invariant-loop-i l = Laying l.text l.cells l.shapes l.extent l.row l.alignment l.i-end l.i l.end l.size l.access
