-- All rows get their shapes, one after another: the rows before this one hold theirs.
use Rattle.sizes.proofs.Laws.{Filling}
use Rattle.sizes.proofs.fill_shapes.Given as goal

abbrev pub invariant-loop-row : goal.invariant-loop-row
invariant-loop-row l = Filling l.text l.cells l.initial.shapes l.shapes l.extent l.row
