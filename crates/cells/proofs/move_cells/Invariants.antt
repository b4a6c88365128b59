-- What the cells are once the rest is moved is the same from every index that the loop passes.
use mathlib.Core.Path.{◌≡◌}
use lib.ListN.{length}
use Rattle.cells.specs.Cells.{moved}
use Rattle.cells.proofs.move_cells.Given as goal

abbrev pub invariant-loop-k : goal.invariant-loop-k
invariant-loop-k l = (moved l.cells l.from l.to l.k ≡ moved l.initial.cells l.from l.to l.count) × (length l.cells ≡ length l.initial.cells)
