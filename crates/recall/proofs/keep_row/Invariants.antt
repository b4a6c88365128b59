-- Keeping the instances from this one on comes to the same as keeping all of the row's.
use Prim.Native.Nat.{◌+◌}
use Rattle.cells.specs.Cells.{entries_at, first_in}
use Rattle.recall.specs.Kept.{kept_at}
use Rattle.recall.proofs.Kept.{Left}
use Rattle.recall.proofs.keep_row.Given as goal

abbrev pub invariant-loop-i : goal.invariant-loop-i
invariant-loop-i l = Left (kept_at l.text l.cells) l.initial.shapes l.shapes (entries_at + first_in l.cells l.row) l.i l.i-end
