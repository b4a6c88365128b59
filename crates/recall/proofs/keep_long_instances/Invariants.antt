-- Keeping the instances of the rows from this one on comes to the same as keeping those of all rows.
use Rattle.recall.specs.Kept.{kept_row}
use Rattle.recall.proofs.Kept.{Left}
use Rattle.recall.proofs.keep_long_instances.Given as goal

abbrev pub invariant-loop-row : goal.invariant-loop-row
invariant-loop-row l = Left (kept_row l.text l.cells l.extent.map) l.initial.shapes l.shapes 0 l.row l.extent.rows
