-- The reader of an operand and the reader of a row call each other: the parentheses still allowed fall, and within them the row. Each
-- answers what the grammar gives.
use Prim.Native.Nat.{◌-◌, ◌+◌, ◌*◌}
use lib.ListN.{length}
use Rattle.expressions.specs.Reading.{mapped}
use Rattle.expressions.specs.Value.{evaluated}
use Rattle.expressions.specs.Grammar.{operand_at, row_at}
use Rattle.expressions.proofs.Laws.{Joining}
use Rattle.expressions.proofs.+read_operand_read_row.Given as goal

abbrev pub decreases-read_operand : goal.decreases-read_operand
decreases-read_operand l = 10 * l.depth

abbrev pub decreases-read_row : goal.decreases-read_row
decreases-read_row l = 10 * l.depth + l.row + 1

abbrev pub invariant-read_row-loop-operator : goal.invariant-read_row-loop-operator
invariant-read_row-loop-operator l =
    Joining (row_at (operand_at l.depth l.text) (l.row - 1) l.text) l.row l.text l.here l.left (mapped evaluated (row_at (operand_at l.depth l.text) l.row l.text l.at))

abbrev pub decreases-read_row-loop-operator : goal.decreases-read_row-loop-operator
decreases-read_row-loop-operator l = length l.text - l.here
