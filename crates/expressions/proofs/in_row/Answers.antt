-- An operator is found exactly where its row is the one asked for.
use Rattle.expressions.proofs.Laws.{row_same, row_other}
use Rattle.expressions.proofs.in_row.Goals as goal

pub returns-then-row_of-row : goal.returns-then-row_of-row
returns-then-row_of-row c = search row_same

pub returns : goal.returns
returns c = search row_other
