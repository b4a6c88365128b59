-- A number with no operator behind it is what the whole reader reads; any other expression is read by its rows.
use borrow.Author.Tests.{not-true}
use Rattle.expressions.proofs.Plain.{plain_read, row_number}
use Rattle.expressions.proofs.read_number.Goals as goal

pub returns-then-not-is_operator : goal.returns-then-not-is_operator
returns-then-not-is_operator c = search (plain_read, not-true)

pub returns : goal.returns
returns c = row_number _ _ c.read_row.ensures
