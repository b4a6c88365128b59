-- A field has its row and its label written and the next row is one further; what is no field writes nothing.
use Rattle.row_writer.proofs.Runs.{placed_other, placed_field}
use Rattle.row_writer.proofs.write_placed.Goals as goal

pub returns-in-None : goal.returns-in-None
returns-in-None c = search placed_other

pub returns-in-Some : goal.returns-in-Some
returns-in-Some c = search placed_field
