use borrow.Author.Rules.{rules}
use Rattle.row_writer.proofs.Cells.{indices_start, indices_next, indices_end}
use Rattle.row_writer.proofs.write_indices.Goals as goal

pub loop-k-init : goal.loop-k-init
loop-k-init c = search (rules, indices_start)

pub loop-k-preserved : goal.loop-k-preserved
loop-k-preserved c = search (rules, indices_next)

pub returns : goal.returns
returns c = search indices_end
