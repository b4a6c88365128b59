use borrow.Author.Rules.{rules}
use Rattle.row_writer.proofs.Cells.{bytes_start, bytes_next, bytes_end}
use Rattle.row_writer.proofs.write_name.Goals as goal

pub loop-k-init : goal.loop-k-init
loop-k-init c = search (rules, bytes_start)

pub loop-k-preserved : goal.loop-k-preserved
loop-k-preserved c =
    (bytes_next _ _ _ _ c.loop-k.invariant.0 c.loop-k-test.true c.byte_at.ensures c.put_byte.ensures, search rules, search rules)

pub returns : goal.returns
returns c = search bytes_end
