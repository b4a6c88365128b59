use borrow.Author.Rules.{rules}
use Rattle.lines.proofs.Loops.{bytes_on, bytes_end}
use Rattle.lines.proofs.put_bytes.Goals as goal

pub loop-byte-preserved : goal.loop-byte-preserved
loop-byte-preserved c = search (rules, bytes_on)

pub returns : goal.returns
returns c = search (rules, bytes_end)
