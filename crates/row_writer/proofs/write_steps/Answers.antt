use borrow.Author.Rules.{rules}
use Rattle.row_writer.proofs.Cells.{steps_start, steps_next, steps_end}
use Rattle.row_writer.proofs.write_steps.Goals as goal

pub loop-k-init : goal.loop-k-init
loop-k-init c = search (rules, steps_start)

pub loop-k-preserved : goal.loop-k-preserved
loop-k-preserved c =
    (steps_next _ _ _ _ _ _ c.loop-k.invariant.0 c.loop-k-test.true c.cell-step.ensures c.step_start-start.ensures c.step_end-end.ensures c.bytes_of-name.ensures c.write_name.ensures, search rules, search rules)

pub returns : goal.returns
returns c = search steps_end
