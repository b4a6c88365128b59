use borrow.Author.Rules.{rules}
use Rattle.access.proofs.Loops.{row_small, row_runs, row_room, steps_on, steps_loop}
use Rattle.access.proofs.step_rows.Goals as goal

pub loop-i-init : goal.loop-i-init
loop-i-init c = search (rules, steps_loop)

pub register_row-row-requires : goal.register_row-row-requires
register_row-row-requires c = search row_small

pub step_run-requires : goal.step_run-requires
step_run-requires c =
    (row_runs _ _ _ _ c.requires.0 c.loop-i-test.true c.register_row-row.ensures, row_room _ _ _ _ c.requires.0 c.loop-i-test.true c.register_row-row.ensures c.args.store.now c.loop-i.store c.requires.1 c.loop-i.auto.store)

pub loop-i-preserved : goal.loop-i-preserved
loop-i-preserved c =
    steps_on _ _ _ _ _ _ c.loop-i.invariant c.register_row-row.ensures c.step_run.ensures

pub returns : goal.returns
returns c = search (rules, steps_loop)
