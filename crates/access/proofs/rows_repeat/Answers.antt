use borrow.Author.Rules.{rules}
use Rattle.access.proofs.Loops.{row_small, row_runs, repeat_stop, repeat_on, repeat_end}
use Rattle.access.proofs.rows_repeat.Goals as goal

pub register_row-row-requires : goal.register_row-row-requires
register_row-row-requires c = search row_small

pub run_repeats-requires : goal.run_repeats-requires
run_repeats-requires c = search row_runs

pub returns-then-not-run_repeats : goal.returns-then-not-run_repeats
returns-then-not-run_repeats c = search (rules, repeat_stop, repeat_on)

pub loop-i-preserved : goal.loop-i-preserved
loop-i-preserved c = search (rules, repeat_stop, repeat_on)

pub returns : goal.returns
returns c = search (rules, repeat_end)
