use borrow.Author.Rules.{rules}
use Rattle.sizes.proofs.Laws.{ready_low, ready_within}
use Rattle.recall.proofs.Kept.{left_next, rows_start, rows_end_lem}
use Rattle.recall.proofs.keep_long_instances.Goals as goal

pub loop-row-init : goal.loop-row-init
loop-row-init c = search rows_start

pub keep_row-requires : goal.keep_row-requires
keep_row-requires c = search (rules, ready_low, ready_within)

pub loop-row-preserved : goal.loop-row-preserved
loop-row-preserved c = search left_next

pub returns : goal.returns
returns c = search rows_end_lem
