use borrow.Author.Rules.{rules}
use mathlib.Core.Path.{refl}
use Rattle.access.proofs.Loops.{row_small, row_runs, row_room, joins_on, joins_loop}
use Rattle.access.proofs.word_of_rows.Goals as goal

pub loop-i-init : goal.loop-i-init
loop-i-init c = search (rules, joins_loop)

pub register_row-row-requires : goal.register_row-row-requires
register_row-row-requires c = search row_small

pub word_of_run-word-requires : goal.word_of_run-word-requires
word_of_run-word-requires c =
    (row_runs _ _ _ _ c.requires.0 c.loop-i-test.true c.register_row-row.ensures, row_room _ _ _ _ c.requires.0 c.loop-i-test.true c.register_row-row.ensures c.args.store.now c.args.store.now c.requires.1 refl)

pub loop-i-preserved : goal.loop-i-preserved
loop-i-preserved c =
    joins_on _ _ _ _ c.args.store.now _ _ c.loop-i.invariant c.register_row-row.ensures c.word_of_run-word.ensures

pub returns : goal.returns
returns c = search (rules, joins_loop)
