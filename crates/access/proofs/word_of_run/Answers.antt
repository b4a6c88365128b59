use borrow.Author.Rules.{rules}
use Rattle.access.proofs.Loops.{field_usable, join_on, join_loop}
use Rattle.access.proofs.word_of_run.Goals as goal

pub loop-k-init : goal.loop-k-init
loop-k-init c = search (rules, join_loop)

pub word_of-word-requires : goal.word_of-word-requires
word_of-word-requires c = search field_usable

pub loop-k-preserved : goal.loop-k-preserved
loop-k-preserved c =
    join_on _ _ _ _ _ c.args.store.now _ _ c.loop-k.invariant c.field_row.ensures c.stored_field-field.ensures c.word_of-word.ensures

pub returns : goal.returns
returns c = search (rules, join_loop)
