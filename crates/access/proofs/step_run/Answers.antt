use borrow.Author.Rules.{rules}
use Rattle.access.proofs.Loops.{field_usable, step_on, step_loop}
use Rattle.access.proofs.step_run.Goals as goal

pub loop-k-init : goal.loop-k-init
loop-k-init c = search (rules, step_loop)

pub number_after-requires : goal.number_after-requires
number_after-requires c = search field_usable

pub loop-k-preserved : goal.loop-k-preserved
loop-k-preserved c =
    step_on _ _ _ _ _ _ _ c.loop-k.invariant c.field_row.ensures c.stored_field-field.ensures c.number_after.ensures

pub returns : goal.returns
returns c = search (rules, step_loop)
