use borrow.Author.Rules.{rules}
use Rattle.access.proofs.Loops.{reset_on, reset_loop}
use Rattle.access.proofs.put_resets.Goals as goal

pub loop-j-init : goal.loop-j-init
loop-j-init c = search (rules, reset_loop)

pub loop-j-preserved : goal.loop-j-preserved
loop-j-preserved c =
    reset_on _ _ _ _ c.loop-j.invariant (search rules) c.field_row.ensures c.reset_of.ensures

pub returns : goal.returns
returns c = search (rules, reset_loop)
