use borrow.Author.Rules.{rules}
use Rattle.std.proofs.Common.{ap}
use Rattle.basics.specs.Judged.{judged}
use Rattle.cells.proofs.Laws.{child_low}
use Rattle.sizes.proofs.Laws.{ready_low, ready_within, laying_start, laying_fits, laying_low, laying_next, laying_stop, laying_end}
use Rattle.sizes.proofs.group_shape.Goals as goal

pub instances_of-span-requires : goal.instances_of-span-requires
instances_of-span-requires c = search (rules, ready_low, ready_within)

pub loop-i-init : goal.loop-i-init
loop-i-init c = search laying_start

pub shape_at-shape-requires : goal.shape_at-shape-requires
shape_at-shape-requires c = child_low _ _ c.child_at.ensures (ap judged c.in-Ok.is)

pub lay-laid-requires : goal.lay-laid-requires
lay-laid-requires c = (
  laying_fits _ _ _ _ _ _ c.loop-i.invariant c.loop-i-test.true c.child_at.ensures (ap judged c.in-Ok.is) c.shape_at-shape.ensures,
  laying_low _ _ _ _ _ _ c.loop-i.invariant,
)

pub loop-i-preserved : goal.loop-i-preserved
loop-i-preserved c =
    laying_next _ _ _ _ _ _ c.loop-i.invariant c.loop-i-test.true c.child_at.ensures (ap judged c.in-Ok.is) c.shape_at-shape.ensures
    c.lay-laid.ensures c.max-size.ensures c.max-access.ensures

pub returns-in_default : goal.returns-in_default
returns-in_default c =
    laying_stop _ _ _ _ _ _ c.loop-i.invariant c.loop-i-test.true c.child_at.ensures (ap judged c.in_default.is)

pub returns-after-loop-i : goal.returns-after-loop-i
returns-after-loop-i c = search laying_end
