use borrow.Author.Rules.{rules}
use Rattle.sizes.proofs.Laws.{filling_start, filling_low, filling_next, filling_end}
use Rattle.sizes.proofs.fill_shapes.Goals as goal

pub loop-row-init : goal.loop-row-init
loop-row-init c = search (rules, filling_start)

pub put_shape-requires : goal.put_shape-requires
put_shape-requires c = search (rules, filling_low)

pub loop-row-preserved : goal.loop-row-preserved
loop-row-preserved c =
    filling_next _ _ _ _ c.loop-row.invariant c.loop-row-test.true _ c.shape_of-shape.ensures c.put_shape.ensures

pub returns : goal.returns
returns c = search filling_end
