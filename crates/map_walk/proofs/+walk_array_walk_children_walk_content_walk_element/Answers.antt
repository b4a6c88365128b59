use Rattle.std.proofs.Common.{ap, ◌∙◌}
use Rattle.std.proofs.lemmas.Result.{err_from_is_err_and}
use Rattle.basics.specs.Judged.{judged}
use Rattle.map_walk.specs.Runs.{walked}
use Rattle.map_walk.proofs.Arrays.{array_start, array_end, element_fits, index_fits, array_fault_lem, array_on}
use native.Mathlib.Omega.{arith}
use Rattle.map_walk.proofs.Bodies.{walking_start, walking_low, walking_end, walking_stop, walking_fits, walking_placed, walking_kid, walking_fault, walking_on}
use Rattle.map_walk.proofs.Rowed.{shaped_span}
use Rattle.cells.proofs.Laws.{child_low}
use Rattle.sizes.proofs.Laws.{group_row}
use Rattle.map_walk.proofs.Contents.{inside_level, inside_fits, inside_group, inside_children, content_none, content_leaf, leaf_row, content_group, element_deep, element_stops, element_goes}
use Rattle.map_walk.proofs.+walk_array_walk_children_walk_content_walk_element.Goals as goal

pub walk_array-loop-k-init : goal.walk_array-loop-k-init
walk_array-loop-k-init t c =
    array_start _ _ _ _ _ _ _ _ c.requires.2 c.requires.3

pub walk_array-element_of-item-requires : goal.walk_array-element_of-item-requires
walk_array-element_of-item-requires t c =
    index_fits _ _ _ _ _ _ _ _ c.loop-k.invariant c.elements_of-count.ensures c.loop-k-test.true c.requires.2

pub walk_array-walk_element-requires : goal.walk_array-walk_element-requires
walk_array-walk_element-requires t c =
    let l = element_fits _ _ _ _ _ _ _ _ c.loop-k.invariant c.requires.2 c.element_of-item.ensures in
    (omega arith, (c.requires.0, c.requires.1, l.0, l.1, c.loop-k.invariant.small))

pub walk_array-shape_of-log-in_err-tally : goal.walk_array-shape_of-log-in_err-tally
walk_array-shape_of-log-in_err-tally t c =
    c.walk_element.auto.log ∙ c.loop-k.invariant.long

pub walk_array-returns-in_err-tally : goal.walk_array-returns-in_err-tally
walk_array-returns-in_err-tally t c =
    let p = err_from_is_err_and c.from_residual.result c.from_residual.ensures.1 in
    rw (p.1, p.2) (array_fault_lem _ _ _ _ _ _ _ _ c.loop-k.invariant c.elements_of-count.ensures c.loop-k-test.true c.element_of-item.ensures c.walk_element.ensures (ap walked c.in_err-tally.was))

pub walk_array-sum-requires : goal.walk_array-sum-requires
walk_array-sum-requires t c =
    (c.loop-k.invariant.low, c.requires.2.stride)

pub walk_array-loop-k-preserved : goal.walk_array-loop-k-preserved
walk_array-loop-k-preserved t c =
    array_on _ _ _ _ _ _ _ _ c.loop-k.invariant c.elements_of-count.ensures c.loop-k-test.true c.element_of-item.ensures
    c.walk_element.ensures c.walk_element.auto.log (ap walked c.in_ok-tally.was) c.sum.ensures

pub walk_array-shape_of-log : goal.walk_array-shape_of-log
walk_array-shape_of-log t c = c.loop-k.invariant.long

pub walk_array-returns : goal.walk_array-returns
walk_array-returns t c = array_end _ _ _ _ _ _ _ _ c.loop-k.invariant c.elements_of-count.ensures c.loop-k-test.false

pub walk_children-instances_of-span-requires : goal.walk_children-instances_of-span-requires
walk_children-instances_of-span-requires t c =
    shaped_span _ _ _ _ _ c.requires.0 c.requires.1.row

pub walk_children-loop-i-init : goal.walk_children-loop-i-init
walk_children-loop-i-init t c =
    walking_start _ _ _ _ _ _ _ _ _ _ c.requires.0 c.requires.1.row c.requires.2 c.requires.3 c.instances_of-span.ensures

pub walk_children-shape_of-log-in_err-inner : goal.walk_children-shape_of-log-in_err-inner
walk_children-shape_of-log-in_err-inner t c =
    c.loop-i.invariant.long

pub walk_children-returns-in_err-inner : goal.walk_children-returns-in_err-inner
walk_children-returns-in_err-inner t c =
    walking_stop _ _ _ _ _ _ _ _ _ _ c.loop-i.invariant c.loop-i-test.true c.child_at.ensures (ap judged c.in_err-inner.was)

pub walk_children-shape_at-shape-requires : goal.walk_children-shape_at-shape-requires
walk_children-shape_at-shape-requires t c = child_low _ _ c.child_at.ensures (ap judged c.in_ok-inner.was)

pub walk_children-lay-laid-requires : goal.walk_children-lay-laid-requires
walk_children-lay-laid-requires t c = (
  walking_fits _ _ _ _ _ _ _ _ _ _ c.loop-i.invariant c.loop-i-test.true c.child_at.ensures c.requires.0 c.requires.1.row (ap judged c.in_ok-inner.was) c.shape_at-shape.ensures,
  walking_low _ _ _ _ _ _ _ _ _ _ c.loop-i.invariant,
)

pub walk_children-kid_of-kid-requires : goal.walk_children-kid_of-kid-requires
walk_children-kid_of-kid-requires t c =
    walking_placed _ _ _ _ _ _ _ _ _ _ c.loop-i.invariant c.loop-i-test.true c.child_at.ensures c.requires.0 c.requires.1.row (ap judged c.in_ok-inner.was) c.shape_at-shape.ensures
    c.lay-laid.ensures c.requires.1.address

pub walk_children-walk_array-requires : goal.walk_children-walk_array-requires
walk_children-walk_array-requires t c = (
  omega arith,
  (
    c.requires.0,
    c.requires.1,
    walking_kid _ _ _ _ _ _ _ _ _ _ c.loop-i.invariant c.loop-i-test.true c.child_at.ensures c.requires.0 c.requires.1.row (ap judged c.in_ok-inner.was) c.shape_at-shape.ensures c.lay-laid.ensures c.kid_of-kid.ensures,
    c.loop-i.invariant.small,
  ),
)

pub walk_children-shape_of-log-in_err-tally : goal.walk_children-shape_of-log-in_err-tally
walk_children-shape_of-log-in_err-tally t c =
    c.walk_array.auto.log ∙ c.loop-i.invariant.long

pub walk_children-returns-in_err-tally : goal.walk_children-returns-in_err-tally
walk_children-returns-in_err-tally t c =
    let p = err_from_is_err_and c.from_residual-in_err-tally.result c.from_residual-in_err-tally.ensures.1 in
    rw (p.1, p.2)
    (walking_fault _ _ _ _ _ _ _ _ _ _ c.loop-i.invariant c.loop-i-test.true c.child_at.ensures c.requires.0 c.requires.1.row (ap judged c.in_ok-inner.was) c.shape_at-shape.ensures
    c.lay-laid.ensures c.kid_of-kid.ensures c.walk_array.ensures (ap walked c.in_err-tally.was))

pub walk_children-loop-i-preserved : goal.walk_children-loop-i-preserved
walk_children-loop-i-preserved t c =
    walking_on _ _ _ _ _ _ _ _ _ _ c.loop-i.invariant c.loop-i-test.true c.child_at.ensures c.requires.0 c.requires.1.row (ap judged c.in_ok-inner.was) c.shape_at-shape.ensures
    c.lay-laid.ensures c.kid_of-kid.ensures c.walk_array.ensures c.walk_array.auto.log (ap walked c.in_ok-tally.was)

pub walk_children-shape_of-log : goal.walk_children-shape_of-log
walk_children-shape_of-log t c = c.loop-i.invariant.long

pub walk_children-returns : goal.walk_children-returns
walk_children-returns t c = walking_end _ _ _ _ _ _ _ _ _ _ c.loop-i.invariant c.loop-i-test.false

pub walk_content-returns-then-site-eq0 : goal.walk_content-returns-then-site-eq0
walk_content-returns-then-site-eq0 t c =
    content_none _ _ _ _ _ _ _ _ c.requires.2 c.if-site-eq0.true

pub walk_content-one_level_down-inside-requires : goal.walk_content-one_level_down-inside-requires
walk_content-one_level_down-inside-requires t c = omega (arith, c.if-site-eq0.false)

pub walk_content-component_at-requires : goal.walk_content-component_at-requires
walk_content-component_at-requires t c =
    (shaped_span _ _ _ _ _ c.requires.0 c.requires.1.row).0

pub walk_content-walk_children-requires : goal.walk_content-walk_children-requires
walk_content-walk_children-requires t c =
    let q = c.one_level_down-inside.ensures in (
      omega (arith, c.if-site-eq0.false, inside_level _ q),
      (c.requires.0, inside_fits _ q c.requires.1, inside_group _ q _ (group_row _ _ c.component_at.ensures c.in-Regfile.is), c.requires.2),
    )

pub walk_content-returns-in-Field : goal.walk_content-returns-in-Field
walk_content-returns-in-Field t c =
    content_leaf _ _ _ _ _ _ _ _ c.requires.2 c.requires.0 c.requires.1.row c.component_at.ensures (leaf_row c.in-Field.is)

pub walk_content-returns-in-Regfile : goal.walk_content-returns-in-Regfile
walk_content-returns-in-Regfile t c =
    content_group _ _ _ _ _ _ _ _ c.requires.2 c.requires.0 c.requires.1.row c.component_at.ensures c.if-site-eq0.false
    (group_row _ _ c.component_at.ensures c.in-Regfile.is) (inside_children _ c.one_level_down-inside.ensures c.walk_children.ensures)

pub walk_element-returns-then-site-eq-NEST_LIMIT : goal.walk_element-returns-then-site-eq-NEST_LIMIT
walk_element-returns-then-site-eq-NEST_LIMIT t c = rw c.at.ensures (element_deep _ _ _ _ _ _ _ c.if-site-eq-NEST_LIMIT.true)

pub walk_element-deeper-trail-requires : goal.walk_element-deeper-trail-requires
walk_element-deeper-trail-requires t c =
    omega (arith, c.requires.1.depth, c.if-site-eq-NEST_LIMIT.false)

pub walk_element-visit-requires : goal.walk_element-visit-requires
walk_element-visit-requires t c =
    (c.requires.0, c.requires.2, c.requires.3, c.requires.4, omega (arith, c.requires.1.depth, c.if-site-eq-NEST_LIMIT.false, c.deeper-trail.ensures.0))

pub walk_element-walk_content-requires : goal.walk_element-walk_content-requires
walk_element-walk_content-requires t c = (
  omega arith,
  (c.requires.0, record { row = c.requires.2; address = c.requires.3; depth = omega (arith, c.requires.1.depth, c.if-site-eq-NEST_LIMIT.false, c.deeper-trail.ensures.0) }, c.visit.ensures.small _ (ap walked c.in_ok-next.was)),
)

pub walk_element-returns-in_err-next : goal.walk_element-returns-in_err-next
walk_element-returns-in_err-next t c =
    let p = err_from_is_err_and c.from_residual.result c.from_residual.ensures.1 in
    rw (p.1, p.2) (element_stops _ _ _ _ _ _ _ c.requires.1.depth c.if-site-eq-NEST_LIMIT.false c.deeper-trail.ensures c.visit.ensures (ap walked c.in_err-next.was))

pub walk_element-returns : goal.walk_element-returns
walk_element-returns t c =
    element_goes _ _ _ _ _ _ _ c.requires.1.depth c.if-site-eq-NEST_LIMIT.false c.deeper-trail.ensures c.visit.ensures (ap walked c.in_ok-next.was) c.walk_content.ensures
