-- 18 where one register or its fields are too many; else the log has its row and the tally counts it, with its 19 and 20.
use Rattle.std.proofs.Common.{ap, ◌∙◌}
use Rattle.basics.specs.Judged.{verdict}
use Rattle.map_walk.specs.Runs.{total_of}
use Rattle.map_walk.proofs.Leaves.{and_first}
use Rattle.map_walk.proofs.Rowed.{shaped_span, register_full, register_fielded, shape_fits, register_walked}
use Rattle.map_walk.proofs.visit_register.Goals as goal

pub instances_of-span-requires : goal.instances_of-span-requires
instances_of-span-requires c =
    shaped_span _ _ _ _ _ c.requires.0 c.requires.1

pub returns-then-tally-ge-REGISTER_LIMIT : goal.returns-then-tally-ge-REGISTER_LIMIT
returns-then-tally-ge-REGISTER_LIMIT c =
    rw c.at.ensures (register_full _ _ _ _ c.args.element (total_of c.args.tally) c.requires.0 c.requires.1 c.requires.3 c.instances_of-span.ensures c.requires.5 c.if-tally-ge-REGISTER_LIMIT.true)

pub returns-then-fields-gt-FIELD_LIMIT : goal.returns-then-fields-gt-FIELD_LIMIT
returns-then-fields-gt-FIELD_LIMIT c =
    rw c.at-then-fields-gt-FIELD_LIMIT.ensures (register_fielded _ _ _ _ c.args.element (total_of c.args.tally) c.requires.0 c.requires.1 c.requires.3 c.instances_of-span.ensures c.requires.5 c.if-fields-gt-FIELD_LIMIT.true)

pub place_fault-requires : goal.place_fault-requires
place_fault-requires c =
    let p = shape_fits _ _ _ _ c.args.element (total_of c.args.tally) c.requires.0 c.requires.1 c.requires.3 c.instances_of-span.ensures c.requires.5 c.shape_at-shape.ensures in
    (c.requires.2, p.0, p.1)

pub returns : goal.returns
returns c =
    register_walked _ _ _ _ c.args.element (total_of c.args.tally) c.requires.0 c.requires.1 c.requires.3 c.instances_of-span.ensures c.requires.5
    c.shape_at-shape.ensures c.requires.4 c.if-tally-ge-REGISTER_LIMIT.false c.if-fields-gt-FIELD_LIMIT.false c.log_register.ensures
    c.close_fault.ensures (ap verdict c.and.ensures ∙ and_first _ _) c.place_fault.ensures (ap verdict c.and-2.ensures ∙ and_first _ _)
