-- A register is logged and counted; every other element is held only to 19.
use Rattle.map_walk.specs.Runs.{total_of}
use Rattle.map_walk.proofs.Rowed.{group_walked, register_row_lem, other_row}
use Rattle.map_walk.proofs.visit.Goals as goal

pub visit_register-requires : goal.visit_register-requires
visit_register-requires c =
    (c.requires.0, c.requires.1, c.requires.2, c.requires.3, c.requires.4, register_row_lem _ _ c.component_at.ensures c.in-Register.is)

pub returns-in_default : goal.returns-in_default
returns-in_default c =
    group_walked _ _ _ _ c.args.element (total_of c.args.tally) c.requires.0 c.requires.1 c.requires.3 c.requires.4 c.component_at.ensures (other_row c.in_default.not-Register)
    c.visit_group.ensures
