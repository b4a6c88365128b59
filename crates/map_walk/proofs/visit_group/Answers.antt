-- An element that is no register changes the tally by its 19 alone.
use Rattle.std.proofs.Common.{ap, ◌∙◌}
use Rattle.basics.specs.Judged.{verdict}
use Rattle.map_walk.specs.Runs.{total_of}
use Rattle.map_walk.proofs.Leaves.{and_first, group_visited}
use Rattle.map_walk.proofs.visit_group.Goals as goal

pub returns : goal.returns
returns c = group_visited (total_of c.args.tally) c.args.element c.close_fault.ensures (ap verdict c.and.ensures ∙ and_first _ _)
