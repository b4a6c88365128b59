-- Each of the four leaves the log and the counts that the visits of its part give, or 18's place. From a content down to its children a level
-- is spent; within one level an instance, its array, its elements and their contents follow each other.
use Rattle.map_walk.proofs.Arrays.{Arraying}
use Prim.Native.Nat.{◌+◌, ◌*◌}
use Rattle.map_walk.proofs.Bodies.{Walking}
use Rattle.map_walk.specs.Runs.{total_of}
use Rattle.map_walk.proofs.+walk_array_walk_children_walk_content_walk_element.Given as goal

abbrev pub decreases-walk_array : goal.decreases-walk_array
decreases-walk_array l = 4 * l.site.levels + 2

abbrev pub decreases-walk_children : goal.decreases-walk_children
decreases-walk_children l = 4 * l.site.levels + 3

abbrev pub decreases-walk_content : goal.decreases-walk_content
decreases-walk_content l = 4 * l.site.levels

abbrev pub decreases-walk_element : goal.decreases-walk_element
decreases-walk_element l = 4 * l.site.levels + 1

abbrev pub invariant-walk_array-loop-k : goal.invariant-walk_array-loop-k
invariant-walk_array-loop-k l =
    Arraying l.text l.cells l.initial.log l.extent l.site.levels l.kid l.site.trail (total_of l.initial.tally) l.k l.address (total_of l.tally) l.log

abbrev pub invariant-walk_children-loop-i : goal.invariant-walk_children-loop-i
invariant-walk_children-loop-i l =
    Walking l.text l.cells l.initial.log l.extent l.site.levels l.site.row l.alignment l.site.address l.site.trail (total_of l.initial.tally) l.i-end l.i l.end (total_of l.tally) l.log
