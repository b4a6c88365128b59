-- What the instances that are left come to is the same from every instance that the loop passes.
use Prim.Native.Nat.{◌-◌}
use lib.ListN.{length}
use Rattle.rules.proofs.Listing.{Going}
use Rattle.rules.proofs.judge_instances.Given as goal

abbrev pub invariant-loop-listed : goal.invariant-loop-listed
invariant-loop-listed l = Going l.text l.initial.cells l.cells l.scope l.of.row l.of.kind l.start l.before l.at l.held

abbrev pub decreases-loop-listed : goal.decreases-loop-listed
decreases-loop-listed l = length l.text - l.at
