-- The search upwards has the same answer from every power that the loop passes.
use Prim.Native.Nat.{◌-◌}
use Rattle.capped.proofs.Laws.{Doubling}
use Rattle.capped.proofs.power_above.Given as goal

abbrev pub invariant-loop-power : goal.invariant-loop-power
invariant-loop-power l = Doubling l.x l.power

abbrev pub decreases-loop-power : goal.decreases-loop-power
decreases-loop-power l = l.x - l.power
