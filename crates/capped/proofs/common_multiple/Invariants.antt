-- The least common multiple is a multiple of every number that the loop passes.
use Prim.Native.Nat.{◌-◌}
use Rattle.capped.specs.Offsets.{common_multiple}
use Rattle.capped.proofs.Laws.{Doubled}
use Rattle.capped.proofs.common_multiple.Given as goal

abbrev pub invariant-loop-multiple : goal.invariant-loop-multiple
invariant-loop-multiple l = Doubled l.a l.b l.multiple

abbrev pub decreases-loop-multiple : goal.decreases-loop-multiple
decreases-loop-multiple l = common_multiple l.a l.b - l.multiple
