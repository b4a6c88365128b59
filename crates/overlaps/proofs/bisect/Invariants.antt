-- None below the lower bound overlaps an earlier one, and the higher one does.
use Prim.Native.Nat.{◌-◌}
use Rattle.orders.proofs.Unique.{Halving}
use Rattle.overlaps.specs.Sweeps.{register_count, clash_in}
use Rattle.overlaps.proofs.bisect.Given as goal

abbrev pub invariant-loop-bounds : goal.invariant-loop-bounds
invariant-loop-bounds l =
    Halving (clash_in l.text l.cells l.shapes l.log l.extent) (register_count l.text l.cells l.extent) l.bounds.low l.bounds.high

abbrev pub decreases-loop-bounds : goal.decreases-loop-bounds
decreases-loop-bounds l = l.bounds.high - l.bounds.low
