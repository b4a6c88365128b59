-- The loop writes step k of the path at its k-th turn; what is left to write comes to the whole path.
use mathlib.Core.Path.{◌≡◌}
use Prim.Native.Nat.{◌+◌}
use lib.ListN.{length, drop}
use Rattle.basics.specs.Slices.{written}
use Rattle.map_walk.proofs.log_trail.Given as goal

abbrev pub invariant-loop-k : goal.invariant-loop-k
invariant-loop-k l = (written l.log (l.at + l.k) (drop l.k l.trail.steps) ≡ written l.initial.log l.at l.trail.steps) × (length l.log ≡ length l.initial.log)
