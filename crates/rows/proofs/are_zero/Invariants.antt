-- What is left has the same answer from every index that the loop passes.
use Prim.Native.Nat.{◌+◌, ◌-◌}
use mathlib.Core.Path.{◌≡◌}
use Rattle.rows.specs.Lawful.{are_zero}
use Rattle.rows.proofs.are_zero.Given as goal

abbrev pub invariant-loop-k : goal.invariant-loop-k
invariant-loop-k l = are_zero l.bytes (l.start + l.k) (l.count - l.k) ≡ are_zero l.bytes l.start l.count
