-- What is left to compare has the same answer from every index that the loop passes.
use Prim.Native.Nat.{◌+◌, ◌-◌}
use mathlib.Core.Path.{◌≡◌}
use Rattle.rows.specs.Lawful.{are_same}
use Rattle.rows.proofs.are_same.Given as goal

abbrev pub invariant-loop-k : goal.invariant-loop-k
invariant-loop-k l = are_same l.bytes (l.a + l.k) (l.b + l.k) (l.count - l.k) ≡ are_same l.bytes l.a l.b l.count
