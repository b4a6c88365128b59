-- What is left to compare has the same answer from every index that the loop passes.
use Prim.Native.Nat.{◌+◌, ◌-◌}
use mathlib.Core.Path.{◌≡◌}
use Rattle.rows.specs.Lawful.{all_follow}
use Rattle.rows.proofs.all_follow.Given as goal

abbrev pub invariant-loop-k : goal.invariant-loop-k
invariant-loop-k l = all_follow l.bytes (l.start + l.k) (l.count - l.k) ≡ all_follow l.bytes l.start l.count
