-- The indices that are left have the same answer from every index that the loop passes.
use Prim.Native.Nat.{◌+◌, ◌-◌}
use mathlib.Core.Path.{◌≡◌}
use Rattle.basics.specs.Limits.{nest_limit}
use Rattle.rows.specs.Lawful.{are_indices}
use Rattle.rows.proofs.are_indices.Given as goal

abbrev pub invariant-loop-k : goal.invariant-loop-k
invariant-loop-k l = are_indices l.registers l.depth (l.start + l.k) l.k (nest_limit - l.k) ≡ are_indices l.registers l.depth l.start 0 nest_limit
