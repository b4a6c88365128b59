-- The cells that are left have the same answer from every cell that the loop passes.
use Prim.Native.Nat.{◌+◌, ◌-◌, ◌*◌}
use mathlib.Core.Path.{◌≡◌}
use Rattle.basics.specs.Limits.{nest_limit, name_width}
use Rattle.rows.specs.Lawful.{are_names}
use Rattle.rows.proofs.are_names.Given as goal

abbrev pub invariant-loop-k : goal.invariant-loop-k
invariant-loop-k l = are_names l.paths l.depth (l.start + l.k * name_width) l.k (nest_limit + 1 - l.k) ≡ are_names l.paths l.depth l.start 0 (nest_limit + 1)
