-- The rows that are left have the same answer from every row that the loop passes.
use Prim.Native.Nat.{◌+◌, ◌-◌}
use mathlib.Core.Path.{◌≡◌}
use Rattle.rows.specs.Lawful.{are_field_rows}
use Rattle.rows.proofs.are_field_rows.Given as goal

abbrev pub invariant-loop-k : goal.invariant-loop-k
invariant-loop-k l = are_field_rows l.fields l.labels l.width (l.first + l.k) (l.count - l.k) ≡ are_field_rows l.fields l.labels l.width l.first l.count
