-- The rows that are left have the same answer from every row that the loop passes; the field rows before them are at most all.
use Prim.Native.Nat.{◌-◌, ◌≤◌}
use mathlib.Core.Path.{◌≡◌}
use Rattle.rows.specs.Lawful.{are_rows}
use Rattle.rows.specs.Rows.{tables}
use Rattle.rows.proofs.are_rows.Given as goal

abbrev pub invariant-loop-i : goal.invariant-loop-i
invariant-loop-i l = (are_rows (tables l.registers l.paths l.fields l.labels) l.all l.i l.first (l.count - l.i) ≡ are_rows (tables l.registers l.paths l.fields l.labels) l.all 0 0 l.count) × (l.first ≤ l.all)
