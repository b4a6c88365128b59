-- The numbers that are left have the same answer from every field row that the loop passes.
use Prim.Native.Nat.{◌-◌, ◌/◌}
use mathlib.Core.Path.{◌≡◌}
use Rattle.access.specs.Runs.{fitting_rows}
use lib.ListN.{length}
use Rattle.basics.specs.Limits.{field_row_width}
use Rattle.access.proofs.are_fitting.Given as goal

abbrev pub invariant-loop-j : goal.invariant-loop-j
invariant-loop-j l = fitting_rows l.fields l.store l.j (length l.fields / field_row_width - l.j) ≡ fitting_rows l.fields l.store 0 (length l.fields / field_row_width)
