-- Some register is reached exactly where one of those that are left is: none of those passed is.
use Prim.Native.Nat.{◌-◌, ◌/◌}
use mathlib.Core.Path.{◌≡◌}
use Rattle.access.specs.Runs.{reached_rows}
use lib.ListN.{length}
use Rattle.basics.specs.Limits.{register_row_width}
use Rattle.access.proofs.is_reached.Given as goal

abbrev pub invariant-loop-i : goal.invariant-loop-i
invariant-loop-i l = reached_rows l.address l.width l.registers l.i (length l.registers / register_row_width - l.i) ≡ reached_rows l.address l.width l.registers 0 (length l.registers / register_row_width)
