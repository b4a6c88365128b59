-- The access may be sent again exactly where it may for the registers that are left: for those passed it may.
use Prim.Native.Nat.{◌-◌, ◌/◌}
use mathlib.Core.Path.{◌≡◌}
use Rattle.model.specs.Repeats.{repeats}
use Rattle.access.specs.Runs.{stored_rows}
use lib.ListN.{length}
use Rattle.basics.specs.Limits.{register_row_width}
use Rattle.access.proofs.rows_repeat.Given as goal

abbrev pub invariant-loop-i : goal.invariant-loop-i
invariant-loop-i l = repeats (stored_rows l.registers l.fields l.i (length l.registers / register_row_width - l.i)) l.access ≡ repeats (stored_rows l.registers l.fields 0 (length l.registers / register_row_width)) l.access
