-- What the cells are once the rest of the indices is written is the same from every step that the loop passes.
use Prim.Native.Nat.{◌+◌, ◌-◌, ◌≤◌}
use mathlib.Core.Path.{◌≡◌}
use lib.ListN.{length}
use Rattle.basics.specs.Slices.{written}
use Rattle.row_writer.specs.Writes.{indices_in}
use Rattle.row_writer.proofs.write_indices.Given as goal

abbrev pub invariant-loop-k : goal.invariant-loop-k
invariant-loop-k l = (written l.registers (l.at + l.k) (indices_in l.log (l.steps + l.k) (8 - l.k)) ≡ written l.initial.registers l.at (indices_in l.log l.steps 8)) × (length l.registers ≡ length l.initial.registers) × (l.k ≤ 8)
