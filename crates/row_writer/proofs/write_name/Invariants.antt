-- What the bytes are once the rest of the name is written is the same from every index that the loop passes.
use Prim.Native.Nat.{◌+◌, ◌-◌, ◌≤◌}
use mathlib.Core.Path.{◌≡◌}
use lib.ListN.{length, drop}
use Rattle.basics.specs.Slices.{written}
use Rattle.rows.specs.Rows.{padded, name_cell}
use Rattle.row_writer.proofs.write_name.Given as goal

abbrev pub invariant-loop-k : goal.invariant-loop-k
invariant-loop-k l = (written l.names (l.at + l.k) (padded (32 - l.k) (drop l.k l.name)) ≡ written l.initial.names l.at (name_cell l.name)) × (length l.names ≡ length l.initial.names) × (l.k ≤ 32)
