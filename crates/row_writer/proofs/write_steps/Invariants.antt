-- What the bytes are once the rest of the path is written is the same from every step that the loop passes.
use Prim.Native.Nat.{◌+◌, ◌-◌, ◌*◌, ◌≤◌}
use mathlib.Core.Path.{◌≡◌}
use lib.ListN.{length}
use Rattle.basics.specs.Limits.{name_width}
use Rattle.basics.specs.Slices.{written}
use Rattle.row_writer.specs.Writes.{names_in}
use Rattle.row_writer.proofs.write_steps.Given as goal

abbrev pub invariant-loop-k : goal.invariant-loop-k
invariant-loop-k l = (written l.paths (l.at + l.k * name_width) (names_in l.text l.log (l.steps + l.k) (8 - l.k)) ≡ written l.initial.paths l.at (names_in l.text l.log l.steps 8)) × (length l.paths ≡ length l.initial.paths) × (l.k ≤ 8)
