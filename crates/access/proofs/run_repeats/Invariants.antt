-- The fields that are left have the same answer from every field that the loop passes.
use Prim.Native.Nat.{◌+◌, ◌-◌}
use mathlib.Core.Path.{◌≡◌}
use Rattle.model.specs.Repeats.{repeats}
use Rattle.access.specs.Runs.{run_fields, row_fields}
use Rattle.access.proofs.run_repeats.Given as goal

abbrev pub invariant-loop-k : goal.invariant-loop-k
invariant-loop-k l = repeats (run_fields l.row l.fields (l.row.first + l.k) (l.row.count - l.k)) l.access ≡ repeats (row_fields l.row l.fields) l.access
