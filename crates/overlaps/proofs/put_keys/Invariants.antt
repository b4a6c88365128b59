-- Each register passed has its key.
use mathlib.Core.Path.{◌≡◌}
use lib.ListN.{length}
use Rattle.overlaps.proofs.Plots.{Filling}
use Rattle.overlaps.proofs.put_keys.Given as goal

abbrev pub invariant-loop-i : goal.invariant-loop-i
invariant-loop-i l = (length l.keys ≡ length l.initial.keys) × Filling l.log l.i l.keys
