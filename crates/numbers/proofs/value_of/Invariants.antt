-- The value of all digits is the same from every place that the loop passes, with the value so far.
use Prim.Native.Nat.{◌^◌, ◌<◌}
use mathlib.Core.Path.{◌≡◌}
use lib.ListN.{drop}
use Rattle.numbers.specs.Number.{fitting, value, value_from}
use Rattle.numbers.proofs.value_of.Given as goal

abbrev pub invariant-loop-i : goal.invariant-loop-i
invariant-loop-i l = (l.value < 2 ^ 64) × (fitting 64 (value_from l.base l.value (drop l.i l.part)) ≡ fitting 64 (value l.base (drop l.at l.part)))
