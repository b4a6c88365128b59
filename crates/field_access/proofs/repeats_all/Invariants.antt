-- Each bit that the loop has passed lets the access be made again.
use mathlib.Core.Path.{◌≡◌}
use mathlib.Core.Bool.{true}
use Rattle.model.specs.Repeats.{repeats_bit, all_below}
use Rattle.field_access.proofs.repeats_all.Given as goal

abbrev pub invariant-loop-i : goal.invariant-loop-i
invariant-loop-i l = all_below l.i (repeats_bit l.access l.field) ≡ true
