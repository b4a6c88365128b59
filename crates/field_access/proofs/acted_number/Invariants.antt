-- The number of the bits that the loop has passed.
use mathlib.Core.Path.{◌≡◌}
use Rattle.bits.specs.Bits.{number}
use Rattle.field_access.proofs.FieldBits.{acted_bit}
use Rattle.field_access.proofs.acted_number.Given as goal

abbrev pub invariant-loop-i : goal.invariant-loop-i
invariant-loop-i l = l.lower ≡ number l.i (acted_bit l.access l.field l.stored)
