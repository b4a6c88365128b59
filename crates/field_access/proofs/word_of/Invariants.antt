-- The number of the bits that the loop has passed.
use mathlib.Core.Path.{◌≡◌}
use Rattle.bits.specs.Bits.{bit, number}
use Rattle.model.specs.Model.{field_gives}
use Rattle.field_access.proofs.word_of.Given as goal

abbrev pub invariant-loop-j : goal.invariant-loop-j
invariant-loop-j l = l.lower ≡ number l.j (field_gives l.address l.width l.field (bit l.stored))
