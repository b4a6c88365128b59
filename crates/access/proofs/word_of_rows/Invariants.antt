-- The word has the bits that the fields give of the registers that are passed.
use mathlib.Core.Path.{◌≡◌}
use Rattle.bits.specs.Bits.{number}
use Rattle.model.specs.Model.{gives, bits_of}
use Rattle.access.specs.Runs.{stored_rows}
use Rattle.access.proofs.word_of_rows.Given as goal

abbrev pub invariant-loop-i : goal.invariant-loop-i
invariant-loop-i l = l.word ≡ number l.width (gives (stored_rows l.registers l.fields 0 l.i) l.address l.width (bits_of l.store))
