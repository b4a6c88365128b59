-- The word has the bits that the fields give that are passed.
use mathlib.Core.Path.{◌≡◌}
use Rattle.bits.specs.Bits.{number}
use Rattle.model.specs.Model.{gives, bits_of}
use Rattle.access.specs.Runs.{run_fields}
use Rattle.access.proofs.word_of_run.Given as goal

abbrev pub invariant-loop-k : goal.invariant-loop-k
invariant-loop-k l = l.word ≡ number l.width (gives (run_fields l.row l.fields l.first l.k) l.address l.width (bits_of l.store))
