-- What is left of the text comes to what all of it comes to.
use lib.ListN.{drop}
use Rattle.lines.proofs.Pouring.{Pouring}
use Rattle.lines.proofs.put_bytes.Given as goal

abbrev pub invariant-loop-byte : goal.invariant-loop-byte
invariant-loop-byte l = Pouring l.room l.initial.out l.out l.initial.sink l.text l.sink (drop l.byte-index l.text)
