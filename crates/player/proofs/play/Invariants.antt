-- What is left of the part comes to what all of it comes to.
use Rattle.rows.specs.Rows.{tables}
use Rattle.player.proofs.Parts.{Playing}
use Rattle.player.proofs.play.Given as goal

abbrev pub invariant-loop-byte : goal.invariant-loop-byte
invariant-loop-byte l = Playing (tables l.registers l.paths l.fields l.labels) l.room l.initial.store l.initial.out l.part l.initial.progress l.initial.sink l.store l.out l.progress l.sink l.byte-index
