-- What is left of the text comes to the same answer from every token that the loop passes.
use Prim.Native.Nat.{◌+◌, ◌-◌}
use lib.ListN.{length}
use Rattle.lex.specs.Words.{first_bad}
use Rattle.lex.proofs.Left.{Left}
use Rattle.lex.proofs.first_bad.Given as goal

abbrev pub invariant-loop-ends : goal.invariant-loop-ends
invariant-loop-ends l = Left l.text l.at (first_bad (length l.text + 1) l.text 0)

abbrev pub decreases-loop-ends : goal.decreases-loop-ends
decreases-loop-ends l = length l.text - l.at
