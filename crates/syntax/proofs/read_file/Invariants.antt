-- The definitions that are left come to the same answer from every definition that the loop passes.
use Prim.Native.Nat.{◌-◌}
use lib.ListN.{length}
use Rattle.syntax.specs.Grammar.{definitions_from, file_at}
use Rattle.syntax.specs.Answers.{answer_of}
use Rattle.syntax.proofs.Rest.{Rest}
use Rattle.syntax.proofs.read_file.Given as goal

abbrev pub invariant-loop-token : goal.invariant-loop-token
invariant-loop-token l = Rest (length l.text) l.at (λ k. answer_of (definitions_from k l.text l.at)) (answer_of (file_at l.text))

abbrev pub decreases-loop-token : goal.decreases-loop-token
decreases-loop-token l = length l.text - l.at
