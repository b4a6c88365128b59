-- The instances that are left come to the same answer from every instance that the loop passes.
use Prim.Native.Nat.{◌-◌}
use lib.ListN.{length}
use Rattle.syntax.specs.Grammar.{instances_from, instances_at}
use Rattle.syntax.specs.Answers.{answer_of}
use Rattle.syntax.proofs.Rest.{Rest}
use Rattle.syntax.proofs.read_instances.Given as goal

abbrev pub invariant-loop-listed : goal.invariant-loop-listed
invariant-loop-listed l = Rest (length l.text) l.at (λ k. answer_of (instances_from k l.text l.at)) (answer_of (instances_at l.text l.start))

abbrev pub decreases-loop-listed : goal.decreases-loop-listed
decreases-loop-listed l = length l.text - l.at
