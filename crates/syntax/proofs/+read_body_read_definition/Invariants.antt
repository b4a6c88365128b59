-- The body reader and the definition reader call each other, the bodies still allowed falling: each answers what the grammar gives.
use Prim.Native.Nat.{◌-◌, ◌+◌}
use lib.ListN.{length}
use Rattle.syntax.specs.Grammar.{elements_at, definition_at, body_at}
use Rattle.syntax.specs.Answers.{answer_of}
use Rattle.syntax.proofs.Rest.{Rest}
use Rattle.syntax.proofs.+read_body_read_definition.Given as goal

abbrev pub decreases-read_body : goal.decreases-read_body
decreases-read_body l = l.bodies + l.bodies + 1

abbrev pub decreases-read_definition : goal.decreases-read_definition
decreases-read_definition l = l.bodies + l.bodies

abbrev pub invariant-read_body-loop-token : goal.invariant-read_body-loop-token
invariant-read_body-loop-token l =
    Rest (length l.text) l.at (λ k. answer_of (elements_at (definition_at l.bodies l.text) k l.text l.at)) (answer_of (body_at l.bodies l.text l.start))

abbrev pub decreases-read_body-loop-token : goal.decreases-read_body-loop-token
decreases-read_body-loop-token l = length l.text - l.at
