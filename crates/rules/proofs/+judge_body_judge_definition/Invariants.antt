-- The body's walk and the definition's call each other, the bodies still allowed falling: each comes to what the rules give.
use Prim.Native.Nat.{◌-◌, ◌+◌}
use lib.ListN.{length}
use Rattle.rules.proofs.Loops.{BodyGoing}
use Rattle.rules.proofs.+judge_body_judge_definition.Given as goal

abbrev pub decreases-judge_body : goal.decreases-judge_body
decreases-judge_body l = l.bodies + l.bodies + 1

abbrev pub decreases-judge_definition : goal.decreases-judge_definition
decreases-judge_definition l = l.bodies + l.bodies

abbrev pub invariant-judge_body-loop-cells : goal.invariant-judge_body-loop-cells
invariant-judge_body-loop-cells l = BodyGoing l.text l.initial.cells l.cells l.header l.scope l.bodies l.initial.walk l.walk

abbrev pub decreases-judge_body-loop-cells : goal.decreases-judge_body-loop-cells
decreases-judge_body-loop-cells l = length l.text - l.walk.at
