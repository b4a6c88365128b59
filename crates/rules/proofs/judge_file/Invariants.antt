-- What is left of the file comes to the same ruling from every definition that the loop passes.
use Prim.Native.Nat.{◌-◌}
use mathlib.Core.Path.{◌≡◌}
use lib.ListN.{length}
use Rattle.scopes.specs.Walks.{root_scope}
use Rattle.rules.proofs.Loops.{FileGoing}
use Rattle.rules.proofs.judge_file.Given as goal

abbrev pub invariant-loop-scope : goal.invariant-loop-scope
invariant-loop-scope l = FileGoing l.text l.initial.cells l.cells l.walk × (l.scope ≡ root_scope)

abbrev pub decreases-loop-scope : goal.decreases-loop-scope
decreases-loop-scope l = length l.text - l.walk.at
