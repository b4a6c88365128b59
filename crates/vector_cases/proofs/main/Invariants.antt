-- The number of the case bounds the count of those that agree.
use Rattle.std.proofs.Common.{◌≤◌}
use Rattle.vector_cases.proofs.main.Given as goal

abbrev pub invariant-loop-case : goal.invariant-loop-case
invariant-loop-case l = l.agreed ≤ l.case
