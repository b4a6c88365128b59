-- The number of the case bounds the count of those that agree.
use Rattle.std.proofs.Common.{◌≤◌}
use Rattle.replay_cases.proofs.run_pack.Given as goal

abbrev pub invariant-loop-case : goal.invariant-loop-case
invariant-loop-case g l = l.agreed ≤ l.case
