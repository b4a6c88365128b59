-- The store has the resets of the field rows that are passed, then its old rest.
use mathlib.Core.Path.{◌≡◌}
use mathlib.Core.List.{◌++◌}
use lib.ListN.{drop}
use Rattle.access.specs.Runs.{resets_from}
use Rattle.access.proofs.put_resets.Given as goal

abbrev pub invariant-loop-j : goal.invariant-loop-j
invariant-loop-j l = l.store ≡ resets_from l.fields 0 l.j ++ drop l.j l.initial.store
