-- The store is the one after the fields that are passed have acted.
use mathlib.Core.Path.{◌≡◌}
use Rattle.model.specs.Model.{stepped}
use Rattle.access.specs.Runs.{run_fields}
use Rattle.access.proofs.step_run.Given as goal

abbrev pub invariant-loop-k : goal.invariant-loop-k
invariant-loop-k l = l.store ≡ stepped l.access (run_fields l.row l.fields l.first l.k) l.initial.store
