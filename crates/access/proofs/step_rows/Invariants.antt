-- The store is the one after the registers that are passed have acted.
use mathlib.Core.Path.{◌≡◌}
use Rattle.model.specs.Model.{stepped}
use Rattle.access.specs.Runs.{stored_rows}
use Rattle.access.proofs.step_rows.Given as goal

abbrev pub invariant-loop-i : goal.invariant-loop-i
invariant-loop-i l = l.store ≡ stepped l.access (stored_rows l.registers l.fields 0 l.i) l.initial.store
