-- In each text whose rows are ready, the fields that are left all have the access exactly when all have it.
use Rattle.overlaps.proofs.Access.{Asking}
use Rattle.overlaps.proofs.has_access.Given as goal

abbrev pub invariant-loop-i : goal.invariant-loop-i
invariant-loop-i l = Asking l.text l.cells l.row l.access l.i-end l.i
