-- Some field of the cells left to look at breaks the rule exactly when one of all does.
use Rattle.closing_rules.proofs.Laws.{Asking}
use Rattle.closing_rules.proofs.any_field.Given as goal

abbrev pub invariant-loop-i : goal.invariant-loop-i
invariant-loop-i l = Asking l.text l.cells l.from l.to l.initial.next l.probe l.i l.next
