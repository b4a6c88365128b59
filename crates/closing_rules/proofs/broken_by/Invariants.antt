-- What some field breaks, so far or among those that are left to look at, is what some of all breaks.
use Rattle.closing_rules.proofs.Laws.{Breaking}
use Rattle.closing_rules.proofs.broken_by.Given as goal

abbrev pub invariant-loop-i : goal.invariant-loop-i
invariant-loop-i l = Breaking l.text l.cells l.from l.to l.register l.i l.next l.broken
