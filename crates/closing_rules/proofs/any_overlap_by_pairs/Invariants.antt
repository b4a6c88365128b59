-- Some field overlaps an earlier one exactly where one that is left overlaps one before it: those passed don't overlap.
use Rattle.closing_rules.proofs.Laws.{Passing}
use Rattle.closing_rules.proofs.any_overlap_by_pairs.Given as goal

abbrev pub invariant-loop-i : goal.invariant-loop-i
invariant-loop-i l = Passing l.text l.cells l.from l.to l.i l.next
