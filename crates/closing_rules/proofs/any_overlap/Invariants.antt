-- Some field overlaps an earlier one exactly where one that is left meets the cover: those passed don't overlap, and it stands for them.
use Rattle.closing_rules.proofs.Covered.{Covering}
use Rattle.closing_rules.proofs.any_overlap.Given as goal

abbrev pub invariant-loop-i : goal.invariant-loop-i
invariant-loop-i l = Covering l.text l.cells l.from l.to l.i l.next l.closed
