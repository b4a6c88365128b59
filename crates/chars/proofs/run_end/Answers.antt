use Rattle.std.proofs.Common.{rules, ◌∙◌}
use borrow.Author.Tests.{not-false, not-true}
use Rattle.chars.proofs.Laws.{runs, run_past}
use Rattle.chars.proofs.run_end.Goals as goal

pub loop-i-preserved : goal.loop-i-preserved
loop-i-preserved c = search (rules, runs, not-false)

pub returns-then-not-in_class : goal.returns-then-not-in_class
returns-then-not-in_class c = search (rules, runs, not-true)

pub returns : goal.returns
returns c = c.max.ensures ∙ run_past _ _ _ _ c.loop-i.invariant c.loop-i-test.false c.loop-i.auto.i-end
