use Rattle.std.proofs.Common.{rules, sym, ◌∙◌}
use Rattle.std.proofs.lemmas.Result.{err_from_is_err_and}
use Rattle.numbers.proofs.Laws.{values, value_next, value_wide}
use Rattle.numbers.proofs.value_of.Goals as goal

pub loop-i-preserved : goal.loop-i-preserved
loop-i-preserved c = search (rules, value_next _ _ _ _ c.loop-i.invariant.1 c.loop-i-test.true c.next_value.ensures c.in_ok-value.was)

pub returns-in_err-value : goal.returns-in_err-value
returns-in_err-value c =
    let p = err_from_is_err_and c.from_residual.result c.from_residual.ensures.1 in
    rw (p.1, p.2) (sym c.in_err-value.was ∙ value_wide _ _ _ _ c.loop-i.invariant.1 c.loop-i-test.true c.next_value.ensures c.requires.0 c.in_err-value.was)

pub returns : goal.returns
returns c = search (rules, values)
