-- A value above 64 bits fits no fewer; another is held against the bits asked for.
use Rattle.std.proofs.Common.{sym, ◌∙◌}
use Rattle.std.proofs.lemmas.Result.{err_from_is_err_and}
use Rattle.numbers.proofs.Laws.{fewer_wide, fewer_fits}
use Rattle.numbers.proofs.fitting_value.Goals as goal

pub returns-in_err-value_of : goal.returns-in_err-value_of
returns-in_err-value_of c =
    let p = err_from_is_err_and c.from_residual.result c.from_residual.ensures.1 in
    rw (p.1, p.2) (sym c.in_err-value_of.was ∙ fewer_wide _ _ c.requires.2 c.value_of.ensures c.in_err-value_of.was)

pub returns : goal.returns
returns c = fewer_fits _ _ c.requires.2 c.value_of.ensures c.in_ok-value_of.was c.fit.ensures
