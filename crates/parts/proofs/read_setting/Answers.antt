-- A semicolon ends a statement without a value; an equals sign brings one; any other mark is refused by 3.
use Rattle.std.proofs.Common.{ap}
use Rattle.std.proofs.lemmas.Result.{err_from_is_err_and}
use borrow.Author.Tests.{not-false, not-true}
use Rattle.expressions.specs.Reading.{parsed}
use Rattle.parts.proofs.Laws.{setting_alone, setting_no, setting_close, setting_stop}
use Rattle.parts.proofs.read_setting.Goals as goal

pub returns-then-is_mark : goal.returns-then-is_mark
returns-then-is_mark c = search (setting_alone)

pub returns-then-not-is_mark : goal.returns-then-not-is_mark
returns-then-not-is_mark c = rw c.at.ensures (search (setting_no, not-true))

pub returns-in_err-value : goal.returns-in_err-value
returns-in_err-value c =
    let p = err_from_is_err_and c.from_residual.result c.from_residual.ensures.1 in
    let e = ap parsed c.in_err-value.was in
    rw (p.1, p.2) (search (setting_stop, not-false))

pub returns : goal.returns
returns c =
    let e = ap parsed c.in_ok-value.was in
    search (setting_close, not-false)
