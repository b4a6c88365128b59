-- A string or a word of the value lists is taken as it is; else a number is read from the same place.
use Rattle.std.proofs.Common.{ap}
use Rattle.std.proofs.lemmas.Result.{err_from_is_err_and}
use Rattle.expressions.specs.Reading.{parsed}
use Rattle.parts.proofs.Laws.{value_word, value-number, value_stop}
use Rattle.parts.proofs.read_value.Goals as goal

pub returns-in-Some : goal.returns-in-Some
returns-in-Some c = search (value_word)

pub returns-in_err-number-in-None : goal.returns-in_err-number-in-None
returns-in_err-number-in-None c =
    let p = err_from_is_err_and c.from_residual.result c.from_residual.ensures.1 in
    let e = ap parsed c.in_err-number-in-None.was in
    rw (p.1, p.2) (search (value_stop))

pub returns-in_ok-number-in-None : goal.returns-in_ok-number-in-None
returns-in_ok-number-in-None c =
    let e = ap parsed c.in_ok-number-in-None.was in
    search (value-number)
