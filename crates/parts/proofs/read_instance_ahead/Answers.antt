-- A name, then what follows it.
use Rattle.std.proofs.Common.{ap}
use Rattle.std.proofs.lemmas.Result.{err_from_is_err_and}
use Rattle.expressions.specs.Reading.{parsed}
use Rattle.parts.proofs.Laws.{name_done, name_stop}
use Rattle.parts.proofs.read_instance_ahead.Goals as goal

pub returns-in_err-name : goal.returns-in_err-name
returns-in_err-name c =
    let p = err_from_is_err_and c.from_residual.result c.from_residual.ensures.1 in
    let e = ap parsed c.in_err-name.was in
    rw (p.1, p.2) (search (name_stop))

pub returns : goal.returns
returns c =
    let e = ap parsed c.in_ok-name.was in
    search (name_done)
