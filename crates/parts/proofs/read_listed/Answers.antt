-- An instance is read, then the mark behind it.
use Rattle.std.proofs.Common.{ap}
use Rattle.std.proofs.lemmas.Result.{err_from_is_err_and}
use Rattle.parts.specs.Ahead.{looked_as}
use Rattle.parts.proofs.Laws.{listed_more, listed_stop}
use Rattle.parts.proofs.read_listed.Goals as goal

pub returns-in_err-instance : goal.returns-in_err-instance
returns-in_err-instance c =
    let p = err_from_is_err_and c.from_residual.result c.from_residual.ensures.1 in
    let e = ap looked_as c.in_err-instance.was in
    rw (p.1, p.2) (search (listed_stop))

pub returns : goal.returns
returns c =
    let e = ap looked_as c.in_ok-instance.was in
    search (listed_more)
