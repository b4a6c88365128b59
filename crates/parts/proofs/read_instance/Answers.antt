-- The token behind the instance is left out.
use Rattle.std.proofs.Common.{ap}
use Rattle.std.proofs.lemmas.Result.{err_from_is_err_and}
use Rattle.parts.specs.Ahead.{looked_as}
use Rattle.parts.proofs.Laws.{instance_done, instance_stop}
use Rattle.parts.proofs.read_instance.Goals as goal

pub returns-in_err-instance : goal.returns-in_err-instance
returns-in_err-instance c =
    let p = err_from_is_err_and c.from_residual.result c.from_residual.ensures.1 in
    let e = ap looked_as c.in_err-instance.was in
    rw (p.1, p.2) (search (instance_stop))

pub returns : goal.returns
returns c =
    let e = ap looked_as c.in_ok-instance.was in
    search (instance_done)
