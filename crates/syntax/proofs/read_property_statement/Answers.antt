-- What the reader of property statements reads is passed over; what it refuses is refused.
use Rattle.std.proofs.Common.{ap}
use Rattle.std.proofs.lemmas.Result.{err_from_is_err_and}
use Rattle.expressions.specs.Reading.{parsed}
use Rattle.syntax.proofs.Turns.{setting_done, setting_stop}
use Rattle.syntax.proofs.read_property_statement.Goals as goal

pub returns-in_err-next : goal.returns-in_err-next
returns-in_err-next c =
    let p = err_from_is_err_and c.from_residual.result c.from_residual.ensures.1 in
    let e = ap parsed c.in_err-next.was in
    rw (p.1, p.2) (search setting_stop)

pub returns : goal.returns
returns c =
    let e = ap parsed c.in_ok-next.was in
    search setting_done
