-- A type's name and then instances are read; a word that is no name is refused by 3.
use Rattle.std.proofs.Common.{ap}
use Rattle.std.proofs.lemmas.Result.{err_from_is_err_and}
use Rattle.expressions.specs.Reading.{parsed}
use Rattle.syntax.proofs.Turns.{typed_more, typed_stop}
use Rattle.syntax.proofs.read_instance_statement.Goals as goal

pub returns-in_err-next : goal.returns-in_err-next
returns-in_err-next c =
    let p = err_from_is_err_and c.from_residual.result c.from_residual.ensures.1 in
    let e = ap parsed c.in_err-next.was in
    rw (p.1, p.2) (search typed_stop)

pub returns : goal.returns
returns c =
    let e = ap parsed c.in_ok-next.was in
    search typed_more
