-- Without a bracket nothing is read; behind one the first number decides how it goes on.
use Rattle.std.proofs.Common.{ap}
use Rattle.std.proofs.lemmas.Result.{err_from_is_err_and}
use borrow.Author.Tests.{not-false, not-true}
use Rattle.expressions.specs.Reading.{parsed}
use Rattle.parts.proofs.Laws.{array_none, array_rest, array_stop}
use Rattle.parts.proofs.read_array.Goals as goal

pub returns-then-not-is_mark : goal.returns-then-not-is_mark
returns-then-not-is_mark c = search (array_none, not-true)

pub returns-in_err-left : goal.returns-in_err-left
returns-in_err-left c =
    let p = err_from_is_err_and c.from_residual.result c.from_residual.ensures.1 in
    let e = ap parsed c.in_err-left.was in
    rw (p.1, p.2) (search (array_stop, not-false))

pub returns : goal.returns
returns c =
    let e = ap parsed c.in_ok-left.was in
    search (array_rest, not-false)
