-- A closing bracket makes the number a size; a colon brings the right end of a range; any other word is refused by 3.
use Rattle.std.proofs.Common.{ap}
use Rattle.std.proofs.lemmas.Result.{err_from_is_err_and}
use borrow.Author.Tests.{not-false, not-true}
use Rattle.expressions.specs.Reading.{parsed}
use Rattle.parts.proofs.Laws.{size_yes, range_no, range_close, range_stop}
use Rattle.parts.proofs.read_array_rest.Goals as goal

pub returns-then-is_mark : goal.returns-then-is_mark
returns-then-is_mark c = search (size_yes)

pub returns-then-not-is_mark : goal.returns-then-not-is_mark
returns-then-not-is_mark c = rw c.at.ensures (search (range_no, not-true))

pub returns-in_err-right : goal.returns-in_err-right
returns-in_err-right c =
    let p = err_from_is_err_and c.from_residual.result c.from_residual.ensures.1 in
    let e = ap parsed c.in_err-right.was in
    rw (p.1, p.2) (search (range_stop, not-false))

pub returns : goal.returns
returns c =
    let e = ap parsed c.in_ok-right.was in
    search (range_close, not-false)
