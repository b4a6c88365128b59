-- Without the suffix's mark nothing is read; behind it stands a number.
use Rattle.std.proofs.Common.{ap}
use Rattle.std.proofs.lemmas.Result.{err_from_is_err_and}
use borrow.Author.Tests.{not-false, not-true}
use Rattle.expressions.specs.Reading.{parsed}
use Rattle.parts.proofs.Laws.{suffix_none, suffix_given, suffix_stop}
use Rattle.parts.proofs.read_suffix.Goals as goal

pub returns-then-not-is_mark : goal.returns-then-not-is_mark
returns-then-not-is_mark c = search (suffix_none, not-true)

pub returns-in_err-number : goal.returns-in_err-number
returns-in_err-number c =
    let p = err_from_is_err_and c.from_residual.result c.from_residual.ensures.1 in
    let e = ap parsed c.in_err-number.was in
    rw (p.1, p.2) (search (suffix_stop, not-false))

pub returns : goal.returns
returns c =
    let e = ap parsed c.in_ok-number.was in
    search (suffix_given, not-false)
