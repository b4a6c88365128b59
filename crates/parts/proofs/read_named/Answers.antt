-- An array, then the suffixes.
use Rattle.std.proofs.Common.{ap}
use Rattle.std.proofs.lemmas.Result.{err_from_is_err_and}
use borrow.Author.Rules.{rules}
use Rattle.parts.specs.Ahead.{looked_as}
use Rattle.parts.proofs.Laws.{look_stands, array_stands, named_done, named_stop}
use Rattle.parts.proofs.read_named.Goals as goal

pub read_array-requires : goal.read_array-requires
read_array-requires c = search (rules, look_stands)

pub read_suffixes-requires : goal.read_suffixes-requires
read_suffixes-requires c =
    let e = ap looked_as c.in_ok-array.was in
    search (rules, array_stands)

pub returns-in_err-array : goal.returns-in_err-array
returns-in_err-array c =
    let p = err_from_is_err_and c.from_residual.result c.from_residual.ensures.1 in
    let e = ap looked_as c.in_err-array.was in
    rw (p.1, p.2) (search (named_stop))

pub returns : goal.returns
returns c =
    let e = ap looked_as c.in_ok-array.was in
    search (named_done)
