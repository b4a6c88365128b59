-- No suffix, or reset and address, one behind another, then what follows them.
use Rattle.std.proofs.Common.{ap}
use Rattle.std.proofs.lemmas.Result.{err_from_is_err_and}
use borrow.Author.Rules.{rules}
use borrow.Author.Tests.{not-true}
use Rattle.parts.specs.Ahead.{looked_as}
use Rattle.parts.proofs.Laws.{suffix_stands, suffixes_none, reset_stop, address_stop, address_done}
use Rattle.parts.proofs.read_suffixes.Goals as goal

pub returns-then-not-starts_suffix : goal.returns-then-not-starts_suffix
returns-then-not-starts_suffix c = search (suffixes_none, not-true)

pub read_suffix-requires-2 : goal.read_suffix-requires-2
read_suffix-requires-2 c =
    let e = ap looked_as c.in_ok-reset.was in
    search (rules, suffix_stands)

pub read_spacing-requires : goal.read_spacing-requires
read_spacing-requires c =
    let e = ap looked_as c.in_ok-address.was in
    search (rules, suffix_stands)

pub returns-in_err-reset : goal.returns-in_err-reset
returns-in_err-reset c =
    let p = err_from_is_err_and c.from_residual.result c.from_residual.ensures.1 in
    let e = ap looked_as c.in_err-reset.was in
    rw (p.1, p.2) (search (reset_stop))

pub returns-in_err-address : goal.returns-in_err-address
returns-in_err-address c =
    let p = err_from_is_err_and c.from_residual-in_err-address.result c.from_residual-in_err-address.ensures.1 in
    let d = ap looked_as c.in_ok-reset.was in
    let e = ap looked_as c.in_err-address.was in
    rw (p.1, p.2) (search address_stop)

pub returns : goal.returns
returns c =
    let d = ap looked_as c.in_ok-reset.was in
    let e = ap looked_as c.in_ok-address.was in
    search (address_done)
