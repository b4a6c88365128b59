-- Neither, or stride and alignment, one behind another.
use Rattle.std.proofs.Common.{ap}
use Rattle.std.proofs.lemmas.Result.{err_from_is_err_and}
use borrow.Author.Rules.{rules}
use borrow.Author.Tests.{not-true}
use Rattle.parts.specs.Ahead.{looked_as}
use Rattle.parts.proofs.Laws.{suffix_stands, spacing_none, stride_stop, alignment_stop, alignment_done}
use Rattle.parts.proofs.read_spacing.Goals as goal

pub returns-then-not-starts_spacing : goal.returns-then-not-starts_spacing
returns-then-not-starts_spacing c = search (spacing_none, not-true)

pub read_suffix-requires-2 : goal.read_suffix-requires-2
read_suffix-requires-2 c =
    let e = ap looked_as c.in_ok-stride.was in
    search (rules, suffix_stands)

pub returns-in_err-stride : goal.returns-in_err-stride
returns-in_err-stride c =
    let p = err_from_is_err_and c.from_residual.result c.from_residual.ensures.1 in
    let e = ap looked_as c.in_err-stride.was in
    rw (p.1, p.2) (search (stride_stop))

pub returns-in_err-alignment : goal.returns-in_err-alignment
returns-in_err-alignment c =
    let p = err_from_is_err_and c.from_residual-in_err-alignment.result c.from_residual-in_err-alignment.ensures.1 in
    let d = ap looked_as c.in_ok-stride.was in
    let e = ap looked_as c.in_err-alignment.was in
    rw (p.1, p.2) (search alignment_stop)

pub returns : goal.returns
returns c =
    let d = ap looked_as c.in_ok-stride.was in
    let e = ap looked_as c.in_ok-alignment.was in
    search (alignment_done)
