-- A body's elements are judged one after another up to its brace; a definition's head, its body and what stands behind it.
use native.Mathlib.Omega.{arith}
use Rattle.std.proofs.lemmas.Result.{err_from_is_err_and}
use Rattle.rules.proofs.Loops.{step_definition, step_statement, step_falls, body_start, close_past, body_closes, body_faults, body_goes}
use Rattle.rules.proofs.Bodies.{def_stop, def_broken, def_deep, def_opens, def_body, def_some, def_after, def_tail}
use Rattle.rules.proofs.+judge_body_judge_definition.Goals as goal

pub judge_body-loop-cells-init : goal.judge_body-loop-cells-init
judge_body-loop-cells-init t c = body_start _ _ _ _ _ _ c.requires.0 c.requires.1

pub judge_body-close_body-requires : goal.judge_body-close_body-requires
judge_body-close_body-requires t c =
    let l = c.loop-cells.invariant in
    let p = close_past _ _ _ _ _ _ l c.next_token-token.ensures c.is_mark.ensures c.if-is_mark.true in
    (l.fits, l.inner, p.0, p.1)

pub judge_body-returns-then-is_mark : goal.judge_body-returns-then-is_mark
judge_body-returns-then-is_mark t c =
    body_closes _ _ _ _ _ _ c.loop-cells.invariant c.next_token-token.ensures c.is_mark.ensures c.if-is_mark.true c.close_body.ensures

pub judge_body-returns-in_err-walk : goal.judge_body-returns-in_err-walk
judge_body-returns-in_err-walk t c =
    let p = err_from_is_err_and c.from_residual.result c.from_residual.ensures.1 in
    rw (p.1, p.2)
    (body_faults _ _ _ _ _ _ c.loop-cells.invariant c.next_token-token.ensures c.is_mark.ensures c.if-is_mark.false c.requires.2
    (step_definition _ _ _ _ _ c.next_token-token.ensures c.is_kind.ensures c.if-is_kind.true c.in_err-walk.ensures))

pub judge_body-loop-cells-smaller-then-is_kind : goal.judge_body-loop-cells-smaller-then-is_kind
judge_body-loop-cells-smaller-then-is_kind t c = step_falls c.in_ok-walk.ensures

pub judge_body-loop-cells-preserved-then-is_kind : goal.judge_body-loop-cells-preserved-then-is_kind
judge_body-loop-cells-preserved-then-is_kind t c =
    body_goes _ _ _ _ _ _ c.loop-cells.invariant c.next_token-token.ensures c.is_mark.ensures c.if-is_mark.false c.requires.2
    (step_definition _ _ _ _ _ c.next_token-token.ensures c.is_kind.ensures c.if-is_kind.true c.in_ok-walk.ensures)

pub judge_body-returns-in_err-walk-2 : goal.judge_body-returns-in_err-walk-2
judge_body-returns-in_err-walk-2 t c =
    let p = err_from_is_err_and c.from_residual-in_err-walk-2.result c.from_residual-in_err-walk-2.ensures.1 in
    rw (p.1, p.2)
    (body_faults _ _ _ _ _ _ c.loop-cells.invariant c.next_token-token.ensures c.is_mark.ensures c.if-is_mark.false c.requires.2
    (step_statement _ _ _ _ _ c.next_token-token.ensures c.is_kind.ensures c.if-is_kind.false c.in_err-walk-2.ensures))

pub judge_body-loop-cells-smaller : goal.judge_body-loop-cells-smaller
judge_body-loop-cells-smaller t c = step_falls c.in_ok-walk-2.ensures

pub judge_body-loop-cells-preserved : goal.judge_body-loop-cells-preserved
judge_body-loop-cells-preserved t c =
    body_goes _ _ _ _ _ _ c.loop-cells.invariant c.next_token-token.ensures c.is_mark.ensures c.if-is_mark.false c.requires.2
    (step_statement _ _ _ _ _ c.next_token-token.ensures c.is_kind.ensures c.if-is_kind.false c.in_ok-walk-2.ensures)

pub judge_definition-returns-in_err-header : goal.judge_definition-returns-in_err-header
judge_definition-returns-in_err-header t c =
    let p = err_from_is_err_and c.from_residual.result c.from_residual.ensures.1 in
    rw (p.1, p.2) (def_stop _ _ _ _ _ c.in_err-header.ensures)

pub judge_definition-returns-in_err-header_fault : goal.judge_definition-returns-in_err-header_fault
judge_definition-returns-in_err-header_fault t c =
    let p = err_from_is_err_and c.from_residual-in_err-header_fault.result c.from_residual-in_err-header_fault.ensures.1 in
    rw (p.1, p.2) (def_broken _ _ _ _ _ c.in_ok-header.ensures c.in_err-header_fault.ensures)

pub judge_definition-returns-then-bodies-eq0 : goal.judge_definition-returns-then-bodies-eq0
judge_definition-returns-then-bodies-eq0 t c = def_deep _ _ _ _ _ c.in_ok-header.ensures c.if-bodies-eq0.true

pub judge_definition-judge_body-requires : goal.judge_definition-judge_body-requires
judge_definition-judge_body-requires t c =
    (omega (arith, c.if-bodies-eq0.false), def_opens _ _ _ _ 0 c.in_ok-header.ensures c.in_ok-header_fault.ensures c.requires c.inner_scope-inner.ensures c.opening_walk-opening.ensures)

pub judge_definition-returns-in_err-made : goal.judge_definition-returns-in_err-made
judge_definition-returns-in_err-made t c =
    let p = err_from_is_err_and c.from_residual-in_err-made.result c.from_residual-in_err-made.ensures.1 in
    rw (p.1, p.2)
    (def_body _ _ _ _ _ c.in_ok-header.ensures c.in_ok-header_fault.ensures c.requires c.if-bodies-eq0.false c.inner_scope-inner.ensures c.opening_walk-opening.ensures c.in_err-made.ensures)

pub judge_definition-after_body-behind-requires : goal.judge_definition-after_body-behind-requires
judge_definition-after_body-behind-requires t c =
    def_some _ _ _ _ _ c.in_ok-header.ensures c.in_ok-header_fault.ensures c.requires c.if-bodies-eq0.false c.inner_scope-inner.ensures c.opening_walk-opening.ensures c.in_ok-made.ensures

pub judge_definition-judge_tail-requires : goal.judge_definition-judge_tail-requires
judge_definition-judge_tail-requires t c =
    def_after _ _ _ _ _ c.in_ok-header.ensures c.in_ok-header_fault.ensures c.requires c.if-bodies-eq0.false c.inner_scope-inner.ensures c.opening_walk-opening.ensures c.in_ok-made.ensures c.after_body-behind.ensures

pub judge_definition-returns : goal.judge_definition-returns
judge_definition-returns t c =
    def_tail _ _ _ _ _ c.in_ok-header.ensures c.in_ok-header_fault.ensures c.requires c.if-bodies-eq0.false c.inner_scope-inner.ensures c.opening_walk-opening.ensures c.in_ok-made.ensures c.after_body-behind.ensures c.judge_tail.ensures
