use native.Mathlib.Omega.{arith}
use Prim.Native.Nat.{◌-◌}
use borrow.Fn.PlainCycle.{is}
use mathlib.Core.Path.{refl}
use lib.ListN.{length}
use Rattle.std.proofs.Common.{ap}
use Rattle.std.proofs.lemmas.Result.{err_from_is_err_and}
use Rattle.expressions.specs.Reading.{parsed}
use Rattle.basics.specs.Judged.{judged}
use Rattle.syntax.specs.Grammar.{definition_at, body_at}
use Rattle.syntax.proofs.Ends.{definition_ends}
use Rattle.syntax.proofs.Turns.{element_definition, element_statement, body_close, body_stop, body_past, body_more, definition_header, definition_deep, definition_body, definition_tail}
use Rattle.syntax.proofs.Numbers.{with_numbers}
use Rattle.syntax.proofs.+read_body_read_definition.Goals as goal

pub read_body-loop-token-init : goal.read_body-loop-token-init
unfolding body_at
read_body-loop-token-init t c = record { turns = length c.args.text.now; enough = omega arith; same = refl }

pub read_body-returns-then-is_mark : goal.read_body-returns-then-is_mark
read_body-returns-then-is_mark t c = let l = c.loop-token in body_close _ _ l.at l.invariant c.next_token-token.ensures c.is_mark.ensures c.if-is_mark.true

pub read_body-read_definition-requires : goal.read_body-read_definition-requires
read_body-read_definition-requires t c = (omega arith, tt)

pub read_body-loop-token-smaller-then-is_kind : goal.read_body-loop-token-smaller-then-is_kind
read_body-loop-token-smaller-then-is_kind t c =
    let l = c.loop-token in
    let a = c.args in
    let k = c.next_token-token.ensures in
    let which = element_definition (definition_at a.bodies a.text.now) _ l.at k c.is_kind.ensures c.if-is_kind.true in
    let p = body_past _ _ l.at l.invariant k c.is_mark.ensures c.if-is_mark.false which c.read_definition.ensures.answer (definition_ends _ _) (ap judged c.in_ok-at.was) in
    omega arith

pub read_body-loop-token-preserved-then-is_kind : goal.read_body-loop-token-preserved-then-is_kind
read_body-loop-token-preserved-then-is_kind t c =
    let l = c.loop-token in
    let a = c.args in
    let k = c.next_token-token.ensures in
    let which = element_definition (definition_at a.bodies a.text.now) _ l.at k c.is_kind.ensures c.if-is_kind.true in
    body_more _ _ l.at l.invariant k c.is_mark.ensures c.if-is_mark.false which c.read_definition.ensures.answer (definition_ends _ _) (ap judged c.in_ok-at.was)

pub read_body-returns-in_err-at : goal.read_body-returns-in_err-at
read_body-returns-in_err-at t c =
    let l = c.loop-token in
    let a = c.args in
    let k = c.next_token-token.ensures in
    let p = err_from_is_err_and c.from_residual.result c.from_residual.ensures.1 in
    let e = ap judged c.in_err-at.was in
    let which = element_definition (definition_at a.bodies a.text.now) _ l.at k c.is_kind.ensures c.if-is_kind.true in
    rw (p.1, p.2) (body_stop _ _ l.at l.invariant k c.is_mark.ensures c.if-is_mark.false which c.read_definition.ensures.answer e)

pub read_body-loop-token-smaller : goal.read_body-loop-token-smaller
read_body-loop-token-smaller t c =
    let l = c.loop-token in
    let a = c.args in
    let k = c.next_token-token.ensures in
    let which = element_statement (definition_at a.bodies a.text.now) _ l.at k c.is_kind.ensures c.if-is_kind.false in
    let p = body_past _ _ l.at l.invariant k c.is_mark.ensures c.if-is_mark.false which c.read_statement.ensures (definition_ends _ _) (ap judged c.in_ok-at-2.was) in
    omega arith

pub read_body-loop-token-preserved : goal.read_body-loop-token-preserved
read_body-loop-token-preserved t c =
    let l = c.loop-token in
    let a = c.args in
    let k = c.next_token-token.ensures in
    let which = element_statement (definition_at a.bodies a.text.now) _ l.at k c.is_kind.ensures c.if-is_kind.false in
    body_more _ _ l.at l.invariant k c.is_mark.ensures c.if-is_mark.false which c.read_statement.ensures (definition_ends _ _) (ap judged c.in_ok-at-2.was)

pub read_body-returns-in_err-at-2 : goal.read_body-returns-in_err-at-2
read_body-returns-in_err-at-2 t c =
    let l = c.loop-token in
    let a = c.args in
    let k = c.next_token-token.ensures in
    let p = err_from_is_err_and c.from_residual-in_err-at-2.result c.from_residual-in_err-at-2.ensures.1 in
    let e = ap judged c.in_err-at-2.was in
    let which = element_statement (definition_at a.bodies a.text.now) _ l.at k c.is_kind.ensures c.if-is_kind.false in
    rw (p.1, p.2) (body_stop _ _ l.at l.invariant k c.is_mark.ensures c.if-is_mark.false which c.read_statement.ensures e)

pub read_definition-returns-then-bodies-eq0 : goal.read_definition-returns-then-bodies-eq0
read_definition-returns-then-bodies-eq0 t c =
    let w = with_numbers _ (definition_deep _ _ c.read_header.ensures (ap parsed c.in_ok-header.was) c.if-bodies-eq0.true) in
    rw c.at.ensures (record { answer = w.0; numbers = w.1 })

pub read_definition-read_body-requires : goal.read_definition-read_body-requires
read_definition-read_body-requires t c = (omega arith, tt)

pub read_definition-returns-in_err-header : goal.read_definition-returns-in_err-header
read_definition-returns-in_err-header t c =
    let p = err_from_is_err_and c.from_residual.result c.from_residual.ensures.1 in
    let w = with_numbers _ (definition_header _ _ c.read_header.ensures _ (ap parsed c.in_err-header.was)) in
    rw (p.1, p.2) (record { answer = w.0; numbers = w.1 })

pub read_definition-returns-in_err-next : goal.read_definition-returns-in_err-next
read_definition-returns-in_err-next t c =
    let p = err_from_is_err_and c.from_residual-in_err-next.result c.from_residual-in_err-next.ensures.1 in
    let w = with_numbers _ (definition_body _ _ c.read_header.ensures (ap parsed c.in_ok-header.was) c.if-bodies-eq0.false c.read_body.ensures (ap judged c.in_err-next.was)) in
    rw (p.1, p.2) (record { answer = w.0; numbers = w.1 })

pub read_definition-returns : goal.read_definition-returns
read_definition-returns t c =
    let w = with_numbers _ (definition_tail _ _ c.read_header.ensures (ap parsed c.in_ok-header.was) c.if-bodies-eq0.false c.read_body.ensures (ap judged c.in_ok-next.was) c.is_named.ensures c.read_tail.ensures) in
    record { answer = w.0; numbers = w.1 }
