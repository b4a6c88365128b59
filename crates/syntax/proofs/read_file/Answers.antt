use Prim.Native.Nat.{◌-◌}
use mathlib.Core.Path.{refl}
use native.Mathlib.Omega.{arith}
use lib.ListN.{length}
use Rattle.std.proofs.Common.{ap}
use Rattle.std.proofs.lemmas.Result.{err_from_is_err_and}
use Rattle.basics.specs.Judged.{judged}
use Rattle.syntax.specs.Grammar.{file_at}
use Rattle.syntax.proofs.Numbers.{with_numbers}
use Rattle.syntax.proofs.Turns.{file_close, file_stop, file_past, file_more}
use Rattle.syntax.proofs.read_file.Goals as goal

pub loop-token-init : goal.loop-token-init
unfolding file_at
loop-token-init c = record { turns = length c.args.text.now; enough = omega arith; same = refl }

pub returns-then-is_end : goal.returns-then-is_end
returns-then-is_end c = let l = c.loop-token in
    let w = with_numbers _ (file_close _ l.at l.invariant c.next_token-token.ensures c.is_end.ensures c.if-is_end.true) in record { answer = w.0; numbers = w.1 }

pub loop-token-smaller : goal.loop-token-smaller
loop-token-smaller c =
    let l = c.loop-token in
    let p = file_past _ l.at l.invariant c.next_token-token.ensures c.is_end.ensures c.if-is_end.false c.read_definition.ensures.answer (ap judged c.in_ok-at.was) in
    omega arith

pub loop-token-preserved : goal.loop-token-preserved
loop-token-preserved c =
    let l = c.loop-token in
    file_more _ l.at l.invariant c.next_token-token.ensures c.is_end.ensures c.if-is_end.false c.read_definition.ensures.answer (ap judged c.in_ok-at.was)

pub returns-in_err-at : goal.returns-in_err-at
returns-in_err-at c =
    let p = err_from_is_err_and c.from_residual.result c.from_residual.ensures.1 in
    let e = ap judged c.in_err-at.was in
    rw (p.1, p.2) (let w = with_numbers _ (file_stop _ c.loop-token.at c.loop-token.invariant c.next_token-token.ensures c.is_end.ensures c.if-is_end.false c.read_definition.ensures.answer e) in record { answer = w.0; numbers = w.1 })
