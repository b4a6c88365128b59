use Prim.Native.Nat.{◌+◌}
use native.Mathlib.Omega.{arith}
use lib.ListN.{length}
use Rattle.std.proofs.Common.{ap, refl}
use Rattle.std.proofs.lemmas.Result.{err_from_is_err_and}
use Rattle.lex.specs.Words.{scanned}
use Rattle.lex.proofs.Left.{left_stop, left_more, left_past}
use Rattle.lex.proofs.first_bad.Goals as goal

pub loop-ends-init : goal.loop-ends-init
loop-ends-init c = record { tokens = length c.args.text.now + 1; enough = omega arith; inside = omega arith; meaning = refl }

pub returns-in_err-ends : goal.returns-in_err-ends
returns-in_err-ends c =
    let p = err_from_is_err_and c.from_residual.result c.from_residual.ensures.1 in
    rw (p.1, p.2) (left_stop _ _ c.loop-ends.invariant c.next_token-token.ensures c.judge.ensures (ap scanned c.in_err-ends.was))

pub returns-then-ends : goal.returns-then-ends
returns-then-ends c = left_stop _ _ c.loop-ends.invariant c.next_token-token.ensures c.judge.ensures (rw c.if-ends.true at (ap scanned c.in_ok-ends.was))

pub loop-ends-smaller : goal.loop-ends-smaller
loop-ends-smaller c =
    let p = left_past _ c.loop-ends.at c.loop-ends.invariant c.next_token-token.ensures c.judge.ensures (rw c.if-ends.false at (ap scanned c.in_ok-ends.was)) in
    omega arith

pub loop-ends-preserved : goal.loop-ends-preserved
loop-ends-preserved c = left_more _ _ c.loop-ends.invariant c.next_token-token.ensures c.judge.ensures (rw c.if-ends.false at (ap scanned c.in_ok-ends.was))
