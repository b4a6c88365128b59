-- The definitions are judged one after another up to the text's end, where the address map is known or missing.
use Rattle.std.proofs.lemmas.Result.{err_from_is_err_and}
use Rattle.rules.proofs.Loops.{step_falls, file_start, file_ends, file_faults, file_goes}
use Rattle.rules.proofs.judge_file.Goals as goal

pub loop-scope-init : goal.loop-scope-init
loop-scope-init c = (rw c.root_walk-walk.ensures (file_start _ _ c.requires), c.root_scope-scope.ensures)

pub returns-then-is_end : goal.returns-then-is_end
returns-then-is_end c = file_ends _ _ c.loop-scope.invariant.0 c.next_token-token.ensures c.is_end.ensures c.if-is_end.true c.ruling_of.ensures

pub judge_definition-requires : goal.judge_definition-requires
judge_definition-requires c = rw c.loop-scope.invariant.1 c.loop-scope.invariant.0.fits

pub returns-in_err-walk : goal.returns-in_err-walk
returns-in_err-walk c =
    let p = err_from_is_err_and c.from_residual.result c.from_residual.ensures.1 in
    rw (p.1, p.2)
    (file_faults _ _ c.loop-scope.invariant.0 c.next_token-token.ensures c.is_end.ensures c.if-is_end.false (rw c.loop-scope.invariant.1 at c.in_err-walk.ensures))

pub loop-scope-smaller : goal.loop-scope-smaller
loop-scope-smaller c = step_falls c.in_ok-walk.ensures

pub loop-scope-preserved : goal.loop-scope-preserved
loop-scope-preserved c =
    (file_goes _ _ c.loop-scope.invariant.0 c.next_token-token.ensures c.is_end.ensures c.if-is_end.false (rw c.loop-scope.invariant.1 at c.in_ok-walk.ensures), c.loop-scope.invariant.1)
