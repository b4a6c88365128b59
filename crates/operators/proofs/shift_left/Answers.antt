-- A shift by 64 or more is out of range, and so is one that loses a bit; else nothing is lost.
use native.Mathlib.Omega.{arith}
use Rattle.operators.proofs.Laws.{left_far, left_out, left_is}
use Rattle.operators.proofs.shift_left.Goals as goal

pub returns-then-b-ge-SHIFT_LIMIT : goal.returns-then-b-ge-SHIFT_LIMIT
returns-then-b-ge-SHIFT_LIMIT c = left_far _ _ (omega (arith, c.if-b-ge-SHIFT_LIMIT.true))

pub returns-then-a-b : goal.returns-then-a-b
returns-then-a-b c = search left_out

pub returns : goal.returns
returns c = search left_is
