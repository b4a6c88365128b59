-- A shift by 64 or more is out of range; else it is the quotient by the power of two.
use native.Mathlib.Omega.{arith}
use Rattle.operators.proofs.Laws.{right_far, right_is}
use Rattle.operators.proofs.shift_right.Goals as goal

pub returns-then-b-ge-SHIFT_LIMIT : goal.returns-then-b-ge-SHIFT_LIMIT
returns-then-b-ge-SHIFT_LIMIT c = right_far _ _ (omega (arith, c.if-b-ge-SHIFT_LIMIT.true))

pub returns : goal.returns
returns c = search right_is
