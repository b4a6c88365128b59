-- Each of the 16 operators gives what its own function gives.
use Rattle.operators.specs.Operators.{result_of}
use Rattle.operators.proofs.Laws.{checked_within, checked_unless_zero, checked_at_most}
use Rattle.operators.proofs.apply.Goals as goal

pub returns-in-Times : goal.returns-in-Times
unfolding result_of
returns-in-Times c = rw c.in-Times.is (checked_within _ _ c.checked_mul.ensures)

pub returns-in-Over : goal.returns-in-Over
unfolding result_of
returns-in-Over c = rw c.in-Over.is (checked_unless_zero _ _ _ c.checked_div.ensures)

pub returns-in-Modulo : goal.returns-in-Modulo
unfolding result_of
returns-in-Modulo c = rw c.in-Modulo.is (checked_unless_zero _ _ _ c.checked_rem.ensures)

pub returns-in-Plus : goal.returns-in-Plus
unfolding result_of
returns-in-Plus c = rw c.in-Plus.is (checked_within _ _ c.checked_add.ensures)

pub returns-in-Minus : goal.returns-in-Minus
unfolding result_of
returns-in-Minus c = rw c.in-Minus.is (checked_at_most _ _ _ _ c.checked_sub.ensures)

pub returns-in-ShiftLeft : goal.returns-in-ShiftLeft
unfolding result_of
returns-in-ShiftLeft c = rw c.in-ShiftLeft.is c.shift_left.ensures

pub returns-in-ShiftRight : goal.returns-in-ShiftRight
unfolding result_of
returns-in-ShiftRight c = rw c.in-ShiftRight.is c.shift_right.ensures

pub returns-in-Less : goal.returns-in-Less
unfolding result_of
returns-in-Less c = rw c.in-Less.is c.truth_of.ensures

pub returns-in-AtMost : goal.returns-in-AtMost
unfolding result_of
returns-in-AtMost c = rw c.in-AtMost.is c.truth_of-in-AtMost.ensures

pub returns-in-More : goal.returns-in-More
unfolding result_of
returns-in-More c = rw c.in-More.is c.truth_of-in-More.ensures

pub returns-in-AtLeast : goal.returns-in-AtLeast
unfolding result_of
returns-in-AtLeast c = rw c.in-AtLeast.is c.truth_of-in-AtLeast.ensures

pub returns-in-Same : goal.returns-in-Same
unfolding result_of
returns-in-Same c = rw c.in-Same.is c.truth_of-in-Same.ensures

pub returns-in-Unlike : goal.returns-in-Unlike
unfolding result_of
returns-in-Unlike c = rw c.in-Unlike.is c.truth_of-in-Unlike.ensures

pub returns-in-And : goal.returns-in-And
unfolding result_of
returns-in-And c = rw c.in-And.is

pub returns-in-Xor : goal.returns-in-Xor
unfolding result_of
returns-in-Xor c = rw c.in-Xor.is

pub returns-in-Or : goal.returns-in-Or
unfolding result_of
returns-in-Or c = rw c.in-Or.is
