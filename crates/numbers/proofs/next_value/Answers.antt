-- The test by a quotient says whether the next value fits.
use Prim.Native.Nat.{◌+◌, ◌*◌, ◌^◌, ◌<◌, ◌≤◌}
use native.Mathlib.Omega.{arith}
use borrow.Author.Rules.{rules}
use Rattle.numbers.proofs.Laws.{fitting_yes, fitting_no, digit_small, next_underscore, next_digit, quotient_above, quotient_below}
use Rattle.numbers.proofs.next_value.Goals as goal

pub returns-then-b-eq95 : goal.returns-then-b-eq95
returns-then-b-eq95 c = rw (← next_underscore c.args.base c.args.value c.args.b c.if-b-eq95.true) (search (rules, fitting_yes))

pub overflow_sub-d : goal.overflow_sub-d
overflow_sub-d c =
    let small : c.digit_value-d.result < 16 = rw c.digit_value-d.ensures (digit_small c.args.b) in
    omega (arith, small)

pub returns-then-value-d : goal.returns-then-value-d
returns-then-value-d c =
    let small : c.digit_value-d.result < 16 = rw c.digit_value-d.ensures (digit_small c.args.b) in
    let above : 2 ^ 64 ≤ c.args.value * c.args.base + c.digit_value-d.result = quotient_above _ _ _ c.requires.0 small c.if-value-d.true in
    rw (← next_digit c.args.base c.args.value c.args.b c.if-b-eq95.false c.digit_value-d.ensures) (fitting_no 64 _ above)

pub overflow_mul-result : goal.overflow_mul-result
overflow_mul-result c =
    let small : c.digit_value-d.result < 16 = rw c.digit_value-d.ensures (digit_small c.args.b) in
    let below : c.args.value * c.args.base + c.digit_value-d.result < 2 ^ 64 = quotient_below _ _ _ c.requires.0 small c.if-value-d.false in
    omega (arith, below)

pub overflow_add-result : goal.overflow_add-result
overflow_add-result c =
    let small : c.digit_value-d.result < 16 = rw c.digit_value-d.ensures (digit_small c.args.b) in
    let below : c.args.value * c.args.base + c.digit_value-d.result < 2 ^ 64 = quotient_below _ _ _ c.requires.0 small c.if-value-d.false in
    omega (arith, below)

pub returns : goal.returns
returns c =
    let small : c.digit_value-d.result < 16 = rw c.digit_value-d.ensures (digit_small c.args.b) in
    let below : c.args.value * c.args.base + c.digit_value-d.result < 2 ^ 64 = quotient_below _ _ _ c.requires.0 small c.if-value-d.false in
    rw (← next_digit c.args.base c.args.value c.args.b c.if-b-eq95.false c.digit_value-d.ensures) (fitting_yes 64 _ below)
