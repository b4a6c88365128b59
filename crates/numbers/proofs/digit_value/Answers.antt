-- Each run of bytes gives its digits' values, and no difference falls below 0.
use borrow.Author.Rules.{rules}
use Rattle.chars.proofs.Laws.{within_low, within_high}
use Rattle.numbers.proofs.Laws.{digit-decimal, digit_lower, digit_upper, digit_none}
use Rattle.numbers.proofs.digit_value.Goals as goal

pub overflow_sub-b : goal.overflow_sub-b
overflow_sub-b c = search within_low

pub returns-then-within : goal.returns-then-within
returns-then-within c = search digit-decimal

pub overflow_sub-b-then-within-2 : goal.overflow_sub-b-then-within-2
overflow_sub-b-then-within-2 c = search within_low

pub overflow_add-result : goal.overflow_add-result
overflow_add-result c = search (rules, within_high)

pub returns-then-within-2 : goal.returns-then-within-2
returns-then-within-2 c = search digit_lower

pub overflow_sub-b-then-within-3 : goal.overflow_sub-b-then-within-3
overflow_sub-b-then-within-3 c = search within_low

pub overflow_add-result-then-within-3 : goal.overflow_add-result-then-within-3
overflow_add-result-then-within-3 c = search (rules, within_high)

pub returns-then-within-3 : goal.returns-then-within-3
returns-then-within-3 c = search digit_upper

pub returns : goal.returns
returns c = search digit_none
