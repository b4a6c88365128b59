-- The span is every stride but the last and then one element's size, each cut; the count of elements keeps it from wrapping.
use borrow.Author.Rules.{rules}
use Rattle.layout.proofs.Laws.{count_low, count_high, span_done}
use Rattle.layout.proofs.span_of.Goals as goal

pub overflow_sub-count : goal.overflow_sub-count
overflow_sub-count c = search (rules, count_low)

pub product-before-requires : goal.product-before-requires
product-before-requires c = search (rules, count_high)

pub returns : goal.returns
returns c = search span_done
