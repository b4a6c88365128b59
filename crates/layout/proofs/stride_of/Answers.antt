-- The stride is the `+=` suffix's number, or the size raised to the alignment, cut.
use borrow.Author.Rules.{rules}
use Rattle.layout.proofs.Laws.{own_low, own_high, stride_done, stride_high}
use Rattle.layout.proofs.stride_of.Goals as goal

pub raise-standard-requires : goal.raise-standard-requires
raise-standard-requires c = search (rules, own_low, own_high)

pub returns : goal.returns
returns c = search (stride_done, stride_high)
