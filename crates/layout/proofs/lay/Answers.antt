-- Start, stride and end, made of cut numbers, are those of the true layout, cut.
use borrow.Author.Rules.{rules}
use Rattle.layout.proofs.Laws.{starts_low, lay_done}
use Rattle.layout.proofs.lay.Goals as goal

pub sum-requires : goal.sum-requires
sum-requires c = search (rules, starts_low)

pub returns : goal.returns
returns c = search lay_done
