-- A pass over all registers that finds none says that there is none; else halving finds the first.
use borrow.Author.Rules.{rules}
use Rattle.overlaps.proofs.Plots.{all_within, all_clear, found_within, found-meets}
use Rattle.overlaps.proofs.first_in_order.Goals as goal

pub pass-found-requires : goal.pass-found-requires
pass-found-requires c = (search rules, search all_within)

pub returns-then-found-count : goal.returns-then-found-count
returns-then-found-count c = search all_clear

pub bisect-requires : goal.bisect-requires
bisect-requires c = (search rules, search found_within, search found-meets)
