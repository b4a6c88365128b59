-- 21 at the first register that overlaps an earlier one, none where there is no such register.
use Rattle.overlaps.proofs.Plots.{found_none, found_few, found_some}
use Rattle.overlaps.proofs.first_overlap.Goals as goal

pub returns-then-first-count : goal.returns-then-first-count
returns-then-first-count c = search found_none

pub place_at-requires : goal.place_at-requires
place_at-requires c = search found_few

pub returns : goal.returns
returns c = rw c.at.ensures (search found_some)
