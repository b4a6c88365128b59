-- Two numbers up to the cap have a sum below 2 ^ 64, and the sum is cut.
use Rattle.capped.proofs.Laws.{cut_capped}
use Rattle.capped.proofs.sum.Goals as goal

pub returns : goal.returns
returns c = search cut_capped
