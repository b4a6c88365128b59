-- The multiple that the division finds is the smallest one not below the number; no step of it wraps.
use Rattle.capped.specs.Offsets.{raised}
use Rattle.capped.proofs.Laws.{cut_capped, raised-fits}
use Rattle.capped.proofs.raise.Goals as goal

pub overflow_mul-x : goal.overflow_mul-x
overflow_mul-x c = record { fits = search raised-fits }

-- The multiple that the division finds is the smallest one not below the number; no step of it wraps.
pub returns : goal.returns
unfolding raised
returns c = search cut_capped
