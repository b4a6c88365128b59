-- The step is the `%=` suffix's number, or the common multiple of the alignment and the mode's step, cut.
use Rattle.layout.proofs.Laws.{step_done, step_positive, step_high}
use Rattle.layout.proofs.step_of.Goals as goal

pub returns : goal.returns
returns c = search (step_done, step_positive, step_high)
