-- The operator's outcome stands where neither part is refused; else the first refusal does.
use Rattle.expressions.proofs.Laws.{join_numbers}
use Rattle.expressions.proofs.combine.Goals as goal

pub returns : goal.returns
returns c = search join_numbers
