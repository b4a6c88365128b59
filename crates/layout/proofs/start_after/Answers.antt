-- An instance starts at its own offset, or at the next multiple of the step behind the end.
use Rattle.layout.proofs.Laws.{starts_at}
use Rattle.layout.proofs.start_after.Goals as goal

pub returns-in-Some : goal.returns-in-Some
returns-in-Some c = search starts_at
