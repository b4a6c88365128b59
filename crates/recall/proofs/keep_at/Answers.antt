-- What is surely short or refused changes nothing; another instance is kept as it is read.
use Rattle.recall.proofs.Kept.{at_short, at_read, at_refused}
use Rattle.recall.proofs.keep_at.Goals as goal

pub returns-then-is_surely_short : goal.returns-then-is_surely_short
returns-then-is_surely_short c = search at_short

pub returns-in-Ok : goal.returns-in-Ok
returns-in-Ok c = search at_read

pub returns-in_default : goal.returns-in_default
returns-in_default c = search at_refused
