-- Where word and text have the same bytes it is this answer, else the other.
use Rattle.vocabulary.proofs.Laws.{chosen_this, chosen_other}
use Rattle.vocabulary.proofs.choose.Goals as goal

pub returns-then-same : goal.returns-then-same
returns-then-same g c = search chosen_this

pub returns-else-same : goal.returns-else-same
returns-else-same g c = search chosen_other
