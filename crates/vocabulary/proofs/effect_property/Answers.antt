-- The six tests, from the last word to the first, find the entry of the list of effects as properties.
use Rattle.vocabulary.proofs.Laws.{entries}
use Rattle.vocabulary.proofs.effect_property.Goals as goal

pub returns : goal.returns
returns c = search entries depth 8
