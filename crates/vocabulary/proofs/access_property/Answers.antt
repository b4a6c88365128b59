-- The three tests, from the last word to the first, find the entry of the list of access properties.
use Rattle.vocabulary.proofs.Laws.{entries}
use Rattle.vocabulary.proofs.access_property.Goals as goal

pub returns : goal.returns
returns c = search entries depth 5
