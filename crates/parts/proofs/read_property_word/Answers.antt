-- A property word brings its setting; any other word is refused by 3.
use Rattle.parts.proofs.Laws.{word_yes, word_no}
use Rattle.parts.proofs.read_property_word.Goals as goal

pub returns-then-is_property : goal.returns-then-is_property
returns-then-is_property c = search word_yes

pub returns : goal.returns
returns c = rw c.at.ensures (search word_no)
