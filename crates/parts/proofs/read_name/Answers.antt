-- A name is read from its first byte to its last; any other word is refused at its start.
use Rattle.parts.proofs.Laws.{name_yes, name_no}
use Rattle.parts.proofs.read_name.Goals as goal

pub returns-then-is_name : goal.returns-then-is_name
returns-then-is_name c = search name_yes

pub returns : goal.returns
returns c = rw c.at.ensures (search name_no)
