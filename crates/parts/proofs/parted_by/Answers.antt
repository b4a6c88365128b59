-- A semicolon makes the instance the last of its list, a comma not; any other word is refused by 3.
use Rattle.parts.proofs.Laws.{parted_last, parted_more, parted_no}
use Rattle.parts.proofs.parted_by.Goals as goal

pub returns-then-is_mark : goal.returns-then-is_mark
returns-then-is_mark c = search (parted_last)

pub returns-then-is_mark-2 : goal.returns-then-is_mark-2
returns-then-is_mark-2 c = search (parted_more)

pub returns-else-is_mark-2 : goal.returns-else-is_mark-2
returns-else-is_mark-2 c = rw c.at.ensures (search (parted_no))
