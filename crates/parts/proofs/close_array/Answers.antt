-- The closing bracket ends the array; any other word is refused by 3.
use Rattle.parts.proofs.Laws.{closed_ahead, closed-refused}
use Rattle.parts.proofs.close_array.Goals as goal

pub returns-then-is_mark : goal.returns-then-is_mark
returns-then-is_mark c = search closed_ahead

pub returns : goal.returns
returns c = rw c.at.ensures (search closed-refused)
