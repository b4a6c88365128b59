-- The semicolon ends the statement; any other word is refused by 3.
use Rattle.parts.proofs.Laws.{closed_yes, closed_no}
use Rattle.parts.proofs.close_setting.Goals as goal

pub returns-then-is_mark : goal.returns-then-is_mark
returns-then-is_mark c = search closed_yes

pub returns : goal.returns
returns c = rw c.at.ensures (search closed_no)
