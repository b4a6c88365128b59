-- A kind word and what follows it make a header; any other word is refused by 3 at its start.
use Rattle.parts.proofs.Laws.{header_kind, header_other}
use Rattle.parts.proofs.read_header.Goals as goal

pub returns-in-Some : goal.returns-in-Some
returns-in-Some c = search (header_kind)

pub returns-in-None : goal.returns-in-None
returns-in-None c = rw c.at.ensures (search (header_other))
