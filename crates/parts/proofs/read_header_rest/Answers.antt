-- A brace ends a header without a name; a name and then a brace end one with a name; any other word is refused.
use borrow.Author.Tests.{not-false, not-true}
use Rattle.parts.proofs.Laws.{header_unnamed, header_no, header_braceless, header_named}
use Rattle.parts.proofs.read_header_rest.Goals as goal

pub returns-then-is_mark : goal.returns-then-is_mark
returns-then-is_mark c = search (header_unnamed)

pub returns-then-not-is_name : goal.returns-then-not-is_name
returns-then-not-is_name c = rw c.at.ensures (search (header_no, not-true))

pub returns-then-not-is_mark : goal.returns-then-not-is_mark
returns-then-not-is_mark c = rw c.at-then-not-is_mark.ensures (search (header_braceless, not-false, not-true))

pub returns : goal.returns
returns c = search (header_named, not-false)
