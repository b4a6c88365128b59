-- A keyword is a value exactly where its role says so.
use Rattle.parts.proofs.keyword_value.Goals as goal

pub returns-then-role_value : goal.returns-then-role_value
returns-then-role_value c = rw (← c.role_of.ensures, ← c.role_value.ensures, c.if-role_value.true)

pub returns : goal.returns
returns c = rw (← c.role_of.ensures, ← c.role_value.ensures, c.if-role_value.false)
