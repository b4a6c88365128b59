-- From 64 bits on every number fits; below, the shifted 1 is the power of two that it is held against.
use borrow.Author.Rules.{rules}
use Rattle.fields.proofs.Laws.{more_all, more_some}
use Rattle.fields.proofs.needs_more.Goals as goal

pub returns-then-bits-ge64 : goal.returns-then-bits-ge64
returns-then-bits-ge64 c = search (rules, more_all)

pub returns : goal.returns
returns c = search (rules, more_some)
