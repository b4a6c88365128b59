-- A place's share of the text gives its shelf; no share is empty.
use borrow.Author.Rules.{rules}
use Rattle.recall.proofs.Kept.{reach_some, shelf_made}
use Rattle.recall.proofs.shelf_of.Goals as goal

pub nonzero_div-result : goal.nonzero_div-result
nonzero_div-result c = search (rules, reach_some)

pub returns : goal.returns
returns c = shelf_made _ _ c.reach.ensures
