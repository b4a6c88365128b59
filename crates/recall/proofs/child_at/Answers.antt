-- What stands on the shelf of a place is what the text gives there.
use Rattle.recall.proofs.Keeping.{shelf_child}
use Rattle.recall.proofs.child_at.Goals as goal

pub returns-then-is_on_shelf : goal.returns-then-is_on_shelf
returns-then-is_on_shelf c = search shelf_child
