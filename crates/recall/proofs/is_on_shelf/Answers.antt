-- An empty shelf holds no place, another the one that is one below its first cell.
use Rattle.recall.proofs.Keeping.{shelf_empty, shelf_full}
use Rattle.recall.proofs.is_on_shelf.Goals as goal

pub returns-then-key-eq0 : goal.returns-then-key-eq0
returns-then-key-eq0 c = search shelf_empty

pub returns : goal.returns
returns c = search shelf_full
