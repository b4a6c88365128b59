-- The token at the cursor, beside the cursor.
use Rattle.parts.proofs.Laws.{look_at}
use Rattle.parts.proofs.look.Goals as goal

pub returns : goal.returns
returns c = search look_at
