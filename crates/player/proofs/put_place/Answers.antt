-- The number and the column, each behind its word, poured one after another.
use Rattle.player.proofs.Texts.{place_pours}
use Rattle.player.proofs.put_place.Goals as goal

pub returns : goal.returns
returns c = search place_pours
