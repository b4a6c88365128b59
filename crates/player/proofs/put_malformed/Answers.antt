-- The place and what was expected, poured one after another.
use Rattle.player.proofs.Texts.{malformed_pours}
use Rattle.player.proofs.put_malformed.Goals as goal

pub returns : goal.returns
returns c = search malformed_pours
