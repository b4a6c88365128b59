-- `default` is passed if it stands there; then comes the property word.
use Rattle.parts.proofs.Laws.{property_default, property_own}
use Rattle.parts.proofs.read_property.Goals as goal

pub returns-then-is_default : goal.returns-then-is_default
returns-then-is_default c = search property_default

pub returns : goal.returns
returns c = search property_own
