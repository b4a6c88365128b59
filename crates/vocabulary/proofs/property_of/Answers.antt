-- The three lists, tested one behind the other, are the list of all properties.
use Rattle.vocabulary.proofs.Laws.{entry-behind}
use mathlib.Core.List.{◌++◌}
use Rattle.vocabulary.specs.Vocabulary.{property_of, property_name, access_properties, effect_properties, other_properties}
use Rattle.vocabulary.proofs.property_of.Goals as goal
use Rattle.std.specs.Prelude.{Some, None}

pub returns : goal.returns
unfolding property_of
returns c = (entry-behind property_name Some None _ access_properties (effect_properties ++ other_properties) c.access_property.ensures (entry-behind property_name Some None _ effect_properties other_properties c.effect_property-effect.ensures c.other_property-other.ensures))
