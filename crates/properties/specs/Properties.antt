-- Rules 7, 8 and 9: a property statement in a body.
use Rattle.std.specs.Prelude.{not, List, ℕ, Option, Some, None}
use Rattle.vocabulary.specs.Vocabulary.{property_of}
use Rattle.parts.specs.declared.Kind.{Kind}
use Rattle.parts.specs.declared.Assignment.{Assignment}
use Rattle.property_values.specs.Settings.{is_allowed, slot_of, setting_of, refusal_in, value_place}
use Rattle.property_values.specs.declared.Slot.{Slot}
use Rattle.identifiers.specs.Names.{bytes_of}
use Rattle.basics.specs.Judged.{Judged, fault, fine, unless}
use Rattle.basics.specs.Given.{is_given}
use Rattle.properties.specs.Assigned.{given_in, settings_of, assigned}
use Rattle.properties.specs.declared.Assigned.{Assigned}
use Rattle.vocabulary.specs.declared.Property.{Property}

-- 9: "value of wrong kind or range"
unfoldable pub judge_value : Assigned → Assignment → Slot → Option ℕ → Judged Assigned
judge_value a p l (Some n) = fine (assigned p.defaulted a l n)
judge_value a p l None = fault 9 (value_place p.start p.value)

-- "No .. range over a refused part is judged": 9 at the operator that refuses the value
abbrev pub judge_settled : Assigned → Assignment → Slot → Option ℕ → Option ℕ → Judged Assigned
judge_settled a p l None s = judge_value a p l s
judge_settled a p l (Some place) s = fault 9 place

-- 7: "property unknown or not for this component or default"; 8: "set, or defaulted, twice in a body"
unfoldable pub judge_known : Kind → Assigned → Assignment → Option Property → Judged Assigned
judge_known k a p None = fault 7 p.start
judge_known k a p (Some q) =
    unless (not (is_allowed p.defaulted q k)) 7 p.start
    (unless (is_given (given_in (settings_of p.defaulted a) (slot_of q))) 8 p.start (judge_settled a p (slot_of q) (refusal_in q p.value) (setting_of q p.value)))

unfoldable pub judge_property : List ℕ → Kind → Assigned → Assignment → Judged Assigned
judge_property text k a p = judge_known k a p (property_of (bytes_of text p.start p.end))
