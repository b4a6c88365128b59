-- What is judged at a closing brace: 10 for a missing instance, 12 for a field, 13 to 17 for a register.
use Rattle.std.specs.Prelude.{Bool, true, false, ◌||◌, List, [], ◌∷◌, ℕ, suc, ltb, Option, Some, None}
use Rattle.std.specs.Prelude.{if◌then◌else◌}
use Rattle.fields.specs.Fields.{breaks, has_unusable_effect}
use Rattle.components.specs.Fields.{field_at}
use Rattle.fields.specs.declared.BitPlace.{BitPlace}
use Rattle.fields.specs.declared.FieldType.{FieldType}
use Rattle.fields.specs.declared.FieldAt.{FieldAt}
use Rattle.fields.specs.declared.Register.{Register}
use Rattle.components.specs.declared.Component.{Component}
use Rattle.components.specs.declared.Component.TheVariants as component
use Rattle.parts.specs.declared.Instance.{Instance}
use Rattle.fields.specs.declared.Probe.{Probe}
use Rattle.fields.specs.declared.Probe.TheVariants.{Wide, Outside, Overlap, Span}
use Rattle.cells.specs.Definitions.{Child, Definition, definition_of}

-- an instance as a field of a register, if its type is one
abbrev pub placement : Component → BitPlace → Instance → Option FieldAt
placement (component.Field f) next i = Some (field_at next i f)
placement (component.Register r) next i = None
placement (component.Regfile a) next i = None
placement (component.Addrmap a m) next i = None

-- the bit above a field, where the next one starts unless it has a range
abbrev pub bit_above : Option FieldAt → BitPlace → BitPlace
bit_above (Some f) next = record { 0 = suc f.high.0 }
bit_above None next = next

abbrev pub with_placed : Option FieldAt → List FieldAt → List FieldAt
with_placed (Some f) fs = f ∷ fs
with_placed None fs = fs

-- the fields of a register, as declared, the first from the bit `next` on
unfoldable pub fields_from : List Definition → BitPlace → List Child → List FieldAt
fields_from table next [] = []
fields_from table next (c ∷ cs) =
    let p = placement (definition_of table c.type).component next c.instance in
    with_placed p (fields_from table (bit_above p next) cs)

abbrev pub first_bit : BitPlace
first_bit = record { 0 = 0 }

abbrev pub fields_of : List Definition → List Child → List FieldAt
fields_of table cs = fields_from table first_bit cs

-- whether some field breaks a rule
unfoldable pub some : Probe → List FieldAt → Bool
some p [] = false
some p (f ∷ fs) = breaks p f || some p fs

-- 16: whether some field overlaps a later one
unfoldable pub overlaps : List FieldAt → Bool
overlaps [] = false
overlaps (f ∷ fs) = some (Overlap f) fs || overlaps fs

-- the smallest number of 13 to 17 that a register breaks, and 0 for none: "reset too wide; access above register width; field outside;
-- fields overlap; field spans access parts"
unfoldable pub register_fault : Register → List FieldAt → ℕ
register_fault r fs =
    if some Wide fs then 13 else
    if ltb r.width r.access then 14 else
    if some (Outside r.width) fs then 15 else
    if overlaps fs then 16 else
    if some (Span r.access) fs then 17 else
    0

-- 12: an effect that the access does not allow
abbrev pub effect_fault : FieldType → ℕ
effect_fault f = if has_unusable_effect f then 12 else 0

abbrev pub is_empty : List Child → Bool
is_empty [] = true
is_empty (c ∷ cs) = false

-- the smallest number that a body breaks at its closing brace, and 0 for none: "Every body but a field's needs at least one instance"
unfoldable pub closing_fault : List Definition → Component → List Child → ℕ
closing_fault table (component.Field f) cs = effect_fault f
closing_fault table (component.Register r) cs = if is_empty cs then 10 else register_fault r (fields_of table cs)
closing_fault table (component.Regfile a) cs = if is_empty cs then 10 else 0
closing_fault table (component.Addrmap a m) cs = if is_empty cs then 10 else 0
