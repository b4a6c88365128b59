-- Property statements (document 01, "Names, properties, fields"): where a property may stand (7), which property it sets, and to what (9).
use Rattle.std.specs.Prelude.{Bool, true, false, ◌||◌, not, List, [], ◌∷◌, ℕ, zero, suc, ◌^◌, eqb, Option, Some, None}
use Rattle.std.specs.Prelude.{if◌then◌else◌}
use Rattle.vocabulary.specs.declared.Property.{Property}
use Rattle.vocabulary.specs.declared.Property.TheVariants as property
use Rattle.parts.specs.declared.Kind.{Kind}
use Rattle.parts.specs.declared.Kind.TheVariants as kind
use Rattle.parts.specs.declared.Value.{Value}
use Rattle.parts.specs.declared.Value.TheVariants as value
use Rattle.fields.specs.Codes.{read_code, write_code, is_width}
use Rattle.property_values.specs.Terms.{word_term}
use Rattle.fields.specs.declared.ReadEffect.TheVariants as onread
use Rattle.fields.specs.declared.WriteEffect.TheVariants as onwrite
use Rattle.property_values.specs.declared.WordList.{WordList}
use Rattle.property_values.specs.declared.WordList.TheVariants as list
use Rattle.property_values.specs.declared.Term.{Term}
use Rattle.property_values.specs.declared.Term.TheVariants.{Word, Number, Text, Other}
use Rattle.property_values.specs.declared.Group.{Group}
use Rattle.property_values.specs.declared.Group.TheVariants as group
use Rattle.property_values.specs.declared.Slot.{Slot}
use Rattle.property_values.specs.declared.Slot.TheVariants as slot
use Rattle.property_values.specs.declared.Wanted.{Wanted}
use Rattle.property_values.specs.declared.Wanted.TheVariants as wanted

-- "Widths are for reg; access, effects and reset for field; `alignment` for addrmap and regfile; `addressing` for addrmap; `name` and
-- `desc` for all"
abbrev pub group_of : Property → Group
group_of property.Sw = group.OfField
group_of property.Hw = group.OfField
group_of property.Reset = group.OfField
group_of property.Onread = group.OfField
group_of property.Onwrite = group.OfField
group_of property.Rclr = group.OfField
group_of property.Rset = group.OfField
group_of property.Woclr = group.OfField
group_of property.Woset = group.OfField
group_of property.Regwidth = group.OfReg
group_of property.Accesswidth = group.OfReg
group_of property.Alignment = group.OfSpace
group_of property.Addressing = group.OfMap
group_of property.Name = group.OfAll
group_of property.Desc = group.OfAll

abbrev pub is_addrmap : Kind → Bool
is_addrmap kind.Addrmap = true
is_addrmap kind.Regfile = false
is_addrmap kind.Reg = false
is_addrmap kind.Field = false

abbrev pub is_space : Kind → Bool
is_space kind.Addrmap = true
is_space kind.Regfile = true
is_space kind.Reg = false
is_space kind.Field = false

abbrev pub is_reg : Kind → Bool
is_reg kind.Addrmap = false
is_reg kind.Regfile = false
is_reg kind.Reg = true
is_reg kind.Field = false

abbrev pub is_field : Kind → Bool
is_field kind.Addrmap = false
is_field kind.Regfile = false
is_field kind.Reg = false
is_field kind.Field = true

-- the components that a group of properties is for
abbrev pub is_for : Group → Kind → Bool
is_for group.OfField k = is_field k
is_for group.OfReg k = is_reg k
is_for group.OfSpace k = is_space k
is_for group.OfMap k = is_addrmap k
is_for group.OfAll k = true

-- "Only `sw hw reset onread onwrite regwidth accesswidth` (and short forms) may be defaulted, never in a field"
abbrev pub is_defaultable : Group → Kind → Bool
is_defaultable group.OfField k = not (is_field k)
is_defaultable group.OfReg k = not (is_field k)
is_defaultable group.OfSpace k = false
is_defaultable group.OfMap k = false
is_defaultable group.OfAll k = false

-- 7: whether a property, or its default, may stand in a body of a component
unfoldable pub is_allowed : Bool → Property → Kind → Bool
is_allowed true p k = is_defaultable (group_of p) k
is_allowed false p k = is_for (group_of p) k

-- which property is set: "`rclr`, `rset` set `onread`; `woclr`, `woset` set `onwrite`"
abbrev pub slot_of : Property → Slot
slot_of property.Sw = slot.Sw
slot_of property.Hw = slot.Hw
slot_of property.Reset = slot.Reset
slot_of property.Onread = slot.Onread
slot_of property.Onwrite = slot.Onwrite
slot_of property.Rclr = slot.Onread
slot_of property.Rset = slot.Onread
slot_of property.Woclr = slot.Onwrite
slot_of property.Woset = slot.Onwrite
slot_of property.Regwidth = slot.Regwidth
slot_of property.Accesswidth = slot.Accesswidth
slot_of property.Alignment = slot.Alignment
slot_of property.Addressing = slot.Addressing
slot_of property.Name = slot.Name
slot_of property.Desc = slot.Desc

-- what a value is: "A property alone means true"
abbrev pub term_of : Value → Term
term_of value.Missing = Word list.Truth 1
term_of (value.Number n) = Number n.value
term_of (value.String p) = Text
term_of (value.Word k p) = word_term k

-- what a property wants: a word of a list; truth, for the effect of a short form; a number, perhaps of a range; a string
abbrev pub wanted_of : Property → Wanted
wanted_of property.Sw = wanted.Listed list.Access
wanted_of property.Hw = wanted.Listed list.Access
wanted_of property.Reset = wanted.AnyNumber
wanted_of property.Onread = wanted.Listed list.Onread
wanted_of property.Onwrite = wanted.Listed list.Onwrite
wanted_of property.Rclr = wanted.Short (read_code onread.Rclr)
wanted_of property.Rset = wanted.Short (read_code onread.Rset)
wanted_of property.Woclr = wanted.Short (write_code onwrite.Woclr)
wanted_of property.Woset = wanted.Short (write_code onwrite.Woset)
wanted_of property.Regwidth = wanted.Width
wanted_of property.Accesswidth = wanted.Width
wanted_of property.Alignment = wanted.Alignment
wanted_of property.Addressing = wanted.Listed list.Addressing
wanted_of property.Name = wanted.String
wanted_of property.Desc = wanted.String

-- whether `n` is two to some power up to `k`
unfoldable pub is_power_to : ℕ → ℕ → Bool
is_power_to zero n = eqb n 1
is_power_to (suc k) n = eqb n (2 ^ suc k) || is_power_to k n

-- "a power of two up to 65,536"
abbrev pub is_alignment : ℕ → Bool
is_alignment n = is_power_to 16 n

abbrev pub list_number : WordList → ℕ
list_number list.Access = 0
list_number list.Onread = 1
list_number list.Onwrite = 2
list_number list.Addressing = 3
list_number list.Truth = 4

-- a word of the list that is wanted
abbrev pub listed_setting : WordList → Term → Option ℕ
listed_setting l (Word m c) = if eqb (list_number m) (list_number l) then Some c else None
listed_setting l (Number n) = None
listed_setting l Text = None
listed_setting l Other = None

-- a short form's effect: "`= false` sets no effect"
abbrev pub short_setting : ℕ → Term → Option ℕ
short_setting effect (Word m c) =
    if eqb (list_number m) (list_number list.Truth) then (if eqb c 1 then Some effect else Some 0) else None
short_setting effect (Number n) = None
short_setting effect Text = None
short_setting effect Other = None

-- a number that passes a test
abbrev pub number_setting : (ℕ → Bool) → Term → Option ℕ
number_setting test (Word m c) = None
number_setting test (Number n) = if test n then Some n else None
number_setting test Text = None
number_setting test Other = None

abbrev pub text_setting : Term → Option ℕ
text_setting (Word m c) = None
text_setting (Number n) = None
text_setting Text = Some 0
text_setting Other = None

-- the test of a range
abbrev pub in_range : Wanted → ℕ → Bool
in_range (wanted.Listed l) n = false
in_range (wanted.Short e) n = false
in_range wanted.AnyNumber n = true
in_range wanted.Width n = is_width n
in_range wanted.Alignment n = is_alignment n
in_range wanted.String n = false

-- 9: what is set, or `Wrong` for a "value of wrong kind or range"
unfoldable pub setting_as : Wanted → Term → Option ℕ
setting_as (wanted.Listed l) t = listed_setting l t
setting_as (wanted.Short e) t = short_setting e t
setting_as wanted.AnyNumber t = number_setting (in_range wanted.AnyNumber) t
setting_as wanted.Width t = number_setting (in_range wanted.Width) t
setting_as wanted.Alignment t = number_setting (in_range wanted.Alignment) t
setting_as wanted.String t = text_setting t

unfoldable pub setting_of : Property → Value → Option ℕ
setting_of p v = setting_as (wanted_of p) (term_of v)

-- a setting in document 01's numbers: 0, 0 and the number that is set; or 9, whose place is below, and 0
abbrev pub setting_numbers : Option ℕ → List ℕ
setting_numbers (Some n) = 0 ∷ 0 ∷ n ∷ []
setting_numbers None = 9 ∷ 0 ∷ 0 ∷ []

-- the place of a 9: "value, or the property if it has none"
abbrev pub value_place : ℕ → Value → ℕ
value_place p value.Missing = p
value_place p (value.Number n) = n.place
value_place p (value.String s) = s
value_place p (value.Word k s) = s

-- which operator refuses a value
abbrev pub value_refusal : Value → Option ℕ
value_refusal value.Missing = None
value_refusal (value.Number n) = n.refusal
value_refusal (value.String s) = None
value_refusal (value.Word k s) = None

-- "No .. range over a refused part is judged", while the kind is: so it counts where a number is wanted
abbrev pub wanted_refusal : Wanted → Option ℕ → Option ℕ
wanted_refusal (wanted.Listed l) r = None
wanted_refusal (wanted.Short e) r = None
wanted_refusal wanted.AnyNumber r = r
wanted_refusal wanted.Width r = r
wanted_refusal wanted.Alignment r = r
wanted_refusal wanted.String r = None

unfoldable pub refusal_in : Property → Value → Option ℕ
refusal_in p v = wanted_refusal (wanted_of p) (value_refusal v)
