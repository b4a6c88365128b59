-- The rows of a text's registers: "the registers, addresses, fields .. are those that the rules give".
use Rattle.std.specs.Prelude.{List, [], ◌∷◌, ℕ, Option, Some, None}
use Rattle.parts.specs.declared.Name.{Name}
use Rattle.identifiers.specs.Names.{bytes_of}
use Rattle.fields.specs.Fields.{standard_register}
use Rattle.fields.specs.declared.BitPlace.{BitPlace}
use Rattle.fields.specs.declared.Register.{Register}
use Rattle.components.specs.declared.Component.{Component}
use Rattle.components.specs.declared.Component.TheVariants as component
use Rattle.cells.specs.Definitions.{Child, Definition, definition_of}
use Rattle.closing_rules.specs.Registers.{placement, bit_above, first_bit}
use Rattle.rows.specs.Rows.{Step, Field, Entry}
use Rattle.map_rules.specs.Visits.{PathStep, Visit}
use Rattle.fields.specs.declared.FieldAt.{FieldAt}

-- a name's bytes
abbrev pub bytes_in : List ℕ → Name → List ℕ
bytes_in text n = bytes_of text n.start n.end

unfoldable pub steps_of : List ℕ → List PathStep → List Step
steps_of text [] = []
steps_of text (s ∷ path) = record { name = bytes_in text s.name; index = s.index } ∷ steps_of text path

abbrev pub with_field : List ℕ → Option FieldAt → List Field → List Field
with_field name (Some f) fs = record { name = name; at = f } ∷ fs
with_field name None fs = fs

-- "Fields come as declared", the first from the bit `next` on
unfoldable pub row_fields : List ℕ → List Definition → BitPlace → List Child → List Field
row_fields text table next [] = []
row_fields text table next (c ∷ cs) =
    let p = placement (definition_of table c.type).component next c.instance in
    with_field (bytes_in text c.instance.name) p (row_fields text table (bit_above p next) cs)

-- the widths of a register
abbrev pub widths_of : Component → Register
widths_of (component.Field f) = standard_register
widths_of (component.Register r) = r
widths_of (component.Regfile a) = standard_register
widths_of (component.Addrmap a m) = standard_register

abbrev pub entry_of : List ℕ → List Definition → Visit → Entry
entry_of text table v =
    let d = definition_of table v.type in
    record {
      path = steps_of text v.path;
      address = v.address;
      register = widths_of d.component;
      fields = row_fields text table first_bit d.instances;
    }

unfoldable pub entries_of : List ℕ → List Definition → List Visit → List Entry
entries_of text table [] = []
entries_of text table (v ∷ vs) = entry_of text table v ∷ entries_of text table vs
