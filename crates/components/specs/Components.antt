-- The components of a text with their effective values.
use Rattle.parts.specs.declared.Kind.{Kind}
use Rattle.parts.specs.declared.Kind.TheVariants as kind
use Rattle.fields.specs.Codes.{access_code, read_code, write_code}
use Rattle.fields.specs.declared.AccessRight.TheVariants as access
use Rattle.fields.specs.declared.ReadEffect.TheVariants as onread
use Rattle.fields.specs.declared.WriteEffect.TheVariants as onwrite
use Rattle.basics.specs.Given.{or_else}
use Rattle.properties.specs.declared.Settings.{Settings}
use Rattle.fields.specs.declared.FieldType.{FieldType}
use Rattle.fields.specs.declared.Register.{Register}
use Rattle.components.specs.declared.Component.{Component}
use Rattle.components.specs.declared.Component.TheVariants as component
use Rattle.fields.specs.Fields.{standard_width}
use Rattle.std.specs.Prelude.{Option, Some, None, ℕ}
use Rattle.expressions.specs.declared.Number.{Number}
use Rattle.fields.specs.declared.Offset.{Offset}

-- "both default to `rw`"; a field without an effect keeps what is read and takes what is written
abbrev pub field_type : Settings → FieldType
field_type s =
    record {
      sw = or_else (access_code access.Rw) s.sw;
      hw = or_else (access_code access.Rw) s.hw;
      onread = or_else (read_code onread.Kept) s.onread;
      onwrite = or_else (write_code onwrite.Plain) s.onwrite;
      reset = s.reset;
    }

-- "`accesswidth` defaults to `regwidth`"
abbrev pub register_of : Settings → Register
register_of s =
    let width = or_else standard_width s.regwidth in
    record { width = width; access = or_else width s.accesswidth }

-- a component of the effective settings of its body
unfoldable pub component_of : Kind → Settings → Component
component_of kind.Addrmap s = component.Addrmap s.alignment s.addressing
component_of kind.Regfile s = component.Regfile s.alignment
component_of kind.Reg s = component.Register (register_of s)
component_of kind.Field s = component.Field (field_type s)

abbrev pub kind_of : Component → Kind
kind_of (component.Field f) = kind.Field
kind_of (component.Register r) = kind.Reg
kind_of (component.Regfile a) = kind.Regfile
kind_of (component.Addrmap a m) = kind.Addrmap

-- "An instance with `@` starts there", at a byte's offset in its body
abbrev pub start_of : Option (ℕ × Number) → Option Offset
start_of None = None
start_of (Some (mark, n)) = Some (record { 0 = n.value })
