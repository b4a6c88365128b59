-- The bits and the reset of a field where it is instantiated.
use Rattle.std.specs.Prelude.{ℕ, suc, ◌+◌, ◌-◌, Option, Some, None}
use Rattle.parts.specs.declared.Array.{Array}
use Rattle.parts.specs.declared.Array.TheVariants as array
use Rattle.parts.specs.declared.Instance.{Instance}
use Rattle.fields.specs.declared.BitPlace.{BitPlace}
use Rattle.fields.specs.declared.FieldType.{FieldType}
use Rattle.fields.specs.declared.FieldAt.{FieldAt}
use Rattle.expressions.specs.declared.Number.{Number}

-- "`[n]` is a width, none is 1"
abbrev pub width_in : Array → ℕ
width_in array.Missing = 1
width_in (array.Size mark n) = n.value
width_in (array.Range mark left right) = suc left.value - right.value

-- "Without a range, a field starts one above the previous declared field's top bit": `next` is that bit, "the first at 0"
abbrev pub low_bit : BitPlace → Array → BitPlace
low_bit next array.Missing = next
low_bit next (array.Size mark n) = next
low_bit next (array.Range mark left right) = record { 0 = right.value }

abbrev pub high_bit : BitPlace → Array → BitPlace
high_bit next array.Missing = next
high_bit next (array.Size mark n) = record { 0 = next.0 + (n.value - 1) }
high_bit next (array.Range mark left right) = record { 0 = left.value }

-- "An instance reset beats the property"
abbrev pub own_reset : Option (ℕ × Number) → Option ℕ → Option ℕ
own_reset None type = type
own_reset (Some (mark, n)) type = Some n.value

-- a field of a register: its bits, its access and effects, and its own reset
unfoldable pub field_at : BitPlace → Instance → FieldType → FieldAt
field_at next i f =
    record {
      low = low_bit next i.array;
      high = high_bit next i.array;
      values = record { sw = f.sw; hw = f.hw; onread = f.onread; onwrite = f.onwrite; reset = own_reset i.reset f.reset };
    }
