-- What the properties of a body are set to.
use Rattle.std.specs.Prelude.{Bool, true, false, ℕ, eqb, Option, Some, None}
use Rattle.std.specs.Option.{option_or}
use Rattle.property_values.specs.declared.Slot.{Slot}
use Rattle.property_values.specs.declared.Slot.TheVariants as slot
use Rattle.properties.specs.declared.Settings.{Settings}
use Rattle.properties.specs.declared.Assigned.{Assigned}

abbrev pub slot_number : Slot → ℕ
slot_number slot.Sw = 0
slot_number slot.Hw = 1
slot_number slot.Reset = 2
slot_number slot.Onread = 3
slot_number slot.Onwrite = 4
slot_number slot.Regwidth = 5
slot_number slot.Accesswidth = 6
slot_number slot.Alignment = 7
slot_number slot.Addressing = 8
slot_number slot.Name = 9
slot_number slot.Desc = 10

abbrev pub given_in : Settings → Slot → Option ℕ
given_in s slot.Sw = s.sw
given_in s slot.Hw = s.hw
given_in s slot.Reset = s.reset
given_in s slot.Onread = s.onread
given_in s slot.Onwrite = s.onwrite
given_in s slot.Regwidth = s.regwidth
given_in s slot.Accesswidth = s.accesswidth
given_in s slot.Alignment = s.alignment
given_in s slot.Addressing = s.addressing
given_in s slot.Name = s.name
given_in s slot.Desc = s.desc

abbrev pub replaced : Bool → ℕ → Option ℕ → Option ℕ
replaced true n old = Some n
replaced false n old = old

-- one property set to a number
unfoldable pub assign : Settings → Slot → ℕ → Settings
assign s l n =
    let k = slot_number l in
    record {
      sw = replaced (eqb k 0) n s.sw;
      hw = replaced (eqb k 1) n s.hw;
      reset = replaced (eqb k 2) n s.reset;
      onread = replaced (eqb k 3) n s.onread;
      onwrite = replaced (eqb k 4) n s.onwrite;
      regwidth = replaced (eqb k 5) n s.regwidth;
      accesswidth = replaced (eqb k 6) n s.accesswidth;
      alignment = replaced (eqb k 7) n s.alignment;
      addressing = replaced (eqb k 8) n s.addressing;
      name = replaced (eqb k 9) n s.name;
      desc = replaced (eqb k 10) n s.desc;
    }

abbrev pub nearer : Option ℕ → Option ℕ → Option ℕ
nearer near outer = option_or near outer

-- "the nearest wins, an own setting beats it"
unfoldable pub nearest : Settings → Settings → Settings
nearest near far =
    record {
      sw = nearer near.sw far.sw;
      hw = nearer near.hw far.hw;
      reset = nearer near.reset far.reset;
      onread = nearer near.onread far.onread;
      onwrite = nearer near.onwrite far.onwrite;
      regwidth = nearer near.regwidth far.regwidth;
      accesswidth = nearer near.accesswidth far.accesswidth;
      alignment = nearer near.alignment far.alignment;
      addressing = nearer near.addressing far.addressing;
      name = nearer near.name far.name;
      desc = nearer near.desc far.desc;
    }

abbrev pub no_settings : Settings
no_settings =
    record {
      sw = None;
      hw = None;
      reset = None;
      onread = None;
      onwrite = None;
      regwidth = None;
      accesswidth = None;
      alignment = None;
      addressing = None;
      name = None;
      desc = None;
    }

abbrev pub nothing_assigned : Assigned
nothing_assigned = record { own = no_settings; defaults = no_settings }

-- a body's defaults, or its own settings
abbrev pub settings_of : Bool → Assigned → Settings
settings_of true a = a.defaults
settings_of false a = a.own

unfoldable pub assigned : Bool → Assigned → Slot → ℕ → Assigned
assigned true a l n = record { own = a.own; defaults = assign a.defaults l n }
assigned false a l n = record { own = assign a.own l n; defaults = a.defaults }
