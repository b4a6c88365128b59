-- A map whose rows are lawful, said of the map itself: names, ranges, and the rules 12 to 15, 18 and 20.
use Rattle.std.specs.Prelude.{◌≡◌, true, List, [], ◌∷◌, ℕ, ◌+◌, ◌/◌, ◌%◌, ◌<◌, ◌≤◌, length, Option, Some, None}
use Rattle.chars.specs.Ascii.{is_letter, is_name_byte}
use Rattle.chars.specs.Run.{every}
use Rattle.fields.specs.Codes.{is_width}
use Rattle.basics.specs.All.{All}
use Rattle.basics.specs.Limits.{nest_limit, register_limit, field_limit, array_limit, address_end}
use Rattle.rows.specs.Rows.{Step, Field, Entry, Map}
use Rattle.rows.specs.Lawful.{is_ranged, is_sound_field}

-- "letter or underscore, then all letters, digits, underscores that follow, at most 31 bytes"
pub data SoundName : List ℕ → Type 0 where
  sound_name : {b : ℕ} {bs : List ℕ} → is_letter b ≡ true → every is_name_byte bs ≡ true → length bs ≤ 30 → SoundName (b ∷ bs)

-- "names with indices in range"
pub data SoundIndex : Option ℕ → Type 0 where
  no_index : SoundIndex None
  index : {k : ℕ} → k < array_limit → SoundIndex (Some k)

pub record SoundStep (s : Step) : Type 0 where
  pub name : SoundName s.name
  pub index : SoundIndex s.index

-- the ranges, 12, 13 and 15
pub record SoundField (width : ℕ) (f : Field) : Type 0 where
  pub name : SoundName f.name
  pub ranged : is_ranged f.at ≡ true
  pub sound : is_sound_field width f.at ≡ true

-- the ranges, 14, 18 and 20
pub record SoundEntry (e : Entry) : Type 0 where
  pub path : All SoundStep e.path
  pub some : 1 ≤ length e.path
  pub deep : length e.path ≤ nest_limit
  pub width : is_width e.register.width ≡ true
  pub access : is_width e.register.access ≡ true
  pub order : e.register.access ≤ e.register.width
  pub part : e.address.0 % (e.register.access / 8) ≡ 0
  pub end : e.address.0 + e.register.width / 8 ≤ address_end
  pub held : 1 ≤ length e.fields
  pub fields : All (SoundField e.register.width) e.fields

unfoldable pub fields_in : List Entry → ℕ
fields_in [] = 0
fields_in (e ∷ es) = length e.fields + fields_in es

pub record SoundMap (m : Map) : Type 0 where
  pub name : SoundName m.name
  pub entries : All SoundEntry m.entries
  pub some : 1 ≤ length m.entries
  pub few : length m.entries ≤ register_limit
  pub fields : fields_in m.entries ≤ field_limit
