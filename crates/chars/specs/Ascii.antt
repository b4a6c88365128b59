-- The classes of bytes that document 01, "Words", names. A byte is its number.
use Rattle.std.specs.Prelude.{Bool, ◌||◌, ◌&&◌, List, [], ◌∷◌, ℕ, eqb, leb}
use Prim.Native.Char.{code}
use Prim.Native.String.{String, [] as []ˢ, ◌∷◌ as ◌∷ˢ◌}
use Rattle.chars.specs.declared.Radix.{Radix}
use Rattle.chars.specs.declared.Radix.TheVariants.{Binary, Decimal, Hex}
use Rattle.chars.specs.declared.Class.{Class}
use Rattle.chars.specs.declared.Class.TheVariants.{Name, Number, Digits, Spaced}

-- the bytes of a text of ASCII characters
abbrev pub bytes : String → List ℕ
bytes []ˢ = []
bytes (◌∷ˢ◌ c s) = code c ∷ bytes s

-- from `low` to `high`
unfoldable pub is_within : ℕ → ℕ → ℕ → Bool
is_within low high b = leb low b && leb b high

-- "Blanks are space, tab, CR, LF": 32, 9, 13, 10
unfoldable pub is_blank : ℕ → Bool
is_blank b = eqb b 32 || (eqb b 9 || (eqb b 13 || eqb b 10))

-- what ends a line comment: LF or CR
unfoldable pub is_line_end : ℕ → Bool
is_line_end b = eqb b 10 || eqb b 13

-- "letter or underscore"
unfoldable pub is_letter : ℕ → Bool
is_letter b = is_within (code "a") (code "z") b || (is_within (code "A") (code "Z") b || eqb b (code "_"))

-- "letters, digits, underscores"
unfoldable pub is_name_byte : ℕ → Bool
is_name_byte b = is_letter b || is_within (code "0") (code "9") b

-- what may not follow a number directly, so that all of it stands in the number: "letter, digit, underscore or `'`"
unfoldable pub is_number_byte : ℕ → Bool
is_number_byte b = is_name_byte b || eqb b (code "'")

-- "hex digits in either case"
unfoldable pub is_hex_digit : ℕ → Bool
is_hex_digit b = is_within (code "0") (code "9") b || (is_within (code "a") (code "f") b || is_within (code "A") (code "F") b)

-- the digits of a radix
abbrev pub is_digit : Radix → ℕ → Bool
is_digit Binary = is_within (code "0") (code "1")
is_digit Decimal = is_within (code "0") (code "9")
is_digit Hex = is_hex_digit

-- a digit, or an underscore between or after digits
unfoldable pub is_spaced_digit : Radix → ℕ → Bool
is_spaced_digit r b = is_digit r b || eqb b (code "_")

-- the classes of which a run is read
abbrev pub in_class : Class → ℕ → Bool
in_class Name = is_name_byte
in_class Number = is_number_byte
in_class (Digits r) = is_digit r
in_class (Spaced r) = is_spaced_digit r
