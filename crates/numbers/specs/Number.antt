-- Numbers (document 01, "Words"): decimal, `0x` or `0X` hex, or width `'b` `'d` `'h` digits.
use Rattle.std.specs.Prelude.{Bool, false, ◌||◌, ◌&&◌, List, [], ◌∷◌, ℕ, ◌+◌, ◌-◌, ◌*◌, ◌^◌, eqb, leb, ltb, length, take, drop, get_or, Result, Ok, Err, Option, Some, None}
use Prim.Native.Char.{code}
use Rattle.std.specs.Prelude.{if◌then◌else◌}
use Rattle.chars.specs.Ascii.{is_within, is_digit, is_spaced_digit}
use Rattle.chars.specs.Run.{run, every}
use Rattle.chars.specs.declared.Radix.{Radix}
use Rattle.chars.specs.declared.Radix.TheVariants.{Binary, Decimal, Hex}
use Rattle.numbers.specs.declared.BadNumber.{BadNumber}
use Rattle.numbers.specs.declared.BadNumber.TheVariants.{Malformed, TooWide}

-- the value of a digit, in either case
unfoldable pub digit_value : ℕ → ℕ
digit_value b =
    if is_within (code "0") (code "9") b then b - code "0" else
    if is_within (code "a") (code "f") b then b - code "a" + 10 else
    if is_within (code "A") (code "F") b then b - code "A" + 10 else
    0

-- digits of the value `n` and one byte more; an underscore adds nothing
unfoldable pub next_value : ℕ → ℕ → ℕ → ℕ
next_value base n b = if eqb b (code "_") then n else n * base + digit_value b

-- the value of the digits `s` behind digits of the value `n`
unfoldable pub value_from : ℕ → ℕ → List ℕ → ℕ
value_from base n [] = n
value_from base n (b ∷ s) = value_from base (next_value base n b) s

abbrev pub value : ℕ → List ℕ → ℕ
value base s = value_from base 0 s

-- a value that has to fit some bits
unfoldable pub fitting : ℕ → ℕ → Result ℕ BadNumber
fitting bits n = if ltb n (2 ^ bits) then Ok n else Err TooWide

abbrev pub base_of : Radix → ℕ
base_of Binary = 2
base_of Decimal = 10
base_of Hex = 16

-- `'b` `'d` `'h`, lower case
unfoldable pub radix_of : ℕ → Option Radix
radix_of b =
    if eqb b (code "b") then Some Binary else
    if eqb b (code "d") then Some Decimal else
    if eqb b (code "h") then Some Hex else
    None

-- one digit or more, and nothing else
unfoldable pub plain_digits : Radix → List ℕ → Bool
plain_digits r [] = false
plain_digits r (b ∷ s) = every (is_digit r) (b ∷ s)

-- one digit or more, "underscores only after the first digit"
unfoldable pub spaced_digits : Radix → List ℕ → Bool
spaced_digits r [] = false
spaced_digits r (b ∷ s) = is_digit r b && every (is_spaced_digit r) s

-- "width 1 to 64": the width that digits give, and 0 where they give none
unfoldable pub width_of : List ℕ → ℕ
width_of digits = if leb (value 10 digits) 64 then value 10 digits else 0

-- "a number must fit 64 bits, and its width if given"
unfoldable pub sized_number : ℕ → Option Radix → List ℕ → Result ℕ BadNumber
sized_number width None digits = Err Malformed
sized_number width (Some r) digits =
    if ltb 0 width && spaced_digits r digits then fitting width (value (base_of r) digits) else Err Malformed

-- a number with a `'` at the place `k`, behind its width
unfoldable pub sized_at : List ℕ → ℕ → Result ℕ BadNumber
sized_at n k =
    if eqb (get_or n k 0) (code "'") then sized_number (width_of (take k n)) (radix_of (get_or n (k + 1) 0)) (drop (k + 2) n) else Err Malformed

-- `0x` or `0X`
unfoldable pub hex_prefixed : List ℕ → Bool
hex_prefixed n = eqb (get_or n 0 0) (code "0") && (eqb (get_or n 1 0) (code "x") || eqb (get_or n 1 0) (code "X"))

unfoldable pub hex_number : List ℕ → Result ℕ BadNumber
hex_number digits = if plain_digits Hex digits then fitting 64 (value 16 digits) else Err Malformed

-- the number that the bytes `n` are: all bytes of a number, so that nothing follows it directly
unfoldable pub number_of : List ℕ → Result ℕ BadNumber
number_of n =
    if plain_digits Decimal n then fitting 64 (value 10 n) else
    if hex_prefixed n then hex_number (drop 2 n) else
    sized_at n (length (run (is_digit Decimal) n))
