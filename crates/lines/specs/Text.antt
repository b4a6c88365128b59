-- The numbers, words and lines of a listing (document 01, "The listing").
use Rattle.std.specs.Prelude.{List, [], ◌∷◌, ◌++◌, ℕ, zero, suc, ◌+◌, ◌-◌, ◌/◌, ◌%◌, eqb, ltb, Option, Some, None}
use Prim.Native.Char.{code}
use Rattle.chars.specs.Ascii.{bytes}
use Rattle.std.specs.Prelude.{if◌then◌else◌}
use Rattle.fields.specs.Codes.{access_code, read_code, write_code}
use Rattle.fields.specs.declared.AccessRight.TheVariants as access
use Rattle.fields.specs.declared.ReadEffect.TheVariants as onread
use Rattle.fields.specs.declared.WriteEffect.TheVariants as onwrite
use Rattle.fields.specs.declared.FieldAt.{FieldAt}
use Rattle.fields.specs.declared.FieldType.{FieldType}

-- "Hex is lower case without leading zeros": a number's digits, at most `left` and one more of them
unfoldable pub digit_byte : ℕ → ℕ
digit_byte d = if ltb d 10 then code "0" + d else code "a" + (d - 10)

unfoldable pub digits : ℕ → ℕ → ℕ → List ℕ
digits base zero n = digit_byte (n % base) ∷ []
digits base (suc left) n = if ltb n base then (digit_byte (n % base) ∷ []) else (digits base left (n / base) ++ (digit_byte (n % base) ∷ []))

-- a number of 64 bits has at most 20 decimal and 16 hex digits
abbrev pub decimal : ℕ → List ℕ
decimal n = digits 10 19 n

abbrev pub hex : ℕ → List ℕ
hex n = bytes "0x" ++ digits 16 15 n

-- the words of `sw` and `hw`, of `onread` and of `onwrite`
unfoldable pub access_word : ℕ → List ℕ
access_word n =
    if eqb n (access_code access.Na) then bytes "na" else
    if eqb n (access_code access.R) then bytes "r" else
    if eqb n (access_code access.W) then bytes "w" else
    bytes "rw"

unfoldable pub read_word : ℕ → List ℕ
read_word n =
    if eqb n (read_code onread.Kept) then bytes "none" else
    if eqb n (read_code onread.Rclr) then bytes "rclr" else
    bytes "rset"

unfoldable pub on_one_word : ℕ → List ℕ
on_one_word n =
    if eqb n (write_code onwrite.Woset) then bytes "woset" else
    if eqb n (write_code onwrite.Woclr) then bytes "woclr" else
    bytes "wot"

unfoldable pub on_zero_word : ℕ → List ℕ
on_zero_word n =
    if eqb n (write_code onwrite.Wzs) then bytes "wzs" else
    if eqb n (write_code onwrite.Wzc) then bytes "wzc" else
    if eqb n (write_code onwrite.Wzt) then bytes "wzt" else
    if eqb n (write_code onwrite.Wclr) then bytes "wclr" else
    bytes "wset"

unfoldable pub write_word : ℕ → List ℕ
write_word n =
    if eqb n (write_code onwrite.Plain) then bytes "none" else
    if ltb n (write_code onwrite.Wzs) then on_one_word n else
    on_zero_word n

abbrev pub reset_text : Option ℕ → List ℕ
reset_text None = bytes "none"
reset_text (Some n) = hex n

-- a line: a key with its `=`, a value, LF
unfoldable pub line : List ℕ → List ℕ → List ℕ
line key value = key ++ (value ++ (10 ∷ []))

unfoldable pub bits_text : FieldAt → List ℕ
bits_text f = decimal f.high.0 ++ (bytes ":" ++ decimal f.low.0)

-- the lines of a field's access, effects and reset
unfoldable pub value_lines : FieldType → List ℕ
value_lines v =
    line (bytes "sw=") (access_word v.sw) ++ (line (bytes "hw=") (access_word v.hw) ++ (line (bytes "onread=") (read_word v.onread) ++
    (line (bytes "onwrite=") (write_word v.onwrite) ++ line (bytes "reset=") (reset_text v.reset))))
