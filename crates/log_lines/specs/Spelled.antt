-- The spellings of a number in a log: "Numbers in the log are decimal or `0x` hex in either case", with as many leading zeros as one likes.
use Rattle.std.specs.Prelude.{true, ◌≡◌, List, [], ◌∷◌, ◌++◌, ℕ, ◌^◌, ◌<◌}
use Rattle.chars.specs.Ascii.{bytes}
use Rattle.chars.specs.declared.Radix.TheVariants.{Decimal, Hex}
use Rattle.numbers.specs.Number.{value, plain_digits}
use Rattle.model.specs.declared.Access.{Access}
use Rattle.model.specs.declared.Access.TheVariants.{Read, Write}

-- one decimal digit or more, or `0x` or `0X` and one hex digit or more, of the value `n`
pub data Spelled (n : ℕ) : List ℕ → Type 0 where
  spelled_decimal : {s : List ℕ} → plain_digits Decimal s ≡ true → value 10 s ≡ n → Spelled n s
  spelled_hex : {s : List ℕ} → plain_digits Hex s ≡ true → value 16 s ≡ n → Spelled n (bytes "0x" ++ s)
  spelled_upper : {s : List ℕ} → plain_digits Hex s ≡ true → value 16 s ≡ n → Spelled n (bytes "0X" ++ s)

-- the lines of a read and a write, whose numbers are spelled so
abbrev pub read_line : List ℕ → List ℕ → List ℕ
read_line width address = bytes "read " ++ (width ++ (bytes " " ++ address))

abbrev pub write_line : List ℕ → List ℕ → List ℕ → List ℕ
write_line width address word = bytes "write " ++ (width ++ (bytes " " ++ (address ++ (bytes " " ++ word))))

-- "at most 64 bits": all numbers of an access
abbrev pub Numbers64 : Access → Type 0
Numbers64 (Read a w) = (w < 2 ^ 64) × (a.0 < 2 ^ 64)
Numbers64 (Write a w x) = (w < 2 ^ 64) × (a.0 < 2 ^ 64) × (x < 2 ^ 64)

-- what may stand between a line and its LF: nothing, or a CR
pub data Ends : List ℕ → Type 0 where
  ends_bare : Ends []
  ends_return : Ends (13 ∷ [])

-- the lines of an access: every spelling of its numbers, each of "at most 64 bits", with either end
pub data Written : Access → List ℕ → Type 0 where
  written_read : {w a : ℕ} {ws bs end : List ℕ} → Spelled w ws → Spelled a bs → w < 2 ^ 64 → a < 2 ^ 64 → Ends end
      → Written (Read (record { 0 = a }) w) (read_line ws bs ++ end)
  written_write : {w a x : ℕ} {ws bs xs end : List ℕ} → Spelled w ws → Spelled a bs → Spelled x xs → w < 2 ^ 64 → a < 2 ^ 64 → x < 2 ^ 64 → Ends end
      → Written (Write (record { 0 = a }) w x) (write_line ws bs xs ++ end)

-- the lines that are skipped: "empty lines and lines that begin with `#`"
pub data Passed : List ℕ → Type 0 where
  passed_empty : {end : List ℕ} → Ends end → Passed end
  passed_comment : {bs : List ℕ} → Passed (bytes "#" ++ bs)
