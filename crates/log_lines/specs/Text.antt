-- How an access is printed, and what was expected where a line of a log goes wrong.
use Rattle.std.specs.Prelude.{List, ◌++◌, ℕ}
use Rattle.chars.specs.Ascii.{bytes}
use Rattle.fields.specs.declared.Offset.{Offset}
use Rattle.lines.specs.Text.{decimal, hex}
use Rattle.model.specs.declared.Access.{Access}
use Rattle.model.specs.declared.Access.TheVariants.{Read, Write}
use Rattle.log_lines.specs.declared.Expected.{Expected}
use Rattle.log_lines.specs.declared.Expected.TheVariants as due

unfoldable pub blank_hex : ℕ → List ℕ
blank_hex n = bytes " " ++ hex n

-- a word with its blank, a width in decimal, an address in hex
unfoldable pub call_text : List ℕ → ℕ → Offset → List ℕ
call_text word width address = word ++ (decimal width ++ blank_hex address.0)

-- "`read 32 0x10`", "`write 32 0x10 0x10000`"
abbrev pub access_text : Access → List ℕ
access_text (Read a w) = call_text (bytes "read ") w a
access_text (Write a w x) = call_text (bytes "write ") w a ++ blank_hex x

abbrev pub expected_text : Expected → List ℕ
expected_text due.Line = bytes "read, write, # or the end of the line"
expected_text due.ReadWord = bytes "the word read"
expected_text due.WriteWord = bytes "the word write"
expected_text due.Blank = bytes "a blank"
expected_text due.Number = bytes "a number"
expected_text due.HexDigit = bytes "a hex digit"
expected_text due.DigitOrBlank = bytes "a digit or a blank"
expected_text due.DigitOrEnd = bytes "a digit or the end of the line"
expected_text due.FewerBits = bytes "a number of at most 64 bits"
expected_text due.End = bytes "the end of the line"
