-- The lines of a log: "`read WIDTH ADDRESS`", "`write WIDTH ADDRESS WORD`"; "Numbers in the log are decimal or `0x` hex in either case, at
-- most 64 bits; one blank between words; lines end in LF (a CR before it belongs to the line's end); empty lines and lines that begin with
-- `#` are skipped." A line is read byte by byte, so that it is the same however the log is cut.
use Rattle.std.specs.Prelude.{Bool, true, false, not, List, [], ◌∷◌, ℕ, suc, ◌-◌, ◌^◌, eqb, ltb, get_or, Result, Ok, Err}
use Prim.Native.Char.{code}
use Rattle.std.specs.Prelude.{if◌then◌else◌}
use Rattle.chars.specs.Ascii.{bytes, is_digit}
use Rattle.chars.specs.declared.Radix.{Radix}
use Rattle.chars.specs.declared.Radix.TheVariants.{Decimal, Hex}
use Rattle.numbers.specs.Number.{next_value, fitting, base_of}
use Rattle.model.specs.declared.Access.{Access}
use Rattle.model.specs.declared.Access.TheVariants.{Read, Write}
use Rattle.log_lines.specs.declared.Expected.{Expected}
use Rattle.log_lines.specs.declared.Expected.TheVariants as due
use Rattle.log_lines.specs.declared.Stage.{Stage}
use Rattle.log_lines.specs.declared.Stage.TheVariants.{Start, Comment, Word, Number, Zero, Prefix, Digits, EmptyEnd, AccessEnd, Broken}
use Rattle.log_lines.specs.declared.Call.{Call}
use Rattle.log_lines.specs.declared.Line.{Line}
use Rattle.log_lines.specs.declared.LogLine.{LogLine}
use Rattle.log_lines.specs.declared.LogLine.TheVariants.{Skipped, Made, Malformed}
use Rattle.numbers.specs.declared.BadNumber.{BadNumber}

-- columns and lines are counted as far as 64 bits go
unfoldable pub counted : ℕ → ℕ
counted n = if ltb n (2 ^ 64 - 1) then suc n else n

-- an access of which nothing but the word is read, and a line of which nothing is
abbrev pub calling : Bool → Call
calling writes = record { writes = writes; whole = 0; earlier = 0; last = 0; value = 0 }

abbrev pub fresh : Line
fresh = record { stage = Start; column = 0; call = calling false }

-- the word of an access with the blank behind it, and its byte behind so many others
abbrev pub word_of : Bool → List ℕ
word_of writes = if writes then bytes "write " else bytes "read "

unfoldable pub letter_at : Bool → ℕ → ℕ
letter_at writes letters = get_or (word_of writes) letters 0

-- whether the number that is being read is the last: a write has three, a read two
unfoldable pub is_last : Call → Bool
is_last c = eqb c.whole (if c.writes then 2 else 1)

-- what a line may go on with
unfoldable pub expected_in_word : Call → ℕ → Expected
expected_in_word c letters =
    if eqb (letter_at c.writes letters) (code " ") then due.Blank else
    if c.writes then due.WriteWord else
    due.ReadWord

unfoldable pub expected_behind : Call → Expected
expected_behind c = if is_last c then due.DigitOrEnd else due.DigitOrBlank

abbrev pub expected_at : Stage → Call → Expected
expected_at Start c = due.Line
expected_at Comment c = due.Line
expected_at (Word letters) c = expected_in_word c letters
expected_at Number c = due.Number
expected_at Zero c = expected_behind c
expected_at Prefix c = due.HexDigit
expected_at (Digits r) c = expected_behind c
expected_at EmptyEnd c = due.End
expected_at AccessEnd c = due.End
expected_at (Broken e) c = e

abbrev pub expected_next : Line → Expected
expected_next l = expected_at l.stage l.call

-- a byte further: as expected, or not
unfoldable pub onward : Line → Stage → Call → Line
onward l stage call = record { stage = stage; column = counted l.column; call = call }

unfoldable pub broken : Line → Line
broken l = onward l (Broken (expected_next l)) l.call

-- a line's first byte
unfoldable pub begun : Line → ℕ → Line
begun l b =
    if eqb b (code "#") then onward l Comment l.call else
    if eqb b (code "r") then onward l (Word 1) (calling false) else
    if eqb b (code "w") then onward l (Word 1) (calling true) else
    if eqb b 13 then onward l EmptyEnd l.call else
    broken l

-- a byte of the word, behind so many others; its last is the blank
unfoldable pub with_letter : Line → ℕ → ℕ → Line
with_letter l letters b =
    if not (eqb b (letter_at l.call.writes letters)) then broken l else
    if eqb b (code " ") then onward l Number l.call else
    onward l (Word (counted letters)) l.call

-- the access with a number so far, and with that number whole
abbrev pub with_value : Call → ℕ → Call
with_value c n = record { writes = c.writes; whole = c.whole; earlier = c.earlier; last = c.last; value = n }

abbrev pub with_whole : Call → Call
with_whole c = record { writes = c.writes; whole = counted c.whole; earlier = c.last; last = c.value; value = 0 }

-- a digit of a number, which is to have "at most 64 bits"
abbrev pub with_numeral : Line → Radix → Result ℕ BadNumber → Line
with_numeral l r (Ok n) = onward l (Digits r) (with_value l.call n)
with_numeral l r (Err bad) = onward l (Broken due.FewerBits) l.call

unfoldable pub with_digit : Line → Radix → ℕ → Line
with_digit l r b = with_numeral l r (fitting 64 (next_value (base_of r) l.call.value b))

-- a byte behind a number: a blank where another follows, or a CR
unfoldable pub behind_number : Line → ℕ → Line
behind_number l b =
    if is_last l.call then (if eqb b 13 then onward l AccessEnd l.call else broken l) else
    if eqb b (code " ") then onward l Number (with_whole l.call) else
    broken l

-- a byte behind digits, a number's first byte, one behind its 0, and one behind its `0x`
unfoldable pub with_next : Line → Radix → ℕ → Line
with_next l r b = if is_digit r b then with_digit l r b else behind_number l b

unfoldable pub with_first : Line → ℕ → Line
with_first l b =
    if eqb b (code "0") then onward l Zero l.call else
    if is_digit Decimal b then with_digit l Decimal b else
    broken l

unfoldable pub behind_zero : Line → ℕ → Line
behind_zero l b =
    if eqb b (code "x") then onward l Prefix l.call else
    if eqb b (code "X") then onward l Prefix l.call else
    with_next l Decimal b

unfoldable pub with_first_hex : Line → ℕ → Line
with_first_hex l b = if is_digit Hex b then with_digit l Hex b else broken l

-- a line with one byte more, which is no LF
abbrev pub with_byte_at : Stage → Line → ℕ → Line
with_byte_at Start l b = begun l b
with_byte_at Comment l b = l
with_byte_at (Word letters) l b = with_letter l letters b
with_byte_at Number l b = with_first l b
with_byte_at Zero l b = behind_zero l b
with_byte_at Prefix l b = with_first_hex l b
with_byte_at (Digits r) l b = with_next l r b
with_byte_at EmptyEnd l b = broken l
with_byte_at AccessEnd l b = broken l
with_byte_at (Broken e) l b = l

abbrev pub with_byte : Line → ℕ → Line
with_byte l b = with_byte_at l.stage l b

unfoldable pub with_bytes : Line → List ℕ → Line
with_bytes l [] = l
with_bytes l (b ∷ bs) = with_bytes (with_byte l b) bs

-- the access whose last number is whole
abbrev pub access_with : Bool → Call → Access
access_with false c = Read (record { 0 = c.value }) c.last
access_with true c = Write (record { 0 = c.last }) c.earlier c.value

abbrev pub access_of : Call → Access
access_of c = access_with c.writes c

-- what a line is that ends here: too early, behind a digit, or anywhere
unfoldable pub cut_short : Line → LogLine
cut_short l = Malformed (counted l.column) (expected_next l)

unfoldable pub ended_number : Line → LogLine
ended_number l = if is_last l.call then Made (access_of l.call) else cut_short l

abbrev pub ended_at : Stage → Line → LogLine
ended_at Start l = Skipped
ended_at Comment l = Skipped
ended_at (Word letters) l = cut_short l
ended_at Number l = cut_short l
ended_at Zero l = ended_number l
ended_at Prefix l = cut_short l
ended_at (Digits r) l = ended_number l
ended_at EmptyEnd l = Skipped
ended_at AccessEnd l = Made (access_of l.call)
ended_at (Broken e) l = Malformed l.column e

abbrev pub ended : Line → LogLine
ended l = ended_at l.stage l

-- what the bytes between two line ends are
abbrev pub line_of : List ℕ → LogLine
line_of bs = ended (with_bytes fresh bs)
