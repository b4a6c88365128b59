-- What is written as a log is played, and the store that it leaves: "for each line of the log, one line".
use Rattle.std.specs.Prelude.{Bool, true, false, not, List, [], ◌∷◌, ◌++◌, ℕ, eqb}
use Rattle.std.specs.Prelude.{if◌then◌else◌}
use Rattle.chars.specs.Ascii.{bytes}
use Rattle.lines.specs.Text.{decimal, hex}
use Rattle.rows.specs.Rows.{Tables}
use Rattle.model.specs.declared.Access.{Access}
use Rattle.model.specs.declared.Access.TheVariants.{Read, Write}
use Rattle.access.specs.Perform.{answer_of, store_after, retry_of}
use Rattle.log_lines.specs.declared.Expected.{Expected}
use Rattle.log_lines.specs.declared.LogLine.{LogLine}
use Rattle.log_lines.specs.declared.LogLine.TheVariants.{Skipped, Made, Malformed}
use Rattle.log_lines.specs.Log.{fresh, counted, with_byte, ended}
use Rattle.log_lines.specs.Text.{access_text, expected_text}
use Rattle.player.specs.declared.Progress.{Progress}
use Rattle.basics.specs.Judged.{Outcome, gave, barred}
use Rattle.access.specs.declared.Resend.{Resend}
use Rattle.access.specs.declared.Resend.TheVariants.{Safe, Unsafe}

-- "`retry=unsafe`, `retry=safe`"; an access that is answered is one that retry answers
abbrev pub retry_text : Outcome Resend → List ℕ
retry_text (barred n) = []
retry_text (gave Safe) = bytes " retry=safe"
retry_text (gave Unsafe) = bytes " retry=unsafe"

-- "`word=0x5`" of a read, "`done`" of a write
abbrev pub done_text : Access → ℕ → List ℕ
done_text (Read a w) word = bytes " word=" ++ hex word
done_text (Write a w x) word = bytes " done"

-- "`refused=25`", or what was done and whether it may be done again
abbrev pub outcome_text : Access → Outcome ℕ → Outcome Resend → List ℕ
outcome_text x (barred n) r = bytes " refused=" ++ decimal n
outcome_text x (gave word) r = done_text x word ++ retry_text r

-- the line of an access that is made on this store
unfoldable pub played_text : Tables → List ℕ → Access → List ℕ
played_text t s x = access_text x ++ (outcome_text x (answer_of t s x) (retry_of t x) ++ (10 ∷ []))

-- "`log line=N column=C: ` and what was expected there"
unfoldable pub place_text : ℕ → ℕ → List ℕ
place_text number column = bytes "log line=" ++ (decimal number ++ (bytes " column=" ++ decimal column))

unfoldable pub malformed_text : ℕ → ℕ → Expected → List ℕ
malformed_text number column due = place_text number column ++ (bytes ": expected " ++ (expected_text due ++ (10 ∷ [])))

-- what a line of the log writes, and the store that it leaves
abbrev pub line_text : Tables → List ℕ → ℕ → LogLine → List ℕ
line_text t s number Skipped = []
line_text t s number (Made x) = played_text t s x
line_text t s number (Malformed column due) = malformed_text number column due

abbrev pub line_store : Tables → List ℕ → LogLine → List ℕ
line_store t s Skipped = s
line_store t s (Made x) = store_after t s x
line_store t s (Malformed column due) = s

abbrev pub is_malformed : LogLine → Bool
is_malformed Skipped = false
is_malformed (Made x) = false
is_malformed (Malformed column due) = true

-- before a log's first byte, behind the end of a line, and behind any byte: behind a malformed line "nothing .. is played"
abbrev pub started : Progress
started = record { line = fresh; number = 1; stopped = false }

abbrev pub after_line : Progress → Progress
after_line p = record { line = fresh; number = counted p.number; stopped = is_malformed (ended p.line) }

unfoldable pub after_byte : Progress → ℕ → Progress
after_byte p b =
    if p.stopped then p else
    if eqb b 10 then after_line p else
    record { line = with_byte p.line b; number = p.number; stopped = false }

-- what a byte writes, and the store that it leaves: an LF ends a line
unfoldable pub byte_text : Tables → List ℕ → Progress → ℕ → List ℕ
byte_text t s p b =
    if p.stopped then [] else
    if not (eqb b 10) then [] else
    line_text t s p.number (ended p.line)

unfoldable pub byte_store : Tables → List ℕ → Progress → ℕ → List ℕ
byte_store t s p b =
    if p.stopped then s else
    if not (eqb b 10) then s else
    line_store t s (ended p.line)

-- the same of many bytes
unfoldable pub progress_over : Progress → List ℕ → Progress
progress_over p [] = p
progress_over p (b ∷ bs) = progress_over (after_byte p b) bs

unfoldable pub store_over : Tables → List ℕ → Progress → List ℕ → List ℕ
store_over t s p [] = s
store_over t s p (b ∷ bs) = store_over t (byte_store t s p b) (after_byte p b) bs

unfoldable pub text_over : Tables → List ℕ → Progress → List ℕ → List ℕ
text_over t s p [] = []
text_over t s p (b ∷ bs) = byte_text t s p b ++ text_over t (byte_store t s p b) (after_byte p b) bs
