-- A log by its parts, by its lines and by its accesses: what the laws of playing a log (proofs/Laws.antt) speak of.
use Rattle.std.specs.Prelude.{Bool, not, ◌≡◌, List, [], ◌∷◌, ◌++◌, ℕ, eqb}
use Rattle.basics.specs.All.{All}
use Rattle.std.specs.Prelude.{if◌then◌else◌}
use Rattle.rows.specs.Rows.{Tables}
use Rattle.model.specs.declared.Access.{Access}
use Rattle.access.specs.Perform.{store_after, retry_of}
use Rattle.log_lines.specs.declared.LogLine.{LogLine}
use Rattle.log_lines.specs.declared.LogLine.TheVariants.{Skipped, Made, Malformed}
use Rattle.log_lines.specs.Log.{fresh, ended}
use Rattle.log_lines.specs.Text.{access_text}
use Rattle.player.specs.declared.Progress.{Progress}
use Rattle.player.specs.Play.{outcome_text, played_text, malformed_text, after_byte, progress_over, store_over, text_over}
use Rattle.basics.specs.Judged.{Outcome}

-- a log that comes in parts
unfoldable pub joined : List (List ℕ) → List ℕ
joined [] = []
joined (part ∷ parts) = part ++ joined parts

-- what is written as the parts are played one after another, and the store that they leave
unfoldable pub parts_text : Tables → List ℕ → Progress → List (List ℕ) → List ℕ
parts_text t s p [] = []
parts_text t s p (part ∷ parts) = text_over t s p part ++ parts_text t (store_over t s p part) (progress_over p part) parts

unfoldable pub parts_store : Tables → List ℕ → Progress → List (List ℕ) → List ℕ
parts_store t s p [] = s
parts_store t s p (part ∷ parts) = parts_store t (store_over t s p part) (progress_over p part) parts

-- the bytes of a line: no LF is among them
abbrev pub OneLine : List ℕ → Type 0
OneLine l = All (λ (b : ℕ). b ≡ 10 → ⊥) l

-- before the first byte of line n
abbrev pub at_start : ℕ → Bool → Progress
at_start n stopped = record { line = fresh; number = n; stopped = stopped }

-- the line that a byte ends; one that is skipped where it ends none or the play has stopped
unfoldable pub ended_by : Progress → ℕ → LogLine
ended_by p b =
    if p.stopped then Skipped else
    if not (eqb b 10) then Skipped else
    ended p.line

-- the access that a line makes, if it makes one
abbrev pub line_accesses : LogLine → List Access
line_accesses Skipped = []
line_accesses (Made x) = x ∷ []
line_accesses (Malformed column due) = []

-- the accesses of the lines that end in these bytes, up to a malformed line
unfoldable pub accesses_in : Progress → List ℕ → List Access
accesses_in p [] = []
accesses_in p (b ∷ bs) = line_accesses (ended_by p b) ++ accesses_in (after_byte p b) bs

-- the lines that are written of accesses that are made one after another
unfoldable pub access_texts : Tables → List ℕ → List Access → List ℕ
access_texts t s [] = []
access_texts t s (x ∷ xs) = played_text t s x ++ access_texts t (store_after t s x) xs

-- the same lines of accesses and their answers
unfoldable pub answer_texts : Tables → List Access → List (Outcome ℕ) → List ℕ
answer_texts t [] answers = []
answer_texts t (x ∷ xs) [] = []
answer_texts t (x ∷ xs) (a ∷ answers) = (access_text x ++ (outcome_text x a (retry_of t x) ++ (10 ∷ []))) ++ answer_texts t xs answers

-- the line that is written of a malformed line, and of the one that ends in these bytes, if one does: behind it the play has stopped
abbrev pub line_fault : ℕ → LogLine → List ℕ
line_fault number Skipped = []
line_fault number (Made x) = []
line_fault number (Malformed column due) = malformed_text number column due

unfoldable pub fault_text : Progress → List ℕ → List ℕ
fault_text p [] = []
fault_text p (b ∷ bs) = line_fault p.number (ended_by p b) ++ fault_text (after_byte p b) bs
