-- What the readers answer for a reading of the grammar: they keep no tree.
use Rattle.std.specs.Prelude.{List, [], ◌∷◌, ℕ}
use Rattle.parts.specs.Reading.{Parsed, ok, stop}
use Rattle.syntax.specs.Grammar.{file_at}
use Rattle.basics.specs.Judged.{Verdict, Accepted, Refused, Judged, fine, fault}

-- the cursor past what was read, or the refusal
unfoldable pub answer_of : {A : Type 0} → Parsed A → Judged ℕ
answer_of (ok a next) = fine next
answer_of (stop number place) = fault number place

abbrev pub verdict_of : Judged ℕ → Verdict
verdict_of (fine next) = Accepted
verdict_of (fault number place) = Refused number place

-- the first refusal of a text by 3, and by 18 for bodies, or none
unfoldable pub sentence_verdict : List ℕ → Verdict
sentence_verdict text = verdict_of (answer_of (file_at text))

-- an answer in document 01's numbers: the refusal or 0, its place, 0 where there is none, and the cursor past what was read, 0 where refused
abbrev pub answer_numbers : Judged ℕ → List ℕ
answer_numbers (fine next) = 0 ∷ 0 ∷ next ∷ []
answer_numbers (fault number place) = number ∷ place ∷ 0 ∷ []

-- the same numbers of a reading
abbrev pub reading_numbers : {A : Type 0} → Parsed A → List ℕ
reading_numbers (ok a next) = 0 ∷ 0 ∷ next ∷ []
reading_numbers (stop number place) = number ∷ place ∷ 0 ∷ []

-- the refusal and its place, 0 and 0 where a text keeps the grammar
abbrev pub refusal_numbers : {A : Type 0} → Parsed A → List ℕ
refusal_numbers (ok a next) = 0 ∷ 0 ∷ []
refusal_numbers (stop number place) = number ∷ place ∷ []

unfoldable pub sentence_numbers : List ℕ → List ℕ
sentence_numbers text = refusal_numbers (file_at text)
