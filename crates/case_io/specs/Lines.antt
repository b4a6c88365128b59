-- How the test programs end a case's line.
use Rattle.std.specs.Prelude.{ℕ, List, ◌++◌, codes, decimal}
use Rattle.basics.specs.Judged.{Verdict, Accepted, Refused}

-- a refusal
abbrev pub refusal_text : ℕ → ℕ → List ℕ
refusal_text number place = (codes " refused=" ++ decimal number) ++ (codes " at=" ++ decimal place)

-- the verdict, and the line's end
abbrev pub verdict_text : Verdict → List ℕ
verdict_text Accepted = codes " accepted\n"
verdict_text (Refused number place) = refusal_text number place ++ codes "\n"
