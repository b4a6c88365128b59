-- The rules stage of a text: the first refusal by words, sentences and rules, or what the text means; and what the cells say of it.
use Rattle.std.specs.Prelude.{◌≡◌, List, [], ◌∷◌, ℕ, zero, suc, ◌+◌, ◌≤◌, length}
use Rattle.lex.specs.Words.{words_verdict}
use Rattle.parts.specs.Reading.{Parsed, ok, stop}
use Rattle.parts.specs.Parts.{instance_at}
use Rattle.parts.specs.declared.Instance.{Instance}
use Rattle.syntax.specs.Tree.{Body}
use Rattle.syntax.specs.Grammar.{file_at}
use Rattle.basics.specs.Judged.{Judged, fault, fine, Verdict, Accepted, Refused}
use Rattle.basics.specs.Slices.{cell_of}
use Rattle.cells.specs.Cells.{entries_at, instance_room, component_in, first_in, count_in, name_in, place_in, row_in}
use Rattle.cells.specs.Definitions.{Child, Definition}
use Rattle.cells.specs.Relation.{Holds}
use Rattle.basics.specs.Limits.{definition_limit}
use Rattle.rules.specs.Judge.{Meaning, judge}

-- "1; then words (2, 4); then 3 and 18 for bodies, whichever stands first; then 5 to 17 and 18 for definitions"
abbrev pub after_words : Verdict → Judged Meaning → Judged Meaning
after_words Accepted rest = rest
after_words (Refused n p) rest = fault n p

abbrev pub after_sentences : List ℕ → Parsed Body → Judged Meaning
after_sentences text (ok b n) = judge text b
after_sentences text (stop n p) = fault n p

unfoldable pub ruled : List ℕ → Judged Meaning
ruled text = after_words (words_verdict text) (after_sentences text (file_at text))

-- the first refusal, or none
abbrev pub judged_verdict : Judged Meaning → Verdict
judged_verdict (fault n p) = Refused n p
judged_verdict (fine m) = Accepted

unfoldable pub rules_verdict : List ℕ → Verdict
rules_verdict text = judged_verdict (ruled text)

-- the same in document 01's numbers: the refusal or 0, and its place
abbrev pub judged_numbers : Judged Meaning → List ℕ
judged_numbers (fault n p) = n ∷ p ∷ []
judged_numbers (fine m) = 0 ∷ 0 ∷ []

-- what the cells say: the instances in `count` cells from the index `i` on, each read at its place in the text
abbrev pub with_instance : ℕ → Parsed Instance → List Child → List Child
with_instance row (ok i n) rest = record { instance = i; type = row } ∷ rest
with_instance row (stop n p) rest = rest

unfoldable pub instances_in : List ℕ → List ℕ → ℕ → ℕ → List Child
instances_in text t i zero = []
instances_in text t i (suc count) = with_instance (row_in (cell_of t i)) (instance_at text (place_in (cell_of t i))) (instances_in text t (suc i) count)

-- the definition of a row
abbrev pub definition_in : List ℕ → List ℕ → ℕ → Definition
definition_in text t r = record { name = name_in t r; component = component_in t r; instances = instances_in text t (entries_at + first_in t r) (count_in t r) }

-- the definitions of `count` rows from the row `r` on
unfoldable pub definitions_in : List ℕ → List ℕ → ℕ → ℕ → List Definition
definitions_in text t r zero = []
definitions_in text t r (suc count) = definition_in text t r ∷ definitions_in text t (suc r) count

-- what an answer means, with the cells
abbrev pub ruled_as : List ℕ → List ℕ → Judged (ℕ × ℕ) → Judged Meaning
ruled_as text t (fault n p) = fault n p
ruled_as text t (fine (row, closed)) = fine (record { table = definitions_in text t 0 closed; map = row })

-- where a text is accepted, its cells hold its definitions
pub data Held (text t : List ℕ) : Judged (ℕ × ℕ) → Type 0 where
  held_not : {n p : ℕ} → Held text t (fault n p)
  held_all : {row closed : ℕ} → closed ≤ definition_limit → Holds text t closed instance_room (definitions_in text t 0 closed) → Held text t (fine (row, closed))

-- What the cells hold after each answer: always as many; of an accepted text its definitions; of a text that words or sentences refuse
-- what they held before. What the walk wrote of a text that 5 to 18 refuse, and what stands in cells that the definitions of an accepted
-- one don't use, nothing asks for.
pub record Worked (text before after : List ℕ) (r : Judged (ℕ × ℕ)) : Type 0 where
  pub long : length after ≡ length before
  pub held : Held text after r
  pub words : (n p : ℕ) → words_verdict text ≡ Refused n p → after ≡ before
  pub sentences : (n p : ℕ) → file_at text ≡ stop n p → after ≡ before
