-- The stages one after another, and what the cells say.
use mathlib.Core.Path.{◌≡◌, refl, ◌∙◌}
use mathlib.Core.Bool.{Bool, true, false}
use mathlib.Core.List.{List, [], ◌∷◌}
use Prim.Native.Nat.{ℕ, suc, ◌+◌, ◌<◌, ◌≤◌}
use native.Mathlib.Omega.{arith}
use lib.Dec.{ltb}
use lib.ListN.{length, get_or}
use borrow.Author.Tests.{ltb-false}
use Rattle.std.specs.Prelude.{if◌then◌else◌}
use Rattle.basics.specs.Limits.{text_limit}
use Rattle.lex.specs.Words.{words_verdict, first_bad}
use Rattle.parts.specs.Reading.{Parsed, ok, stop}
use Rattle.syntax.specs.Tree.{Body}
use Rattle.syntax.specs.Grammar.{file_at}
use Rattle.syntax.specs.Answers.{answer_of, verdict_of, sentence_verdict}
use Rattle.basics.specs.Judged.{Judged, fault, Accepted, Refused}
use Rattle.cells.specs.Cells.{size, instance_room}
use Rattle.cells.specs.Definitions.{Child, Definition, no_definition}
use Rattle.cells.specs.Relation.{Block, block_end, block_on, IsRow, Holds}
use Rattle.rules.specs.Judge.{Meaning}
use Rattle.rules.specs.Standing.{FileMatches, file_fault, file_map, Rules}
use Rattle.rules.specs.Rules.{after_sentences, ruled, instances_in, definition_in, definitions_in, ruled_as, Held, held_not, held_all, Worked}
use Rattle.rules.proofs.Frames.{row_later}

-- the cells say what they hold
pub instances_said : {text t : List ℕ} {i : ℕ} {cs : List Child} → Block text t i cs → instances_in text t i (length cs) ≡ cs
unfolding instances_in
instances_said block_end = refl
instances_said (block_on e b) = rw (e.reads, e.type, instances_said b)

pub definition_said : {text t : List ℕ} {filed r : ℕ} {d : Definition} → IsRow text t filed r d → definition_in text t r ≡ d
definition_said w = rw (w.name, w.component, w.count, instances_said w.instances)

definitions_said : (text t : List ℕ) (r : ℕ) (table : List Definition) → ((j : ℕ) → j < length table → definition_in text t (r + j) ≡ get_or table j no_definition) → definitions_in text t r (length table) ≡ table
unfolding definitions_in
definitions_said text t r [] each = refl
definitions_said text t r (d ∷ table) each =
    let z : r + 0 ≡ r = omega arith in
    let e : definition_in text t r ≡ d = rw z at (each 0 (omega arith)) in
    rw (e, definitions_said text t (suc r) table (λ j l. let y : r + suc j ≡ suc r + j = omega arith in rw y at (each (suc j) (omega (arith, l)))))

pub table_said : {text t : List ℕ} {closed filed : ℕ} {table : List Definition} → Holds text t closed filed table → definitions_in text t 0 closed ≡ table
table_said {text} {t} {table = table} h = rw (← h.count) (definitions_said text t 0 table (λ j l. let z : 0 + j ≡ j = omega arith in rw z (definition_said (h.each j (omega (arith, l, h.count))))))

-- a text that the word stage accepts is short
pub words_short : (text : List ℕ) → Accepted ≡ words_verdict text → length text ≤ text_limit
unfolding words_verdict
words_short text e = by (ltb text_limit (length text)) refl e
  where
    by : (b : Bool) → ltb text_limit (length text) ≡ b → Accepted ≡ (if b then Refused 1 0 else first_bad (length text + 1) text 0) → length text ≤ text_limit
    by true q r = absurd cc
    by false q r = ltb-false text_limit (length text) q

-- what stands among the first instances stands in the room for all of them
holds_room : {text t : List ℕ} {closed filed : ℕ} {table : List Definition} → filed ≤ instance_room → Holds text t closed filed table → Holds text t closed instance_room table
holds_room few h = record { count = h.count; each = λ r l. row_later few (h.each r l) }

-- words and sentences leave the cells alone
pub worked_untouched : (text t : List ℕ) {n p : ℕ} → Worked text t t (fault n p)
worked_untouched text t = record { long = refl; held = held_not; words = λ n p q. refl; sentences = λ n p q. refl }

-- where the sentence stage refuses a text the grammar does
pub sentences_stop : (text : List ℕ) {n p : ℕ} → Refused n p ≡ sentence_verdict text → file_at text ≡ stop n p
unfolding sentence_verdict answer_of
sentences_stop text {n} {p} = by (file_at text)
  where
    by : (y : Parsed Body) → Refused n p ≡ verdict_of (answer_of y) → y ≡ stop n p
    by (ok b m) e = absurd cc
    by (stop m q) e = let a : m ≡ n = cc in let b : q ≡ p = cc in rw (a, b)

pub ruleset stages = (words_short, worked_untouched, sentences_stop)

module _ (text t : List ℕ) where
  ruled_of : {j : Judged Meaning} {r : Judged (ℕ × ℕ)} → FileMatches text t j r → ruled_as text t r ≡ j
  ruled_of file_fault = refl
  ruled_of (file_map k few room) = rw (table_said k)

  held_of : {j : Judged Meaning} {r : Judged (ℕ × ℕ)} → FileMatches text t j r → Held text t r
  held_of file_fault = held_not
  held_of (file_map {m = m} k few room) = held_all {row = m.map} few (rw (table_said k) (holds_room room k))

-- behind words and sentences the rules fill the cells
module _ (text t : List ℕ) (words : Accepted ≡ words_verdict text) (sentences : Accepted ≡ sentence_verdict text) {t₀ : List ℕ} {r : Judged (ℕ × ℕ)} (l : size ≤ length t₀) (x : Rules text t₀ t r) where
  read : (P : Parsed Body → Type 0) → ((b : Body) (n : ℕ) → file_at text ≡ ok b n → P (ok b n)) → P (file_at text)
  unfolding sentence_verdict answer_of
  read P f = by (file_at text) refl sentences
    where
      by : (y : Parsed Body) → file_at text ≡ y → Accepted ≡ verdict_of (answer_of y) → P y
      by (ok b n) q e = f b n q
      by (stop n p) q e = absurd cc

  pub ruled_so : ruled_as text t r ≡ ruled text
  unfolding ruled
  ruled_so = rw (← words) (read (λ y. ruled_as text t r ≡ after_sentences text y) (λ b n q. ruled_of text t (x.each b n l q)))

  pub worked_so : Worked text t₀ t r
  worked_so =
      record {
        long = x.long;
        held = read (λ y. Held text t r) (λ b n q. held_of text t (x.each b n l q));
        words = λ n p q. absurd (let z : Accepted ≡ Refused n p = words ∙ q in cc);
        sentences = λ n p q. read (λ y. y ≡ stop n p → t ≡ t₀) (λ b m e z. absurd cc) q;
      }
