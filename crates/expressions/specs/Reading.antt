-- A reading: what stands at a cursor of a text with the cursor past it, or the refusal's number and place.
use Rattle.std.specs.Prelude.{ℕ, Result, Ok, Err}
use Rattle.basics.specs.Judged.{rule_number}
use Rattle.basics.specs.declared.Refusal.{Refusal}
use Rattle.lex.specs.declared.Token.{Token}

pub data Parsed (A : Type 0) : Type 0 where
  ok : A → ℕ → Parsed A
  stop : ℕ → ℕ → Parsed A

-- read on behind what was read, unless it was refused
unfoldable pub and_then : {A B : Type 0} → Parsed A → (A → ℕ → Parsed B) → Parsed B
and_then (ok a next) k = k a next
and_then (stop number place) k = stop number place

-- a reading whose piece becomes part of a larger one
unfoldable pub mapped : {A B : Type 0} → (A → B) → Parsed A → Parsed B
mapped f (ok a next) = ok (f a) next
mapped f (stop number place) = stop number place

-- 3: "no sentence continues so", at "that word, or text end"
abbrev pub unexpected : {A : Type 0} → Token → Parsed A
unexpected k = stop 3 k.start

-- what a reader answers, as a reading
abbrev pub parsed : {A : Type 0} → Result (A × ℕ) Refusal → Parsed A
parsed (Ok (a, next)) = ok a next
parsed (Err r) = stop (rule_number r.rule) r.at
