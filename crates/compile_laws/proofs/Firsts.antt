-- The compiler's order of the refusals 5 to 17 and 18 for definitions: "by smallest place, then smallest number". Where words and sentences
-- accept a text and one of these checks fails, the compiler answers the foremost failing one; the map of an accepted text has none.
use mathlib.Core.Bool.{true, false}
use mathlib.Core.Path.{◌≡◌, ap}
use mathlib.Core.List.{List}
use Prim.Native.Nat.{ℕ}
use Rattle.lex.specs.Words.{words_verdict}
use Rattle.parts.specs.Reading.{ok}
use Rattle.syntax.specs.Tree.{Body}
use Rattle.syntax.specs.Grammar.{file_at}
use Rattle.basics.specs.All.{In}
use Rattle.basics.specs.Judged.{Judged, fault, fine, onward, Accepted}
use Rattle.rules.specs.Judge.{Meaning}
use Rattle.rules.specs.Rules.{ruled}
use Rattle.order_laws.specs.Order.{Check, checks_of, Foremost}
use Rattle.order_laws.proofs.Smallest.{foremost, none}
use Rattle.rows.specs.Rows.{Map}
use Rattle.compile.specs.Compiled.{mapped, compiled}
use Rattle.compile_laws.proofs.Stages.{accepting}

-- a refusal by the rules is the compiler's
rules_refuse : (text : List ℕ) {n p : ℕ} → ruled text ≡ fault n p → compiled text ≡ fault n p
unfolding compiled onward
rules_refuse text e = ap (λ (j : Judged Meaning). onward j (mapped text)) e

module _ (text : List ℕ) {b : Body} {m : ℕ} (sentences : file_at text ≡ ok b m) where
  pub compiled_foremost : words_verdict text ≡ Accepted → (c : Check) → In c (checks_of text b) → c.fails ≡ true → Foremost (checks_of text b) (compiled text)
  compiled_foremost words c i f =
      let r : Foremost (checks_of text b) (ruled text) = foremost text sentences words c i f in
      record { number = r.number; place = r.place; answer = rules_refuse text r.answer; among = r.among; smallest = r.smallest }

  pub compiled_none : {x : Map} → compiled text ≡ fine x → (c : Check) → In c (checks_of text b) → c.fails ≡ false
  compiled_none {x} e = none text sentences (accepting text x e).rules
