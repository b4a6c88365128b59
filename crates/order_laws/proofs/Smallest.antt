-- "The smallest place wins, then the smallest number": a refusal is the smallest of all checks that fail, and an accepted text has none.
use mathlib.Core.Bool.{Bool, true, false}
use mathlib.Core.Path.{◌≡◌, refl, sym, ap, subst, ◌∙◌}
use mathlib.Core.List.{List, [], ◌∷◌}
use mathlib.Core.Logic.{◌⊎◌, inl, inr}
use Prim.Native.Nat.{ℕ, ◌<◌, ◌≤◌}
use native.Mathlib.Omega.{arith}
use Rattle.chars.proofs.Laws.{differ}
use Rattle.basics.specs.All.{In, in_here, in_later}
use Rattle.std.specs.Prelude.{if◌then◌else◌}
use Rattle.lex.specs.Words.{words_verdict}
use Rattle.parts.specs.Reading.{ok}
use Rattle.syntax.specs.Tree.{Body}
use Rattle.syntax.specs.Grammar.{file_at}
use Rattle.basics.specs.Judged.{Judged, fault, fine, Verdict, Accepted, Refused}
use Rattle.rules.specs.Judge.{Meaning, judge}
use Rattle.rules.specs.Rules.{after_words, after_sentences, ruled}
use Rattle.order_laws.specs.Order.{Check, check, checks_of, first_failing, fault_of, Before, Ordered, ordered_none, ordered_on, Foremost}
use Rattle.order_laws.proofs.First.{judge_first}
use Rattle.order_laws.proofs.Sorted.{checks_ordered}

apart : {X : Type 0} {n p : ℕ} → Accepted ≡ Refused n p → X
apart e = absurd cc

-- the first check that fails, or none
first_none : {c : Check} {cs : List Check} → first_failing cs ≡ Accepted → In c cs → c.fails ≡ false
unfolding first_failing
first_none {c = c} e (in_here {xs = cs}) = by c.fails e
  where
    by : (b : Bool) → (if b then Refused c.number c.place else first_failing cs) ≡ Accepted → b ≡ false
    by true f = apart (sym f)
    by false f = refl
first_none e (in_later {y = d} {xs = cs} i) = first_none (by d.fails e) i
  where
    by : (b : Bool) → (if b then Refused d.number d.place else first_failing cs) ≡ Accepted → first_failing cs ≡ Accepted
    by true f = apart (sym f)
    by false f = f

first_among : (cs : List Check) {n p : ℕ} → first_failing cs ≡ Refused n p → In (check n p true) cs
unfolding first_failing
first_among [] e = apart e
first_among (c ∷ cs) {n} {p} e = by c.fails refl (first_among cs) e
  where
    by : (b : Bool) → c.fails ≡ b → (first_failing cs ≡ Refused n p → In (check n p true) cs) → (if b then Refused c.number c.place else first_failing cs) ≡ Refused n p → In (check n p true) (c ∷ cs)
    by true f r q =
        let x : c.number ≡ n = cc in
        let y : c.place ≡ p = cc in
        let z : check c.number c.place c.fails ≡ check n p true = rw (x, y, f) in
        subst (λ (d : Check). In d (c ∷ cs)) z in_here
    by false f r q = in_later (r q)

-- a number and a place that do not come after a check
abbrev NotAfter : ℕ → ℕ → Check → Type 0
NotAfter n p c = (p < c.place) ⊎ ((p ≡ c.place) × (n ≤ c.number))

not_after : {n p : ℕ} (d c : Check) → d.number ≡ n → d.place ≡ p → Before d c → NotAfter n p c
not_after d c x y (inl l) = inl (omega arith)
not_after d c x y (inr w) = inr (sym y ∙ w.0, omega (arith, x, w.1))

first_smallest : {cs : List Check} {n p : ℕ} {c : Check} → Ordered cs → first_failing cs ≡ Refused n p → In c cs → c.fails ≡ true → NotAfter n p c
unfolding first_failing
first_smallest {n = n} {p = p} {c = c} ordered_none e x7 f = elim x7 [ ]
first_smallest {n = n} {p} {c} (ordered_on {cs = cs} o r) e in_here f = by c.fails f e
  where
    by : (b : Bool) → b ≡ true → (if b then Refused c.number c.place else first_failing cs) ≡ Refused n p → NotAfter n p c
    by true g q =
        let x : c.number ≡ n = cc in
        let y : c.place ≡ p = cc in
        inr (sym y, omega arith)
    by false g q = differ (sym g)
first_smallest {n = n} {p} {c} (ordered_on {c = d} {cs = cs} o r) e (in_later i) f = by d.fails (o c i) (λ q. first_smallest r q i f) e
  where
    by : (b : Bool) → Before d c → (first_failing cs ≡ Refused n p → NotAfter n p c) → (if b then Refused d.number d.place else first_failing cs) ≡ Refused n p → NotAfter n p c
    by true w later q =
        let x : d.number ≡ n = cc in
        let y : d.place ≡ p = cc in
        not_after d c x y w
    by false w later q = later q

-- the fault of a text is its first check that fails
refused : (text : List ℕ) (b : Body) {n p : ℕ} → judge text b ≡ fault n p → first_failing (checks_of text b) ≡ Refused n p
refused text b e = sym (judge_first text b) ∙ ap (λ (j : Judged Meaning). fault_of j) e

accepted : (text : List ℕ) (b : Body) {x : Meaning} → judge text b ≡ fine x → first_failing (checks_of text b) ≡ Accepted
accepted text b e = sym (judge_first text b) ∙ ap (λ (j : Judged Meaning). fault_of j) e

-- a text that is accepted has no bad word
words_accept : (text : List ℕ) {x : Meaning} → ruled text ≡ fine x → words_verdict text ≡ Accepted
unfolding ruled
words_accept text {x} = by (words_verdict text)
  where
    by : (v : Verdict) → after_words v (after_sentences text (file_at text)) ≡ fine x → v ≡ Accepted
    by Accepted e = refl
    by (Refused n p) e = absurd cc

module _ (text : List ℕ) {b : Body} {m : ℕ} (sentences : file_at text ≡ ok b m) where
  -- behind the words and the sentences, the rules answer
  judged : words_verdict text ≡ Accepted → ruled text ≡ judge text b
  unfolding ruled
  judged words = rw (words, sentences)

  module _ (words : words_verdict text ≡ Accepted) {n p : ℕ} (e : ruled text ≡ fault n p) where
    pub smallest : (c : Check) → In c (checks_of text b) → c.fails ≡ true → (p < c.place) ⊎ ((p ≡ c.place) × (n ≤ c.number))
    smallest c i f = first_smallest (checks_ordered text sentences) (refused text b (sym (judged words) ∙ e)) i f

    pub among : In (check n p true) (checks_of text b)
    among = first_among (checks_of text b) (refused text b (sym (judged words) ∙ e))

  pub none : {x : Meaning} → ruled text ≡ fine x → (c : Check) → In c (checks_of text b) → c.fails ≡ false
  none e c i = first_none (accepted text b (sym (judged (words_accept text e)) ∙ e)) i

  -- where a check fails, the answer is the failing one of the smallest place, then of the smallest number
  pub foremost : words_verdict text ≡ Accepted → (c : Check) → In c (checks_of text b) → c.fails ≡ true → Foremost (checks_of text b) (ruled text)
  foremost words c i f = by (ruled text) refl
    where
      by : (j : Judged Meaning) → ruled text ≡ j → Foremost (checks_of text b) j
      by (fault n p) e = record { number = n; place = p; answer = refl; among = among words e; smallest = smallest words e }
      by (fine x) e = differ (sym f ∙ none e c i)
