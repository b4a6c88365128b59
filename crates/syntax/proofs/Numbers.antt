-- What the readers and the sentence stage answer, as an enum and in numbers.
use mathlib.Core.Path.{◌≡◌, refl, sym, ap, ◌∙◌}
use mathlib.Core.List.{List}
use Prim.Native.Nat.{ℕ}
use Rattle.lex.specs.Words.{verdict_numbers}
use Rattle.parts.specs.Reading.{Parsed, ok, stop}
use Rattle.syntax.specs.Grammar.{file_at}
use Rattle.syntax.specs.Answers.{answer_of, verdict_of, sentence_verdict, answer_numbers, reading_numbers, refusal_numbers, sentence_numbers}
use Rattle.basics.specs.Judged.{Verdict, Accepted, Refused, Judged, fine, fault}

reading_numbers_lem : {A : Type 0} (p : Parsed A) → answer_numbers (answer_of p) ≡ reading_numbers p
unfolding answer_of
reading_numbers_lem (ok a n) = refl
reading_numbers_lem (stop n p) = refl

pub with_numbers : {A : Type 0} (p : Parsed A) {r : Judged ℕ} → r ≡ answer_of p → (r ≡ answer_of p) × (answer_numbers r ≡ reading_numbers p)
with_numbers p e = (e, ap answer_numbers e ∙ reading_numbers_lem p)

verdict_numbers_lem : {A : Type 0} (p : Parsed A) → verdict_numbers (verdict_of (answer_of p)) ≡ refusal_numbers p
unfolding answer_of
verdict_numbers_lem (ok a n) = refl
verdict_numbers_lem (stop n p) = refl

sentence_numbers_lem : (t : List ℕ) {a : Judged ℕ} {r : Verdict} → a ≡ answer_of (file_at t) → r ≡ verdict_of a → (r ≡ sentence_verdict t) × (verdict_numbers r ≡ sentence_numbers t)
unfolding sentence_verdict sentence_numbers
sentence_numbers_lem t e f =
    let v : _ ≡ verdict_of (answer_of (file_at t)) = f ∙ ap verdict_of e in
    (v, ap verdict_numbers v ∙ verdict_numbers_lem (file_at t))

module _ (t : List ℕ) {a : Judged ℕ} (e : a ≡ answer_of (file_at t)) where
  pub sentence_refused : {n p : ℕ} → a ≡ fault n p → (Refused n p ≡ sentence_verdict t) × (verdict_numbers (Refused n p) ≡ sentence_numbers t)
  sentence_refused f = sentence_numbers_lem t (sym f ∙ e) refl

  pub sentence_accepted : {n : ℕ} → a ≡ fine n → (Accepted ≡ sentence_verdict t) × (verdict_numbers Accepted ≡ sentence_numbers t)
  sentence_accepted f = sentence_numbers_lem t (sym f ∙ e) refl
