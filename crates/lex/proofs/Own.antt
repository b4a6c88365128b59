-- A name stands at its own place: read there, it is the same token. It is short.
use mathlib.Core.Bool.{true, false}
use mathlib.Core.Path.{◌≡◌, refl, sym, ap, ◌∙◌}
use mathlib.Core.List.{List, [], ◌∷◌}
use Prim.Native.Nat.{ℕ, ◌+◌, ◌-◌, ◌≤◌}
use native.Mathlib.Omega.{arith}
use lib.Dec.{ltb, eqb}
use lib.ListN.{length, take, drop, length-drop}
use lib.Seq.{length-take-le}
use borrow.Author.Tests.{ne_eqb}
use Rattle.chars.specs.Ascii.{is_within, is_blank, is_letter, is_number_byte, is_digit}
use Rattle.chars.specs.Run.{run}
use Rattle.chars.specs.declared.Radix.TheVariants.{Decimal}
use Rattle.chars.proofs.Laws.{differ, either}
use Rattle.basics.specs.Limits.{name_limit, string_limit}
use Rattle.vocabulary.specs.Vocabulary.{mark_of}
use Rattle.numbers.specs.Number.{number_of}
use Rattle.lex.specs.declared.Word.{Word}
use Rattle.lex.specs.declared.Word.TheVariants as word
use Rattle.lex.specs.declared.Token.{Token}
use Rattle.lex.specs.Blank.{blanks, next_from}
use Rattle.lex.specs.Quote.{closing}
use Rattle.lex.specs.Token.{number_word, number_token, string_to, string_token, longer, mark_word, mark_token, token_from, token_past, token_at}
use Rattle.lex.specs.Spelt.{token_bytes, Named}
use Rattle.lex.proofs.Bounds.{from_lies, token_inside}
use Rattle.lex.proofs.Bytes.{token_spelt}
use Rattle.lex.proofs.Scan.{blanks_word}
use Rattle.std.specs.Prelude.{Option, Some, None, Result, Ok, Err}
use Rattle.vocabulary.specs.declared.Mark.{Mark}
use Rattle.numbers.specs.declared.BadNumber.{BadNumber}
use Rattle.numbers.specs.declared.BadNumber.TheVariants.{Malformed, TooWide}

-- what is no letter is another byte
no_letter : (b k : ℕ) → is_letter b ≡ true → is_letter k ≡ false → b ≡ k → ⊥
no_letter b k e f g = differ (sym e ∙ (rw g f))

letter_starts : (b : ℕ) → is_letter b ≡ true → (is_blank b ≡ false) × (eqb b 47 ≡ false)
unfolding is_blank is_letter is_within
letter_starts b e = (
  rw (ne_eqb b 32 (no_letter b 32 e refl), ne_eqb b 9 (no_letter b 9 e refl), ne_eqb b 13 (no_letter b 13 e refl), ne_eqb b 10 (no_letter b 10 e refl)),
  ne_eqb b 47 (no_letter b 47 e refl),
)

-- numbers, strings and marks are no names
number_other : (n : Result ℕ BadNumber) {X : Type 0} → number_word n ≡ word.Name → X
number_other (Ok n) e = absurd (let z : ◌≡◌ {A = ℕ} 0 1 = cc in omega arith)
number_other (Err Malformed) e = absurd (let z : ◌≡◌ {A = ℕ} 0 1 = cc in omega arith)
number_other (Err TooWide) e = absurd (let z : ◌≡◌ {A = ℕ} 0 1 = cc in omega arith)

string_other : (p e : ℕ) (x : Result ℕ ℕ) {X : Type 0} → (string_to p e x).word ≡ word.Name → X
string_other p e (Ok q) {X} = either (λ (w : Word). w ≡ word.Name → X) (ltb string_limit (q - (p + 1))) (λ _ f. absurd (let z : ◌≡◌ {A = ℕ} 0 1 = cc in omega arith)) (λ _ f. absurd (let z : ◌≡◌ {A = ℕ} 0 1 = cc in omega arith))
string_other p e (Err o) = λ f. absurd (let z : ◌≡◌ {A = ℕ} 0 1 = cc in omega arith)

mark_other : (p : ℕ) (x : Option Mark) {X : Type 0} → (mark_word p x).word ≡ word.Name → X
mark_other p (Some m) e = absurd (let z : ◌≡◌ {A = ℕ} 0 1 = cc in omega arith)
mark_other p None e = absurd (let z : ◌≡◌ {A = ℕ} 0 1 = cc in omega arith)

-- so a name begins with a letter, and no blank and no comment stands where it does
name_stands : (p : ℕ) (s : List ℕ) → (token_from p s).word ≡ word.Name → blanks p s ≡ Ok p
unfolding token_from number_token string_token mark_token
name_stands p [] = λ e. absurd (let z : ◌≡◌ {A = ℕ} 0 1 = cc in omega arith)
name_stands p (b ∷ s) =
    either (λ (k : Token). k.word ≡ word.Name → blanks p (b ∷ s) ≡ Ok p) (is_letter b)
    (λ l e. let c = letter_starts b l in blanks_word p b s c.0 c.1)
    (λ _. either (λ (k : Token). k.word ≡ word.Name → blanks p (b ∷ s) ≡ Ok p) (is_digit Decimal b) (λ _ e. number_other (number_of (run is_number_byte (b ∷ s))) e)
    (λ _. either (λ (k : Token). k.word ≡ word.Name → blanks p (b ∷ s) ≡ Ok p) (eqb b 34) (λ _ e. string_other p _ (closing p 34 (p + 1) s) e)
    (λ _ e. mark_other p (longer (mark_of (take 2 (b ∷ s))) (mark_of (take 1 (b ∷ s)))) e)))

here : (t : List ℕ) (i : ℕ) → (token_from i (drop i t)).word ≡ word.Name → next_from t i ≡ Ok i
unfolding next_from
here t i e = name_stands i (drop i t) e

pub name_own : (t : List ℕ) (at : ℕ) → (token_at t at).word ≡ word.Name → token_at t (token_at t at).start ≡ token_at t at
unfolding token_at
name_own t at = by (next_from t at)
  where
    by : (x : Result ℕ ℕ) → (token_past t x).word ≡ word.Name → token_past t (next_from t (token_past t x).start) ≡ token_past t x
    by (Ok i) e = ap (λ (p : ℕ). token_past t (next_from t p)) (from_lies i (drop i t)).starts ∙ ap (token_past t) (here t i e)
    by (Err o) e = absurd (let z : ◌≡◌ {A = ℕ} 0 1 = cc in omega arith)

-- a name is not the end, and it is short: "at most 31 bytes"
pub no_end : (w : Word) → w ≡ word.Name → w ≡ word.End → ⊥
no_end w e f = let z : ◌≡◌ {A = ℕ} 0 1 = cc in omega arith

pub name_within : (t : List ℕ) (at : ℕ) → (token_at t at).word ≡ word.Name → (token_at t at).end ≤ (token_at t at).start + name_limit
name_within t at e =
    let k : Token = token_at t at in
    let i = token_inside t at (no_end k.word e) in
    let s : Named (token_bytes t k) = rw e at (token_spelt t at) in
    let n : length (token_bytes t k) ≡ k.end - k.start = length-take-le (k.end - k.start) (drop k.start t) (simp length-drop (omega (arith, i))) in
    omega (arith, s.limit, n)
