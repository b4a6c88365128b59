-- "its bytes are those of the text": a token is spelt as its word says, and one that is left open ends with the text.
use mathlib.Core.Bool.{Bool, true, false, not}
use mathlib.Core.Path.{◌≡◌, refl, ap, ◌∙◌}
use mathlib.Core.List.{List, [], ◌∷◌}
use mathlib.Core.Logic.{◌⊎◌, inl, inr}
use Prim.Native.Nat.{ℕ, zero, suc, ◌+◌, ◌-◌, ◌<◌, ◌≤◌}
use native.Mathlib.Omega.{arith}
use lib.Dec.{ltb, eqb}
use lib.ListN.{length, take, drop, get_or, length-take, length-drop}
use lib.Seq.{get_or-take, take-nil, take_all, take-length, drop-drop}
use borrow.Author.Tests.{ltb-true, ltb-false, eqb-true, eqb-false}
use Rattle.std.specs.Prelude.{if◌then◌else◌, Option, Some, None, Result, Ok, Err}
use Rattle.chars.specs.Ascii.{is_blank, is_line_end, is_letter, is_name_byte, is_number_byte, is_digit}
use Rattle.chars.specs.Run.{run, every}
use Rattle.chars.specs.declared.Radix.TheVariants.{Decimal}
use Rattle.chars.proofs.Laws.{either, run_take, and_left, and_both}
use Rattle.vocabulary.specs.Vocabulary.{keyword_of, mark_of, mark_bytes}
use Rattle.vocabulary.specs.declared.Lookup.{Lookup}
use Rattle.vocabulary.specs.declared.Lookup.TheVariants as lookup
use Rattle.vocabulary.specs.declared.Mark.{Mark}
use Rattle.vocabulary.proofs.Laws.{keyword_spelt, mark_spelt}
use Rattle.numbers.specs.Number.{number_of}
use Rattle.lex.specs.declared.Cause.TheVariants as cause
use Rattle.lex.specs.declared.Token.{Token}
use Rattle.lex.specs.declared.Word.{Word}
use Rattle.lex.specs.declared.Word.TheVariants as word
use Rattle.basics.specs.Limits.{name_limit, string_limit}
use Rattle.lex.specs.Blank.{blanks, in_line, in_block, next_from}
use Rattle.lex.specs.Quote.{closes, closing}
use Rattle.lex.specs.Token.{token, keyword_word, name_word, number_word, name_token, number_token, string_to, string_token, longer, mark_word, mark_token, token_from, token_past, token_at}
use Rattle.lex.specs.Spelt.{token_bytes, NameBytes, ToQuote, to_quote_end, to_quote_on, NoQuote, no_quote_end, no_quote_on, Unended, unended_none, unended_one, unended_on, StringBytes, long_name, no_number, long_string, no_word, LeftOpen, open_string, open_comment, Spelt}
use Rattle.lex.proofs.Bounds.{Found, Closed, closing-found, number_byte, from_lies, next_found}
use Rattle.numbers.specs.declared.BadNumber.{BadNumber}
use Rattle.numbers.specs.declared.BadNumber.TheVariants.{Malformed, TooWide}

-- the bytes of a run are all in its class
run_all : (P : ℕ → Bool) (s : List ℕ) → every P (run P s) ≡ true
unfolding run every
run_all P [] = refl
run_all P (b ∷ s) = either (λ (l : List ℕ). every P l ≡ true) (P b) (λ e. and_both (P b) (every P (run P s)) e (run_all P s)) (λ _. refl)

-- and its first byte is that of the text
run_first : (P : ℕ → Bool) (b : ℕ) (s : List ℕ) → P b ≡ true → run P (b ∷ s) ≡ b ∷ run P s
unfolding run
run_first P b s e = rw e

name_bytes : (b : ℕ) (s : List ℕ) → is_letter b ≡ true → NameBytes (run is_name_byte (b ∷ s))
unfolding is_name_byte
name_bytes b s e =
    let r : run is_name_byte (b ∷ s) ≡ b ∷ run is_name_byte s = run_first is_name_byte b s (rw e) in
    record { some = rw r (omega arith); first = rw r e; all = run_all is_name_byte (b ∷ s) }

name_spelt : (n : List ℕ) → NameBytes n → Spelt (name_word n) n
unfolding name_word
name_spelt n h = either (λ (w : Word). Spelt w n) (ltb name_limit (length n)) (λ l. long_name h (ltb-true name_limit (length n) l)) (λ l. found l (keyword_of n) refl)
  where
    found : ltb name_limit (length n) ≡ false → (x : Lookup) → keyword_of n ≡ x → Spelt (keyword_word x) n
    found l (lookup.Kept k) e = keyword_spelt n e
    found l lookup.LeftOut e = e
    found l lookup.NotKeyword e = record { name = h; limit = ltb-false name_limit (length n) l; plain = e }

number_first : (b : ℕ) (s : List ℕ) → is_digit Decimal b ≡ true → is_digit Decimal (get_or (run is_number_byte (b ∷ s)) 0 0) ≡ true
number_first b s e = rw (run_first is_number_byte b s (number_byte b e)) e

number_spelt : (n : List ℕ) → is_digit Decimal (get_or n 0 0) ≡ true → every is_number_byte n ≡ true → (x : Result ℕ BadNumber) → number_of n ≡ x → Spelt (number_word x) n
number_spelt n d a (Ok v) e = e
number_spelt n d a (Err Malformed) e = no_number d a e
number_spelt n d a (Err TooWide) e = e

-- the bytes of `s`, the text from p on, that a token from p to e has
abbrev At-place : ℕ → List ℕ → Token → Type 0
At-place p s k = Spelt k.word (take (k.end - p) s)

run_place : (P : ℕ → Bool) (p : ℕ) (s : List ℕ) (w : Word) → Spelt w (run P s) → At-place p s (token w p (p + length (run P s)))
run_place P p s w h =
    let n : p + length (run P s) - p ≡ length (run P s) = omega arith in
    rw (n, run_take P s) h

take-length-take : (k : ℕ) (s : List ℕ) → take (length (take k s)) s ≡ take k s
take-length-take zero s = refl
take-length-take (suc k) [] = refl
take-length-take (suc k) (b ∷ s) = ap (λ (l : List ℕ). b ∷ l) (take-length-take k s)

mark_place : (p b : ℕ) (s : List ℕ) → is_letter b ≡ false → is_digit Decimal b ≡ false → eqb b 34 ≡ false → At-place p (b ∷ s) (mark_token p (b ∷ s))
unfolding mark_token
mark_place p b s l d q = cases (mark_of (take 2 (b ∷ s))) (mark_of (take 1 (b ∷ s))) refl refl
  where
    known : (k : ℕ) (m : Mark) → mark_of (take k (b ∷ s)) ≡ Some m → At-place p (b ∷ s) (mark_word p (Some m))
    known k m e =
        let w : take k (b ∷ s) ≡ mark_bytes m = mark_spelt (take k (b ∷ s)) e in
        let n : p + length (mark_bytes m) - p ≡ length (mark_bytes m) = omega arith in
        rw (n, ← w, take-length-take k (b ∷ s))

    cases : (x y : Option Mark) → mark_of (take 2 (b ∷ s)) ≡ x → mark_of (take 1 (b ∷ s)) ≡ y → At-place p (b ∷ s) (mark_word p (longer x y))
    cases (Some m) y e f = known 2 m e
    cases None (Some m) e f = known 1 m f
    cases None None e f =
        let n : p + 1 - p ≡ 1 = omega arith in
        rw n (no_word b refl l d (eqb-false b 34 q) f)

-- the byte at the place of a closing quote is a quote
quote_here : (before p b : ℕ) (s : List ℕ) (q : ℕ) → closes before b ≡ true → ◌≡◌ {A = Result ℕ ℕ} (Ok p) (Ok q) → get_or (b ∷ s) (q - p) 0 ≡ 34
unfolding closes
quote_here before p b s q c e =
    let m : p ≡ q = cc in
    let n : q - p ≡ 0 = omega arith in
    rw n (eqb-true b 34 (and_left (eqb b 34) (not (eqb before 92)) c))

quote_later : (o b p : ℕ) (s : List ℕ) (q : ℕ) → closing o b (p + 1) s ≡ Ok q → get_or s (q - (p + 1)) 0 ≡ 34 → get_or (b ∷ s) (q - p) 0 ≡ 34
quote_later o b p s q e h =
    let c : Closed (p + 1) (p + 1 + length s) (Ok q) = rw e at (closing-found o b (p + 1) s (p + 1 + length s) (omega arith)) in
    let n : q - p ≡ suc (q - (p + 1)) = omega arith in
    rw n h

closing_quote : (o before p : ℕ) (s : List ℕ) (q : ℕ) → closing o before p s ≡ Ok q → get_or s (q - p) 0 ≡ 34
unfolding closing
closing_quote o before p [] q = λ e. absurd (let z : ◌≡◌ {A = ℕ} 0 1 = cc in omega arith)
closing_quote o before p (b ∷ s) q =
    either (λ (x : Result ℕ ℕ). x ≡ Ok q → get_or (b ∷ s) (q - p) 0 ≡ 34) (closes before b) (λ c e. quote_here before p b s q c e)
    (λ _ e. quote_later o b p s q e (closing_quote o b (p + 1) s q e))

-- up to it, the bytes run from the opening quote; where there is none, no byte closes
closing_runs : (o before p : ℕ) (s : List ℕ) (q : ℕ) → closing o before p s ≡ Ok q → ToQuote before (take (suc (q - p)) s)
unfolding closing
closing_runs o before p [] q = λ e. absurd (let z : ◌≡◌ {A = ℕ} 0 1 = cc in omega arith)
closing_runs o before p (b ∷ s) q =
    either (λ (x : Result ℕ ℕ). x ≡ Ok q → ToQuote before (take (suc (q - p)) (b ∷ s))) (closes before b) (λ c e. here c e) (λ c e. later c e (closing_runs o b (p + 1) s q e))
  where
    here : closes before b ≡ true → ◌≡◌ {A = Result ℕ ℕ} (Ok p) (Ok q) → ToQuote before (take (suc (q - p)) (b ∷ s))
    here c e =
        let m : p ≡ q = cc in
        let n : q - p ≡ 0 = omega arith in
        rw n (to_quote_end c)

    later : closes before b ≡ false → closing o b (p + 1) s ≡ Ok q → ToQuote b (take (suc (q - (p + 1))) s) → ToQuote before (take (suc (q - p)) (b ∷ s))
    later c e r =
        let w : Closed (p + 1) (p + 1 + length s) (Ok q) = rw e at (closing-found o b (p + 1) s (p + 1 + length s) (omega arith)) in
        let n : q - p ≡ suc (q - (p + 1)) = omega arith in
        rw n (to_quote_on c r)

closing_open : (o before p : ℕ) (s : List ℕ) {u : ℕ} → closing o before p s ≡ Err u → NoQuote before s
unfolding closing
closing_open o before p [] = λ _. no_quote_end
closing_open o before p (b ∷ s) {u} =
    either (λ (x : Result ℕ ℕ). x ≡ Err u → NoQuote before (b ∷ s)) (closes before b) (λ _ e. absurd (let z : ◌≡◌ {A = ℕ} 0 1 = cc in omega arith))
    (λ c e. no_quote_on c (closing_open o b (p + 1) s e))

-- a quote, `d` bytes and a quote
string_bytes : (d : ℕ) (s : List ℕ) → d < length s → get_or s d 0 ≡ 34 → ToQuote 34 (take (suc d) s) → StringBytes (34 ∷ take (suc d) s)
string_bytes d s h g r =
    let w : length (take (suc d) s) ≡ suc d = simp length-take (omega arith) in
    let n : suc (length (take (suc d) s)) - 1 ≡ suc d = omega arith in
    record { first = refl; last = rw (n, get_or-take (suc d) s d 0 (omega arith)) g; runs = r }

string_place : (p : ℕ) (s : List ℕ) → At-place p (34 ∷ s) (string_token p (34 ∷ s))
unfolding string_token
string_place p s = ended (closing p 34 (p + 1) s) refl
  where
    closed : (q : ℕ) → closing p 34 (p + 1) s ≡ Ok q → Spelt (if ltb string_limit (q - (p + 1)) then word.Bad cause.Malformed else word.String) (take (q + 1 - p) (34 ∷ s))
    closed q e =
        let c : Closed (p + 1) (p + suc (length s)) (Ok q) = rw e at (closing-found p 34 (p + 1) s (p + suc (length s)) (omega arith)) in
        let n : q + 1 - p ≡ suc (suc (q - (p + 1))) = omega arith in
        let d : ℕ = q - (p + 1) in
        let m : length (take (suc d) s) ≡ suc d = simp length-take (omega arith) in
        let w : StringBytes (34 ∷ take (suc d) s) = string_bytes d s (omega arith) (closing_quote p 34 (p + 1) s q e) (closing_runs p 34 (p + 1) s q e) in
        rw n
        (either (λ (x : Word). Spelt x (34 ∷ take (suc d) s)) (ltb string_limit d) (λ l. long_string w (omega (arith, m, ltb-true string_limit d l)))
        (λ l. record { string = w; limit = omega (arith, m, ltb-false string_limit d l) }))

    ended : (x : Result ℕ ℕ) → closing p 34 (p + 1) s ≡ x → At-place p (34 ∷ s) (string_to p (p + suc (length s)) x)
    ended (Ok q) e = closed q e
    ended (Err o) e =
        let n : p + suc (length s) - p ≡ suc (length s) = omega arith in
        rw (n, take-length s) (open_string s refl (closing_open p 34 (p + 1) s e))

from_place : (p : ℕ) (s : List ℕ) → At-place p s (token_from p s)
unfolding token_from name_token number_token
from_place p [] = take-nil (p - p)
from_place p (b ∷ s) =
    let Q = At-place p (b ∷ s) in
    either Q (is_letter b) (λ e. run_place is_name_byte p (b ∷ s) (name_word (run is_name_byte (b ∷ s))) (name_spelt (run is_name_byte (b ∷ s)) (name_bytes b s e)))
    (λ l. either Q (is_digit Decimal b) (λ e. run_place is_number_byte p (b ∷ s) (number_word (number_of (run is_number_byte (b ∷ s)))) (number e))
    (λ d. either Q (eqb b 34) (λ e. quote (eqb-true b 34 e)) (λ q. mark_place p b s l d q)))
  where
    number : is_digit Decimal b ≡ true → Spelt (number_word (number_of (run is_number_byte (b ∷ s)))) (run is_number_byte (b ∷ s))
    number e = number_spelt (run is_number_byte (b ∷ s)) (number_first b s e) (run_all is_number_byte (b ∷ s)) _ refl

    quote : b ≡ 34 → At-place p (b ∷ s) (string_token p (b ∷ s))
    quote e = rw e (string_place p s)

-- Comments that the text's end leaves open. `s` is the text from the place p on.
abbrev Opens : ℕ → List ℕ → Result ℕ ℕ → Type 0
Opens p s (Ok i) = Unit {0}
Opens p s (Err o) = (p ≤ o) × LeftOpen (drop (o - p) s)

-- in a comment that starts at `first`: it is left open, or a later one is
abbrev OpensIn : ℕ → ℕ → List ℕ → Result ℕ ℕ → Type 0
OpensIn first p s (Ok i) = Unit {0}
OpensIn first p s (Err o) = ((o ≡ first) × Unended s) ⊎ ((p ≤ o) × LeftOpen (drop (o - p) s))

module _ (p b : ℕ) where
  opens_on : (s : List ℕ) (x : Result ℕ ℕ) → Opens (p + 1) s x → Opens p (b ∷ s) x
  opens_on s (Ok i) h = tt
  opens_on s (Err o) h =
      let n : o - p ≡ suc (o - (p + 1)) = omega arith in
      (omega arith, rw n h.1)

  module _ (c : ℕ) (s : List ℕ) where
    opens_two : (x : Result ℕ ℕ) → Opens (p + 2) s x → Opens p (b ∷ c ∷ s) x
    opens_two (Ok i) h = tt
    opens_two (Err o) h =
        let n : o - p ≡ suc (suc (o - (p + 2))) = omega arith in
        (omega arith, rw n h.1)

    opens_block : (x : Result ℕ ℕ) → b ≡ 47 → c ≡ 42 → OpensIn p (p + 2) s x → Opens p (b ∷ c ∷ s) x
    opens_block (Ok i) e f h = tt
    opens_block (Err o) e f (inl h) =
        let n : o - p ≡ 0 = omega arith in
        (omega arith, rw n (open_comment s (rw (e, f)) h.1))
    opens_block (Err o) e f (inr h) = opens_two (Err o) h

    block_on : (first : ℕ) (x : Result ℕ ℕ) → (b ≡ 42 → c ≡ 47 → ⊥) → OpensIn first (p + 1) (c ∷ s) x → OpensIn first p (b ∷ c ∷ s) x
    block_on first (Ok i) n h = tt
    block_on first (Err o) n (inl h) = inl (h.0, unended_on n h.1)
    block_on first (Err o) n (inr h) = inr (opens_on (c ∷ s) (Err o) h)

block_past : (first p : ℕ) (s : List ℕ) (x : Result ℕ ℕ) → Opens p s x → OpensIn first p s x
block_past first p s (Ok i) h = tt
block_past first p s (Err o) h = inr h

mutual
  unfolding blanks

  blanks_opens : (p : ℕ) (s : List ℕ) → Opens p s (blanks p s)
  blanks_opens p [] = tt
  blanks_opens p (b ∷ []) = either (Opens p (b ∷ [])) (is_blank b) (λ _. tt) (λ _. tt)
  blanks_opens p (b ∷ c ∷ s) =
      let Q = Opens p (b ∷ c ∷ s) in
      either Q (is_blank b) (λ _. opens_on p b (c ∷ s) (blanks (p + 1) (c ∷ s)) (blanks_opens (p + 1) (c ∷ s)))
      (λ _. either Q (eqb b 47)
      (λ e. either Q (eqb c 47) (λ _. opens_two p b c s (in_line (p + 2) s) (line_opens (p + 2) s))
      (λ _. either Q (eqb c 42) (λ f. opens_block p b c s (in_block p (p + 2) s) (eqb-true b 47 e) (eqb-true c 42 f) (block_opens p (p + 2) s)) (λ _. tt)))
      (λ _. tt))

  line_opens : (p : ℕ) (s : List ℕ) → Opens p s (in_line p s)
  line_opens p [] = tt
  line_opens p (b ∷ s) =
      either (Opens p (b ∷ s)) (is_line_end b) (λ _. opens_on p b s (blanks (p + 1) s) (blanks_opens (p + 1) s)) (λ _. opens_on p b s (in_line (p + 1) s) (line_opens (p + 1) s))

  block_opens : (first p : ℕ) (s : List ℕ) → OpensIn first p s (in_block first p s)
  block_opens first p [] = inl (refl, unended_none)
  block_opens first p (b ∷ []) = inl (refl, unended_one)
  block_opens first p (b ∷ c ∷ s) =
      let Q = OpensIn first p (b ∷ c ∷ s) in
      let more = in_block first (p + 1) (c ∷ s) in
      either Q (eqb b 42)
      (λ e. either Q (eqb c 47) (λ _. block_past first p (b ∷ c ∷ s) (blanks (p + 2) s) (opens_two p b c s (blanks (p + 2) s) (blanks_opens (p + 2) s)))
      (λ f. block_on p b c s first more (λ _ g. eqb-false c 47 f g) (block_opens first (p + 1) (c ∷ s))))
      (λ e. block_on p b c s first more (λ g _. eqb-false b 42 e g) (block_opens first (p + 1) (c ∷ s)))

pub token_spelt : (t : List ℕ) (at : ℕ) → Spelt (token_at t at).word (token_bytes t (token_at t at))
unfolding token_at next_from
token_spelt t at = past (next_from t at) (blanks_opens at (drop at t))
  where
    past : (x : Result ℕ ℕ) → Opens at (drop at t) x → Spelt (token_past t x).word (token_bytes t (token_past t x))
    past (Ok i) h = rw (from_lies i (drop i t)).starts (from_place i (drop i t))
    past (Err o) h =
        let n : at + (o - at) ≡ o = omega arith in
        let w : drop (o - at) (drop at t) ≡ drop o t = rw (drop-drop (o - at) at t, n) in
        let l : take (length t - o) (drop o t) ≡ drop o t = take_all (length t - o) (drop o t) (simp length-drop (omega arith)) in
        rw (l, ← w) h.1

-- A bad word that is left open ends with the text: no other word has its cause.
abbrev LeftToEnd : ℕ → Token → Type 0
LeftToEnd high k = k.word ≡ word.Bad cause.Unclosed → k.end ≡ high

name_not_open : {X : Type 0} (n : List ℕ) → name_word n ≡ word.Bad cause.Unclosed → X
unfolding name_word
name_not_open {X} n =
    either (λ (w : Word). w ≡ word.Bad cause.Unclosed → X) (ltb name_limit (length n)) (λ _ e. absurd (let z : ◌≡◌ {A = ℕ} 0 1 = cc in omega arith)) (λ _. found (keyword_of n))
  where
    found : (x : Lookup) → keyword_word x ≡ word.Bad cause.Unclosed → X
    found (lookup.Kept k) e = absurd (let z : ◌≡◌ {A = ℕ} 0 1 = cc in omega arith)
    found lookup.LeftOut e = absurd (let z : ◌≡◌ {A = ℕ} 0 1 = cc in omega arith)
    found lookup.NotKeyword e = absurd (let z : ◌≡◌ {A = ℕ} 0 1 = cc in omega arith)

number_not_open : {X : Type 0} (x : Result ℕ BadNumber) → number_word x ≡ word.Bad cause.Unclosed → X
number_not_open (Ok v) e = absurd (let z : ◌≡◌ {A = ℕ} 0 1 = cc in omega arith)
number_not_open (Err Malformed) e = absurd (let z : ◌≡◌ {A = ℕ} 0 1 = cc in omega arith)
number_not_open (Err TooWide) e = absurd (let z : ◌≡◌ {A = ℕ} 0 1 = cc in omega arith)

mark_not_open : {X : Type 0} (p : ℕ) (x : Option Mark) → (mark_word p x).word ≡ word.Bad cause.Unclosed → X
mark_not_open p (Some m) e = absurd (let z : ◌≡◌ {A = ℕ} 0 1 = cc in omega arith)
mark_not_open p None e = absurd (let z : ◌≡◌ {A = ℕ} 0 1 = cc in omega arith)

string_to_end : (p high : ℕ) (x : Result ℕ ℕ) → LeftToEnd high (string_to p high x)
string_to_end p high (Ok q) =
    either (λ (w : Word). w ≡ word.Bad cause.Unclosed → q + 1 ≡ high) (ltb string_limit (q - (p + 1))) (λ _ e. absurd (let z : ◌≡◌ {A = ℕ} 0 1 = cc in omega arith))
    (λ _ e. absurd (let z : ◌≡◌ {A = ℕ} 0 1 = cc in omega arith))
string_to_end p high (Err o) = λ e. refl

from_to_end : (p : ℕ) (s : List ℕ) → LeftToEnd (p + length s) (token_from p s)
unfolding token_from name_token number_token string_token mark_token
from_to_end p [] = λ e. absurd (let z : ◌≡◌ {A = ℕ} 0 1 = cc in omega arith)
from_to_end p (b ∷ s) =
    let Q = LeftToEnd (p + suc (length s)) in
    either Q (is_letter b) (λ _. name_not_open (run is_name_byte (b ∷ s)))
    (λ _. either Q (is_digit Decimal b) (λ _. number_not_open (number_of (run is_number_byte (b ∷ s))))
    (λ _. either Q (eqb b 34) (λ _. string_to_end p (p + suc (length s)) (closing p 34 (p + 1) s))
    (λ _. mark_not_open p (longer (mark_of (take 2 (b ∷ s))) (mark_of (take 1 (b ∷ s)))))))

pub open_to_end : (t : List ℕ) (at : ℕ) → at ≤ length t → (token_at t at).word ≡ word.Bad cause.Unclosed → (token_at t at).end ≡ length t
unfolding token_at
open_to_end t at h = past (next_from t at) (next_found t at h)
  where
    past : (x : Result ℕ ℕ) → Found at at (length t) x → LeftToEnd (length t) (token_past t x)
    past (Ok i) f e =
        let n : i + length (drop i t) ≡ length t = simp length-drop (omega arith) in
        from_to_end i (drop i t) e ∙ n
    past (Err o) f e = refl
