-- A name's bytes: a letter or underscore, then letters, digits and underscores, at most 31 in all.
use mathlib.Core.Bool.{Bool, true, false}
use mathlib.Core.Path.{◌≡◌, refl}
use mathlib.Core.List.{List, [], ◌∷◌}
use Prim.Native.Nat.{ℕ, suc, ◌+◌, ◌-◌, ◌≤◌}
use native.Mathlib.Omega.{arith}
use lib.Dec.{ltb, eqb}
use lib.ListN.{length, take, drop}
use borrow.Author.Tests.{ltb-false}
use Rattle.chars.specs.Ascii.{is_letter, is_name_byte, is_number_byte, is_digit}
use Rattle.chars.specs.Run.{run, every}
use Rattle.chars.specs.declared.Radix.TheVariants.{Decimal}
use Rattle.chars.proofs.Laws.{either, run_take}
use Rattle.vocabulary.specs.Vocabulary.{keyword_of, mark_of}
use Rattle.vocabulary.specs.declared.Lookup.{Lookup}
use Rattle.vocabulary.specs.declared.Lookup.TheVariants as lookup
use Rattle.numbers.specs.Number.{number_of}
use Rattle.basics.specs.Limits.{name_limit, string_limit}
use Rattle.lex.specs.Blank.{next_from}
use Rattle.lex.specs.Quote.{closing}
use Rattle.lex.specs.Token.{keyword_word, name_word, number_word, name_token, number_token, string_to, string_token, longer, mark_word, mark_token, token_from, token_past, token_at}
use Rattle.lex.specs.declared.Token.{Token}
use Rattle.lex.specs.declared.Word.{Word}
use Rattle.lex.specs.declared.Word.TheVariants as word
use Rattle.lex.proofs.Bounds.{from_lies}
use Rattle.parts.specs.Words.{is_name}
use Rattle.identifiers.specs.Names.{bytes_of}
use Rattle.row_laws.specs.Sound.{SoundName, sound_name}
use Rattle.std.specs.Prelude.{Option, Some, None, Result, Ok, Err}
use Rattle.vocabulary.specs.declared.Mark.{Mark}
use Rattle.numbers.specs.declared.BadNumber.{BadNumber}
use Rattle.numbers.specs.declared.BadNumber.TheVariants.{Malformed, TooWide}

-- what the bytes of a word are, if it is a name
abbrev Sounds : Word → List ℕ → Type 0
Sounds word.End w = Unit {0}
Sounds word.Name w = SoundName w
Sounds (word.Keyword k) w = Unit {0}
Sounds (word.Number n) w = Unit {0}
Sounds word.String w = Unit {0}
Sounds (word.Mark m) w = Unit {0}
Sounds (word.Bad c) w = Unit {0}

run-every : (P : ℕ → Bool) (s : List ℕ) → every P (run P s) ≡ true
unfolding run every
run-every P [] = refl
run-every P (b ∷ s) = either (λ (l : List ℕ). every P l ≡ true) (P b) (λ e. rw (e, run-every P s)) (λ _. refl)

run_first : (P : ℕ → Bool) (b : ℕ) (s : List ℕ) → P b ≡ true → run P (b ∷ s) ≡ b ∷ run P s
unfolding run
run_first P b s e = rw e

letter_name : (b : ℕ) → is_letter b ≡ true → is_name_byte b ≡ true
unfolding is_name_byte
letter_name b e = rw e

name_sounds : (b : ℕ) (n : List ℕ) → is_letter b ≡ true → every is_name_byte n ≡ true → Sounds (name_word (b ∷ n)) (b ∷ n)
unfolding name_word
name_sounds b n e f = either (λ (w : Word). Sounds w (b ∷ n)) (ltb name_limit (length (b ∷ n))) (λ _. tt) (λ l. found l (keyword_of (b ∷ n)))
  where
    found : ltb name_limit (suc (length n)) ≡ false → (x : Lookup) → Sounds (keyword_word x) (b ∷ n)
    found l (lookup.Kept k) = tt
    found l lookup.LeftOut = tt
    found l lookup.NotKeyword =
        let h : suc (length n) ≤ name_limit = ltb-false name_limit (suc (length n)) l in
        sound_name {b = b} {bs = n} e f (omega (arith, h))

-- the bytes of `s`, the text from p on, that a token from p to e has
abbrev At-place : ℕ → List ℕ → Token → Type 0
At-place p s k = Sounds k.word (take (k.end - p) s)

name_place_lem : (p b : ℕ) (s : List ℕ) → is_letter b ≡ true → At-place p (b ∷ s) (name_token p (b ∷ s))
unfolding name_token
name_place_lem p b s e =
    let r : run is_name_byte (b ∷ s) ≡ b ∷ run is_name_byte s = run_first is_name_byte b s (letter_name b e) in
    let n : p + length (run is_name_byte (b ∷ s)) - p ≡ length (run is_name_byte (b ∷ s)) = omega arith in
    rw (n, run_take is_name_byte (b ∷ s), r) (name_sounds b (run is_name_byte s) e (run-every is_name_byte s))

number_sounds : (x : Result ℕ BadNumber) (w : List ℕ) → Sounds (number_word x) w
number_sounds (Ok v) w = tt
number_sounds (Err Malformed) w = tt
number_sounds (Err TooWide) w = tt

number_place : (p : ℕ) (s : List ℕ) → At-place p s (number_token p s)
unfolding number_token
number_place p s = number_sounds (number_of (run is_number_byte s)) _

string_place : (p : ℕ) (s : List ℕ) → At-place p s (string_token p s)
unfolding string_token
string_place p s = ended (closing p 34 (p + 1) (drop 1 s))
  where
    ended : (x : Result ℕ ℕ) → At-place p s (string_to p (p + length s) x)
    ended (Ok q) = either (λ (w : Word). Sounds w (take (q + 1 - p) s)) (ltb string_limit (q - (p + 1))) (λ _. tt) (λ _. tt)
    ended (Err o) = tt

mark_place : (p : ℕ) (s : List ℕ) → At-place p s (mark_token p s)
unfolding mark_token
mark_place p s = known (longer (mark_of (take 2 s)) (mark_of (take 1 s)))
  where
    known : (x : Option Mark) → At-place p s (mark_word p x)
    known (Some m) = tt
    known None = tt

from_place : (p : ℕ) (s : List ℕ) → At-place p s (token_from p s)
unfolding token_from
from_place p [] = tt
from_place p (b ∷ s) =
    let Q = At-place p (b ∷ s) in
    either Q (is_letter b) (λ e. name_place_lem p b s e) (λ _.
    either Q (is_digit Decimal b) (λ _. number_place p (b ∷ s)) (λ _.
    either Q (eqb b 34) (λ _. string_place p (b ∷ s)) (λ _. mark_place p (b ∷ s))))

token_sounds : (t : List ℕ) (at : ℕ) → Sounds (token_at t at).word (bytes_of t (token_at t at).start (token_at t at).end)
unfolding token_at bytes_of
token_sounds t at = past (next_from t at)
  where
    past : (x : Result ℕ ℕ) → Sounds (token_past t x).word (take ((token_past t x).end - (token_past t x).start) (drop (token_past t x).start t))
    past (Ok i) = rw (from_lies i (drop i t)).starts (from_place i (drop i t))
    past (Err o) = tt

word_sounds : (w : Word) (n : List ℕ) → is_name w ≡ true → Sounds w n → SoundName n
unfolding is_name
word_sounds word.End n e s = cc
word_sounds word.Name n e s = s
word_sounds (word.Keyword k) n e s = cc
word_sounds (word.Number v) n e s = cc
word_sounds word.String n e s = cc
word_sounds (word.Mark m) n e s = cc
word_sounds (word.Bad c) n e s = cc

-- a token that is a name
pub token_named : (t : List ℕ) (at : ℕ) → is_name (token_at t at).word ≡ true → SoundName (bytes_of t (token_at t at).start (token_at t at).end)
token_named t at e = word_sounds (token_at t at).word _ e (token_sounds t at)
