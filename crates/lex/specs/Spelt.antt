-- What the bytes of a token are: the statement of the law that a token's bytes are those of the text.
use Rattle.std.specs.Prelude.{true, false, ◌≡◌, List, [], ◌∷◌, ℕ, ◌-◌, ◌+◌, ◌<◌, ◌≤◌, length, take, drop, get_or, None, Ok, Err}
use Rattle.chars.specs.Ascii.{is_letter, is_name_byte, is_number_byte, is_digit}
use Rattle.chars.specs.Run.{every}
use Rattle.chars.specs.declared.Radix.TheVariants.{Decimal}
use Rattle.vocabulary.specs.Vocabulary.{keyword_of, spelling, mark_of, mark_bytes}
use Rattle.vocabulary.specs.declared.Lookup.TheVariants as lookup
use Rattle.numbers.specs.Number.{number_of}
use Rattle.basics.specs.Limits.{name_limit, string_limit}
use Rattle.lex.specs.Quote.{closes}
use Rattle.lex.specs.declared.Cause.{Cause}
use Rattle.lex.specs.declared.Cause.TheVariants as cause
use Rattle.lex.specs.declared.Word.{Word}
use Rattle.lex.specs.declared.Word.TheVariants as word
use Rattle.lex.specs.declared.Token.{Token}
use Rattle.numbers.specs.declared.BadNumber.TheVariants.{Malformed, TooWide}

-- the bytes of a text from a token's start to its end
abbrev pub token_bytes : List ℕ → Token → List ℕ
token_bytes text k = take (k.end - k.start) (drop k.start text)

-- "letter or underscore, then all letters, digits, underscores that follow": one byte at least
pub record NameBytes (w : List ℕ) : Type 0 where
  pub some : 1 ≤ length w
  pub first : is_letter (get_or w 0 0) ≡ true
  pub all : every is_name_byte w ≡ true

-- a name: "at most 31 bytes", and no keyword
pub record Named (w : List ℕ) : Type 0 where
  pub name : NameBytes w
  pub limit : length w ≤ name_limit
  pub plain : keyword_of w ≡ lookup.NotKeyword

-- "to the next quote not behind a backslash": the last byte closes, and none before it does; `before` is the byte before the first
pub data ToQuote : ℕ → List ℕ → Type 0 where
  to_quote_end : {before b : ℕ} → closes before b ≡ true → ToQuote before (b ∷ [])
  to_quote_on : {before b : ℕ} {w : List ℕ} → closes before b ≡ false → ToQuote b w → ToQuote before (b ∷ w)

-- no byte of these closes
pub data NoQuote : ℕ → List ℕ → Type 0 where
  no_quote_end : {before : ℕ} → NoQuote before []
  no_quote_on : {before b : ℕ} {w : List ℕ} → closes before b ≡ false → NoQuote b w → NoQuote before (b ∷ w)

-- no `*`, 42, with a `/`, 47, behind it
pub data Unended : List ℕ → Type 0 where
  unended_none : Unended []
  unended_one : {b : ℕ} → Unended (b ∷ [])
  unended_on : {b c : ℕ} {w : List ℕ} → (b ≡ 42 → c ≡ 47 → ⊥) → Unended (c ∷ w) → Unended (b ∷ c ∷ w)

-- from the opening quote, 34, to the one that closes
pub record StringBytes (w : List ℕ) : Type 0 where
  pub first : get_or w 0 0 ≡ 34
  pub last : get_or w (length w - 1) 0 ≡ 34
  pub runs : ToQuote 34 (drop 1 w)

-- a string: "at most 4,096 bytes inside", between its two quotes
pub record Quoted (w : List ℕ) : Type 0 where
  pub string : StringBytes w
  pub limit : length w ≤ string_limit + 2

-- a bad word that is too long, or is no number, or is a byte that starts no word
pub data IllFormed (w : List ℕ) : Type 0 where
  long_name : NameBytes w → name_limit < length w → IllFormed w
  no_number : is_digit Decimal (get_or w 0 0) ≡ true → every is_number_byte w ≡ true → number_of w ≡ (Err Malformed) → IllFormed w
  long_string : StringBytes w → string_limit + 2 < length w → IllFormed w
  no_word : (b : ℕ) → w ≡ b ∷ [] → is_letter b ≡ false → is_digit Decimal b ≡ false → (b ≡ 34 → ⊥) → mark_of w ≡ None → IllFormed w

-- a bad word that the text's end leaves open (proofs/Bytes, open_to_end): a string, or a block comment
pub data LeftOpen (w : List ℕ) : Type 0 where
  open_string : (s : List ℕ) → w ≡ 34 ∷ s → NoQuote 34 s → LeftOpen w
  open_comment : (s : List ℕ) → w ≡ 47 ∷ 42 ∷ s → Unended s → LeftOpen w

-- the bytes `w` are those of a bad word with its cause
abbrev pub Spoilt : Cause → List ℕ → Type 0
Spoilt cause.Unclosed w = LeftOpen w
Spoilt cause.Malformed w = IllFormed w
Spoilt cause.TooWide w = number_of w ≡ (Err TooWide)
Spoilt cause.LeftOut w = keyword_of w ≡ lookup.LeftOut

-- the bytes `w` are those of the word
abbrev pub Spelt : Word → List ℕ → Type 0
Spelt word.End w = w ≡ []
Spelt word.Name w = Named w
Spelt (word.Keyword k) w = w ≡ spelling k
Spelt (word.Number n) w = number_of w ≡ Ok n
Spelt word.String w = Quoted w
Spelt (word.Mark m) w = w ≡ mark_bytes m
Spelt (word.Bad c) w = Spoilt c w
