-- Tokens: document 01's words, with their places.
use Rattle.std.specs.Prelude.{List, [], ◌∷◌, ℕ, ◌+◌, ◌-◌, ltb, eqb, length, take, drop, Option, Some, None, Result, Ok, Err}
use Rattle.std.specs.Prelude.{if◌then◌else◌}
use Rattle.std.specs.Option.{option_or}
use Rattle.chars.specs.Ascii.{is_letter, is_name_byte, is_number_byte, is_digit}
use Rattle.chars.specs.Run.{run}
use Rattle.chars.specs.declared.Radix.TheVariants.{Decimal}
use Rattle.vocabulary.specs.Vocabulary.{keyword_of, mark_of, mark_bytes}
use Rattle.vocabulary.specs.declared.Lookup.{Lookup}
use Rattle.vocabulary.specs.declared.Lookup.TheVariants as lookup
use Rattle.numbers.specs.Number.{number_of}
use Rattle.basics.specs.Limits.{name_limit, string_limit}
use Rattle.lex.specs.Blank.{next_from}
use Rattle.lex.specs.Quote.{closing}
use Rattle.lex.specs.declared.Cause.TheVariants as cause
use Rattle.lex.specs.declared.Word.{Word}
use Rattle.lex.specs.declared.Word.TheVariants as word
use Rattle.lex.specs.declared.Token.{Token}
use Rattle.vocabulary.specs.declared.Mark.{Mark}
use Rattle.numbers.specs.declared.BadNumber.{BadNumber}
use Rattle.numbers.specs.declared.BadNumber.TheVariants.{Malformed, TooWide}

abbrev pub token : Word → ℕ → ℕ → Token
token w p e = record { word = w; start = p; end = e }

-- what a word of letters, digits and underscores is: "a keyword used only there is 4"
abbrev pub keyword_word : Lookup → Word
keyword_word (lookup.Kept k) = word.Keyword k
keyword_word lookup.LeftOut = word.Bad cause.LeftOut
keyword_word lookup.NotKeyword = word.Name

-- "at most 31 bytes"
unfoldable pub name_word : List ℕ → Word
name_word n = if ltb name_limit (length n) then word.Bad cause.Malformed else keyword_word (keyword_of n)

abbrev pub number_word : Result ℕ BadNumber → Word
number_word (Ok n) = word.Number n
number_word (Err Malformed) = word.Bad cause.Malformed
number_word (Err TooWide) = word.Bad cause.TooWide

-- Below, `s` is the text from the place `p` on.

-- a name or keyword: "then all letters, digits, underscores that follow"
unfoldable pub name_token : ℕ → List ℕ → Token
name_token p s = token (name_word (run is_name_byte s)) p (p + length (run is_name_byte s))

-- a number: "no letter, digit, underscore or `'` may follow it directly", so they are all its bytes
unfoldable pub number_token : ℕ → List ℕ → Token
number_token p s = token (number_word (number_of (run is_number_byte s))) p (p + length (run is_number_byte s))

-- a string that its closing quote ends, or that the text's end `e` leaves open: "at most 4,096 bytes inside"
abbrev pub string_to : ℕ → ℕ → Result ℕ ℕ → Token
string_to p e (Ok q) = token (if ltb string_limit (q - (p + 1)) then word.Bad cause.Malformed else word.String) p (q + 1)
string_to p e (Err o) = token (word.Bad cause.Unclosed) p e

unfoldable pub string_token : ℕ → List ℕ → Token
string_token p s = string_to p (p + length s) (closing p 34 (p + 1) (drop 1 s))

-- the longest mark is taken first
abbrev pub longer : Option Mark → Option Mark → Option Mark
longer long short = option_or long short

abbrev pub mark_word : ℕ → Option Mark → Token
mark_word p (Some m) = token (word.Mark m) p (p + length (mark_bytes m))
mark_word p None = token (word.Bad cause.Malformed) p (p + 1)

unfoldable pub mark_token : ℕ → List ℕ → Token
mark_token p s = mark_word p (longer (mark_of (take 2 s)) (mark_of (take 1 s)))

-- the token that starts at the place `p`, chosen by its first byte (34 is a quote)
unfoldable pub token_from : ℕ → List ℕ → Token
token_from p [] = token word.End p p
token_from p (b ∷ s) =
    if is_letter b then name_token p (b ∷ s) else
    if is_digit Decimal b then number_token p (b ∷ s) else
    if eqb b 34 then string_token p (b ∷ s) else
    mark_token p (b ∷ s)

abbrev pub token_past : List ℕ → Result ℕ ℕ → Token
token_past text (Ok i) = token_from i (drop i text)
token_past text (Err o) = token (word.Bad cause.Unclosed) o (length text)

-- the token at a place of a text: blanks are passed over first, and the end of text is a token
unfoldable pub token_at : List ℕ → ℕ → Token
token_at text at = token_past text (next_from text at)
