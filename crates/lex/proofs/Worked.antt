-- Worked words, computed from the definitions: one table under one claim.
use mathlib.Core.Path.{◌≡◌, refl}
use mathlib.Core.List.{List, [], ◌∷◌, map}
use Prim.Native.Nat.{ℕ}
use Prim.Native.String.{String}
use Rattle.chars.specs.Ascii.{bytes, is_within, is_blank, is_line_end, is_letter, is_name_byte, is_number_byte, is_hex_digit, is_spaced_digit}
use Rattle.chars.specs.Run.{run, every}
use Rattle.chars.specs.Same.{same_bytes}
use Rattle.vocabulary.specs.Vocabulary.{chosen, entry, keyword_of, mark_of}
use Rattle.vocabulary.specs.declared.Keyword.TheVariants as keyword
use Rattle.vocabulary.specs.declared.Mark.TheVariants as mark
use Rattle.numbers.specs.Number.{digit_value, next_value, value_from, fitting, radix_of, plain_digits, spaced_digits, width_of, sized_number, sized_at, hex_prefixed, hex_number, number_of}
use Rattle.lex.specs.declared.Token.{Token}
use Rattle.lex.specs.declared.Word.{Word}
use Rattle.lex.specs.declared.Word.TheVariants.{End, Name, Keyword, Number, String as Quoted, Mark, Bad}
use Rattle.lex.specs.declared.Cause.TheVariants as cause
use Rattle.lex.specs.Blank.{blanks, next_from}
use Rattle.lex.specs.Quote.{closes, closing}
use Rattle.lex.specs.Token.{token, name_word, name_token, number_token, string_token, mark_token, token_from, token_at}

-- a text, and its first token
pub record Case : Type 0 where
  pub text : String
  pub first : Token

abbrev case : String → Word → ℕ → ℕ → Case
case s w p e = record { text = s; first = token w p e }

pub cases : List Case
cases =
    case "" End 0 0 ∷
    case "4'd15;" (Number 15) 0 5 ∷
    case "4'd16" (Bad cause.TooWide) 0 5 ∷
    case "4'3" (Bad cause.Malformed) 0 3 ∷
    case " 0X00fF," (Number 255) 1 7 ∷
    case "8'b1_0__1_ " (Number 5) 0 10 ∷
    case "8'b_1" (Bad cause.Malformed) 0 5 ∷
    case "18446744073709551615" (Number 18446744073709551615) 0 20 ∷
    case "18446744073709551616" (Bad cause.TooWide) 0 20 ∷
    case "1_0" (Bad cause.Malformed) 0 3 ∷
    case "/**/ // / a /* b\n\t/*/ * / */addrmap heron" (Keyword keyword.Addrmap) 28 35 ∷
    case "  /*/ a" (Bad cause.Unclosed) 2 7 ∷
    case "Addrmap_2{" Name 0 9 ∷
    case "componentwidth" (Bad cause.LeftOut) 0 14 ∷
    case "+=4" (Mark mark.PlusEquals) 0 2 ∷
    case "+ =" (Mark mark.Plus) 0 1 ∷
    case "<<=" (Mark mark.ShiftLeft) 0 2 ∷
    case "! =" (Bad cause.Malformed) 0 1 ∷
    case "\"a\\\"b\";" Quoted 0 6 ∷
    case "\"a\\\"" (Bad cause.Unclosed) 0 4 ∷
    []

pub worked : map (λ c. token_at (bytes c.text) 0) cases ≡ map (λ c. c.first) cases
unfolding cases is_within is_blank is_line_end is_letter is_name_byte is_number_byte is_hex_digit is_spaced_digit run every same_bytes chosen entry keyword_of mark_of digit_value next_value value_from fitting radix_of plain_digits spaced_digits width_of sized_number sized_at hex_prefixed hex_number number_of blanks next_from closes closing name_word name_token number_token string_token mark_token token_from token_at
worked = refl
