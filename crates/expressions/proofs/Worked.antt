-- Worked expressions, computed from the definitions: one table under one claim.
use mathlib.Core.Path.{◌≡◌, refl}
use mathlib.Core.List.{List, [], ◌∷◌, map}
use Prim.Native.Nat.{ℕ}
use Prim.Native.String.{String}
use Rattle.chars.specs.Ascii.{bytes, is_within, is_blank, is_line_end, is_letter, is_name_byte, is_number_byte, is_hex_digit, is_spaced_digit}
use Rattle.chars.specs.Run.{run, every}
use Rattle.chars.specs.Same.{same_bytes}
use Rattle.vocabulary.specs.Vocabulary.{chosen, entry, keyword_of, mark_of}
use Rattle.numbers.specs.Number.{digit_value, next_value, value_from, fitting, radix_of, plain_digits, spaced_digits, width_of, sized_number, sized_at, hex_prefixed, hex_number, number_of}
use Rattle.lex.specs.Blank.{blanks, next_from}
use Rattle.lex.specs.Quote.{closes, closing}
use Rattle.lex.specs.Token.{name_word, name_token, number_token, string_token, mark_token, token_from, token_at}
use Rattle.operators.specs.Operators.{result_of}
use Rattle.expressions.specs.Reading.{Parsed, ok, stop, and_then, mapped}
use Rattle.expressions.specs.Words.{part_of, in_row, operator_in}
use Rattle.expressions.specs.Value.{sound, refused_at, earlier, given, settled, joined, evaluated}
use Rattle.expressions.specs.Grammar.{joined_from, row_at, closed_at, operand_with, operand_at, expression_at, number_at}
use Rattle.expressions.specs.declared.Number.{Number}

-- a text, and what is read at its start
pub record Case : Type 0 where
  pub text : String
  pub reading : Parsed Number

-- an expression with its value, its place and its end; one that an operator refuses; a text that is no expression
abbrev value : String → ℕ → ℕ → ℕ → Case
value s n p e = record { text = s; reading = ok (sound n p) e }

abbrev refused : String → ℕ → ℕ → ℕ → Case
refused s o p e = record { text = s; reading = ok (refused_at o p) e }

abbrev none : String → ℕ → ℕ → Case
none s n p = record { text = s; reading = stop n p }

pub cases : List Case
cases =
    -- every row against its neighbours, and each row from the left
    value "1 & 2 == 2;" 1 0 10 ∷
    value "1 << 2 + 1" 8 0 10 ∷
    value "8 / 4 * 2" 4 0 9 ∷
    value "3 > 2 > 1" 0 0 9 ∷
    value "2+3*4" 14 0 5 ∷
    value "17 % 5 - 1" 1 0 10 ∷
    value "9 - 3 - 2" 4 0 9 ∷
    value "1 < 2 << 1" 1 0 10 ∷
    value "0 == 1 < 1" 1 0 10 ∷
    value "12 ^ 10 & 6" 14 0 11 ∷
    value "1 | 3 ^ 2" 1 0 9 ∷
    value "1 != 2 <= 0" 1 0 11 ∷
    value "3 >= 3" 1 0 6 ∷
    value "255 >> 4 >> 2" 3 0 13 ∷
    value "(2+3)*4" 20 0 7 ∷
    value " ( (7) ) ]" 7 1 8 ∷
    value "4'd15 + 1" 16 0 9 ∷
    value "4+=8" 4 0 1 ∷
    value "5 %=3" 5 0 1 ∷
    value "5 % 3" 2 0 5 ∷
    value "4 /* 5 */ + 1 // 2" 5 0 13 ∷
    -- each operator is judged by itself, none over a refused part; the first in the text answers
    refused "5 - 6 + 6" 2 0 9 ∷
    refused "3 << 63" 2 0 7 ∷
    refused "0 >> 64" 2 0 7 ∷
    refused "0 << 64" 2 0 7 ∷
    refused "7 - (1/0)" 6 0 9 ∷
    refused "0 % 0" 2 0 5 ∷
    refused "(1-2) + 1/0" 2 0 11 ∷
    refused "18446744073709551615 + 1" 21 0 24 ∷
    refused "4294967296 * 4294967296" 11 0 23 ∷
    value "4294967296 * 4294967295" 18446744069414584320 0 23 ∷
    value "1 << 63" 9223372036854775808 0 7 ∷
    -- what is no expression: 3 at the word in its place, 18 at the 17th parenthesis
    none "-1" 3 0 ∷
    none "1 + " 3 4 ∷
    none "1 + = 8" 3 4 ∷
    none "1 ** 2" 3 3 ∷
    none "1 === 1" 3 4 ∷
    none "(1 + 2" 3 6 ∷
    none "(1;" 3 2 ∷
    none "true" 3 0 ∷
    none "2 * a" 3 4 ∷
    none "()" 3 1 ∷
    value "((((((((((((((((1))))))))))))))))" 1 0 33 ∷
    none "(((((((((((((((((1)))))))))))))))))" 18 16 ∷
    none "1 + ((((((((((((((((((" 18 20 ∷
    none "((((((((((((((((*" 3 16 ∷
    []

pub worked : map (λ c. number_at (bytes c.text) 0) cases ≡ map (λ c. c.reading) cases
unfolding cases is_within is_blank is_line_end is_letter is_name_byte is_number_byte is_hex_digit is_spaced_digit run every same_bytes chosen entry keyword_of mark_of digit_value next_value value_from fitting radix_of plain_digits spaced_digits width_of sized_number sized_at hex_prefixed hex_number number_of blanks next_from closes closing name_word name_token number_token string_token mark_token token_from token_at result_of and_then mapped part_of in_row operator_in given settled joined evaluated joined_from row_at closed_at operand_with operand_at expression_at number_at
worked = refl
