-- Worked texts, read to their trees or refusals by computation: one table under one claim.
use mathlib.Core.Bool.{true, false}
use mathlib.Core.Path.{◌≡◌, refl}
use mathlib.Core.List.{List, [], ◌∷◌, map}
use Prim.Native.Nat.{ℕ}
use Prim.Native.String.{String}
use Rattle.chars.specs.Ascii.{bytes, is_within, is_blank, is_line_end, is_letter, is_name_byte, is_number_byte, is_hex_digit, is_spaced_digit}
use Rattle.chars.specs.Run.{run, every}
use Rattle.chars.specs.Same.{same_bytes}
use Rattle.vocabulary.specs.Vocabulary.{chosen, entry, keyword_of, mark_of}
use Rattle.vocabulary.specs.declared.Keyword.TheVariants as keyword
use Rattle.numbers.specs.Number.{digit_value, next_value, value_from, fitting, radix_of, plain_digits, spaced_digits, width_of, sized_number, sized_at, hex_prefixed, hex_number, number_of}
use Rattle.lex.specs.Blank.{blanks, next_from}
use Rattle.lex.specs.Quote.{closes, closing}
use Rattle.lex.specs.Token.{name_word, name_token, number_token, string_token, mark_token, token_from, token_at}
use Rattle.operators.specs.Operators.{result_of}
use Rattle.expressions.specs.Words.{part_of, in_row, operator_in}
use Rattle.expressions.specs.Value.{sound, given, settled, joined, evaluated}
use Rattle.expressions.specs.Grammar.{joined_from, row_at, closed_at, operand_with, operand_at, expression_at, number_at}
use Rattle.parts.specs.Reading.{Parsed, ok, stop, and_then, mapped}
use Rattle.parts.specs.Words.{is_name, kind_of, is_kind, is_default, is_property, is_mark, is_end}
use Rattle.parts.specs.Parts.{closed_by, name_at, array_rest_at, array_at, suffix_at, bare, set_suffix, with_suffix, bare_at, instance_at, parted_at, listed_at, value_at, setting_at, property_word_at, property_at, header_rest_at, header_at, starts_instances}
use Rattle.parts.specs.declared.Name.{Name}
use Rattle.expressions.specs.declared.Number.{Number}
use Rattle.parts.specs.declared.Kind.TheVariants.{Addrmap, Reg, Field}
use Rattle.parts.specs.declared.Header.{Header}
use Rattle.parts.specs.declared.Kind.{Kind}
use Rattle.parts.specs.declared.Array.TheVariants as array
use Rattle.parts.specs.declared.Instance.{Instance}
use Rattle.parts.specs.declared.Value.{Value}
use Rattle.parts.specs.declared.Value.TheVariants as value
use Rattle.syntax.specs.Tree.{Elem, definition, instances, property, Body, close, more}
use Rattle.syntax.specs.Grammar.{instances_from, instances_at, instance_statement_at, statement_at, tail_at, element_at, elements_at, definition_with, definition_at, definitions_from, file_at}
use Rattle.std.specs.Prelude.{Option, Some, None}

abbrev name : ℕ → ℕ → Name
name s e = record { start = s; end = e }

abbrev number : ℕ → ℕ → Number
number v p = sound v p

abbrev header : Kind → ℕ → Option Name → ℕ → Header
header k p n b = record { kind = k; place = p; name = n; brace = b }

-- a property statement that is no default
abbrev setting : ℕ → ℕ → Value → Elem
setting s e v = property (record { defaulted = false; start = s; end = e; value = v })

abbrev plain : Name → Instance
plain n = bare n array.Missing

-- a text, and its reading
pub record Case : Type 0 where
  pub text : String
  pub read : Parsed Body

abbrev case : String → Parsed Body → Case
case t r = record { text = t; read = r }

pub cases : List Case
cases =
    case "" (ok (close 0) 0) ∷
    case "addrmap m {} ; " (ok (more (definition (header Addrmap 0 (Some (name 8 9)) 10) (close 11) []) (close 15)) 15) ∷
    case "reg{sw=r;T a,b[2]@4;}x;"
    (ok
    (more
    (definition (header Reg 0 None 3)
    (more (setting 4 6 (value.Word keyword.R 7))
    (more
    (instances (name 9 10)
    (plain (name 11 12) ∷
    record {
      name = name 13 14;
      array = array.Size 14 (number 2 15);
      reset = None;
      address = Some (17, (number 4 18));
      stride = None;
      alignment = None;
    } ∷
    []))
    (close 20)))
    (plain (name 21 22) ∷ []))
    (close 23))
    23) ∷
    case "field {default rclr;}f[1:0]=3+=1%=2;"
    (ok
    (more
    (definition (header Field 0 None 6)
    (more (property (record { defaulted = true; start = 15; end = 19; value = value.Missing })) (close 20))
    (record {
      name = name 21 22;
      array = array.Range 22 (number 1 23) (number 0 25);
      reset = Some (27, (number 3 28));
      address = None;
      stride = Some (29, (number 1 31));
      alignment = Some (32, (number 2 34));
    } ∷
    []))
    (close 36))
    36) ∷
    case "reg { } ; " (stop 3 8) ∷
    case "reg q { } p @1 =2;" (stop 3 15) ∷
    case "reg q { } p[2][3];" (stop 3 14) ∷
    case "reg q { default reg; };" (stop 3 16) ∷
    case "x = 1;" (stop 3 0) ∷
    case "reg r { };" (stop 3 4) ∷
    case "reg q {  " (stop 3 9) ∷
    case "reg{reg{reg{reg{reg{reg{reg{reg{reg{" (stop 18 35) ∷
    []

pub worked : map (λ c. file_at (bytes c.text)) cases ≡ map (λ c. c.read) cases
unfolding cases is_within is_blank is_line_end is_letter is_name_byte is_number_byte is_hex_digit is_spaced_digit run every same_bytes chosen entry keyword_of mark_of digit_value next_value value_from fitting radix_of plain_digits spaced_digits width_of sized_number sized_at hex_prefixed hex_number number_of blanks next_from closes closing name_word name_token number_token string_token mark_token token_from token_at and_then mapped is_name kind_of is_kind is_default is_property is_mark is_end closed_by name_at result_of part_of in_row operator_in given settled joined evaluated joined_from row_at closed_at operand_with operand_at expression_at number_at array_rest_at array_at suffix_at set_suffix with_suffix bare_at instance_at parted_at listed_at value_at setting_at property_word_at property_at header_rest_at header_at starts_instances instances_from instances_at instance_statement_at statement_at tail_at element_at elements_at definition_with definition_at definitions_from file_at
worked = refl
