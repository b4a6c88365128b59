-- Worked texts, judged by computation: one table under one claim.
use mathlib.Core.Path.{◌≡◌, refl}
use mathlib.Core.List.{List, [], ◌∷◌, map}
use Prim.Native.Nat.{ℕ}
use Prim.Native.String.{String}
use Rattle.chars.specs.Ascii.{bytes, is_within, is_blank, is_line_end, is_letter, is_name_byte, is_number_byte, is_hex_digit, is_spaced_digit}
use Rattle.chars.specs.Run.{run, every}
use Rattle.chars.specs.Same.{same_bytes}
use Rattle.vocabulary.specs.Vocabulary.{chosen, entry, keyword_of, property_of, mark_of}
use Rattle.numbers.specs.Number.{digit_value, next_value, value_from, fitting, radix_of, plain_digits, spaced_digits, width_of, sized_number, sized_at, hex_prefixed, hex_number, number_of}
use Rattle.lex.specs.Blank.{blanks, next_from}
use Rattle.lex.specs.Quote.{closes, closing}
use Rattle.lex.specs.Token.{name_word, name_token, number_token, string_token, mark_token, token_from, token_at}
use Rattle.operators.specs.Operators.{result_of}
use Rattle.expressions.specs.Words.{part_of, in_row, operator_in}
use Rattle.expressions.specs.Value.{given, settled, joined, evaluated}
use Rattle.expressions.specs.Grammar.{joined_from, row_at, closed_at, operand_with, operand_at, expression_at, number_at}
use Rattle.parts.specs.Reading.{Parsed, ok, stop, and_then, mapped}
use Rattle.parts.specs.Words.{is_name, kind_of, is_kind, is_default, is_property, is_mark, is_end}
use Rattle.parts.specs.Parts.{closed_by, name_at, array_rest_at, array_at, suffix_at, set_suffix, with_suffix, bare_at, instance_at, parted_at, listed_at, value_at, setting_at, property_word_at, property_at, header_rest_at, header_at, starts_instances}
use Rattle.syntax.specs.Tree.{Body}
use Rattle.syntax.specs.Grammar.{instances_from, instances_at, instance_statement_at, statement_at, tail_at, element_at, elements_at, definition_with, definition_at, definitions_from, file_at}
use Rattle.fields.specs.Codes.{is_width}
use Rattle.property_values.specs.Settings.{is_allowed, is_power_to, setting_as, setting_of, refusal_in}
use Rattle.suffixes.specs.Suffixes.{ranged, settled_fault, is_size, is_range, suffix_range, is_barred, instance_fault}
use Rattle.identifiers.specs.Names.{bytes_of, same_name, is_among}
use Rattle.basics.specs.Judged.{Judged, fault, fine, onward, unless}
use Rattle.properties.specs.Assigned.{assign, nearest, assigned}
use Rattle.properties.specs.Properties.{judge_value, judge_known, judge_property}
use Rattle.components.specs.Components.{component_of}
use Rattle.fields.specs.Fields.{is_readable, is_writable, has_unusable_effect, is_reset_wide, is_outside, is_read_write_pair, is_overlap, is_changed_by_access, spans_parts, breaks}
use Rattle.components.specs.Fields.{field_at}
use Rattle.cells.specs.Definitions.{lookup}
use Rattle.closing_rules.specs.Registers.{fields_from, some, overlaps, register_fault, closing_fault}
use Rattle.scopes.specs.Places.{may_define, may_hold, is_bad_map}
use Rattle.rules.specs.Judge.{judge_instances, judge_use, judge_setting, closed, declared, judge_definition, Meaning, judge_elem, judge_body, judge_file, judge}

-- the first fault of a text by these rules, or none; and a text that the grammar refuses
pub data Outcome : Type 0 where
  refused : ℕ → ℕ → Outcome
  accepted : Outcome
  unread : Outcome

abbrev answer_of : Judged Meaning → Outcome
answer_of (fault n p) = refused n p
answer_of (fine c) = accepted

abbrev answer : List ℕ → Parsed Body → Outcome
answer text (ok b n) = answer_of (judge text b)
answer text (stop n p) = unread

pub record Case : Type 0 where
  pub text : String
  pub due : Outcome

abbrev case : String → Outcome → Case
case t a = record { text = t; due = a }

pub cases : List Case
cases =
    case "" (refused 10 0) ∷
    case "addrmap m { regfile t { t x; } y; };" (refused 5 24) ∷
    case "addrmap m { reg { field {} f; } a, a; };" (refused 6 35) ∷
    case "addrmap m { reg { sw; field {} f; } a; };" (refused 7 18) ∷
    case "addrmap m { reg { field { sw = r; sw; } f; } a; };" (refused 8 34) ∷
    case "addrmap m { reg { field { rclr; onread = rset; } f; } a; };" (refused 8 32) ∷
    case "addrmap m { reg { field {} f[3:5]; } a; };" (refused 9 29) ∷
    case "addrmap m { reg { field {} f[1+2:7-8]; } a; };" (refused 9 34) ∷
    case "addrmap m { reg { field {} f[70:1/0]; } a; };" (refused 9 33) ∷
    case "addrmap m { reg { field { sw = 1/0; } f; } a; };" (refused 9 31) ∷
    case "addrmap m { reg { field { reset = 1/0; } f; } a; };" (refused 9 35) ∷
    case "addrmap m { reg { field { rclr = 1 == 1; } f; } a; };" (refused 9 33) ∷
    case "addrmap m { reg { field {} f; } a += 0; };" (refused 11 34) ∷
    case "field t { sw = w; rclr; };" (refused 12 24) ∷
    case "addrmap m { field t { reset = 4; }; reg { t f; } a; };" (refused 13 47) ∷
    case "reg t { regwidth = 32; accesswidth = 64; field {} f; };" (refused 14 53) ∷
    case "addrmap m { reg { field {} f[33]; } a; };" (refused 15 34) ∷
    case "addrmap m { reg { field { sw = na; } f; field { sw = r; } g[0:0]; } a; };" (refused 16 66) ∷
    case "addrmap m { reg { regwidth=64; accesswidth=32; field {} f[32:0]; } a; };" (refused 17 65) ∷
    case "addrmap m { reg { regwidth=64; accesswidth=32; field {} f[31:0]; } a; };" accepted ∷
    case "addrmap m { reg { regwidth=64; accesswidth=32; field { sw=r; } f[32:31]; } a; };" accepted ∷
    case "addrmap m { reg { regwidth=64; accesswidth=32; field { sw=r; rclr; } f[32:31]; } a; };" (refused 17 79) ∷
    case "addrmap m { reg { regwidth=64; accesswidth=32; field { sw=r; rclr; } f[31:0]; } a; };" accepted ∷
    case "addrmap m { default rset; reg { regwidth=64; accesswidth=32; field { sw=r; } f[32:31]; } a; };" (refused 17 87) ∷
    case "addrmap m { default rclr; reg { regwidth=64; accesswidth=32; field { sw=r; rclr=false; } f[32:31]; } a; };" accepted ∷
    case "addrmap m { default sw = w; field t {}; reg { default rclr; t f; } a; };" accepted ∷
    []

pub worked : map (λ c. answer (bytes c.text) (file_at (bytes c.text))) cases ≡ map (λ c. c.due) cases
unfolding cases is_within is_blank is_line_end is_letter is_name_byte is_number_byte is_hex_digit is_spaced_digit run every same_bytes chosen entry keyword_of property_of mark_of digit_value next_value value_from fitting radix_of plain_digits spaced_digits width_of sized_number sized_at hex_prefixed hex_number number_of blanks next_from closes closing name_word name_token number_token string_token mark_token token_from token_at and_then mapped is_name kind_of is_kind is_default is_property is_mark is_end closed_by name_at result_of part_of in_row operator_in given settled joined evaluated joined_from row_at closed_at operand_with operand_at expression_at number_at array_rest_at array_at suffix_at set_suffix with_suffix bare_at instance_at parted_at listed_at value_at setting_at property_word_at property_at header_rest_at header_at starts_instances instances_from instances_at instance_statement_at statement_at tail_at element_at elements_at definition_with definition_at definitions_from file_at is_allowed is_width is_power_to setting_as setting_of refusal_in ranged settled_fault is_size is_range suffix_range is_barred instance_fault bytes_of same_name is_among is_readable is_writable has_unusable_effect some is_reset_wide is_outside is_read_write_pair is_overlap overlaps is_changed_by_access spans_parts onward unless lookup may_define may_hold is_bad_map assigned judge_value judge_known judge_property judge_instances judge_use declared judge_definition judge_elem judge_body judge_file judge assign nearest component_of field_at breaks fields_from register_fault closing_fault judge_setting closed
worked = refl
