-- Classroom sums 1 to 9 of document 01, those marked (P), by computation: one table under one claim.
use mathlib.Core.Path.{◌≡◌, refl}
use mathlib.Core.List.{List, [], ◌∷◌, map}
use Prim.Native.Nat.{ℕ}
use Prim.Native.String.{String}
use Rattle.chars.specs.Ascii.{bytes, is_within, is_blank, is_line_end, is_letter, is_name_byte, is_number_byte, is_hex_digit, is_spaced_digit}
use Rattle.chars.specs.Run.{run, every}
use Rattle.chars.specs.Same.{same_bytes}
use Rattle.vocabulary.specs.Vocabulary.{chosen, entry, keyword_of, property_of, mark_of}
use Rattle.numbers.specs.Number.{digit_value, next_value, value_from, fitting, radix_of, plain_digits, spaced_digits, width_of, sized_number, sized_at, hex_prefixed, hex_number, number_of}
use Rattle.lex.specs.Blank.{blanks, next_from}
use Rattle.lex.specs.Quote.{closes, closing}
use Rattle.lex.specs.Token.{name_word, name_token, number_token, string_token, mark_token, token_from, token_at}
use Rattle.operators.specs.Operators.{result_of}
use Rattle.expressions.specs.Words.{part_of, in_row, operator_in}
use Rattle.expressions.specs.Value.{given, settled, joined, evaluated}
use Rattle.expressions.specs.Grammar.{joined_from, row_at, closed_at, operand_with, operand_at, expression_at, number_at}
use Rattle.parts.specs.Reading.{and_then, mapped}
use Rattle.parts.specs.Words.{is_name, kind_of, is_kind, is_default, is_property, is_mark, is_end}
use Rattle.parts.specs.Parts.{closed_by, name_at, array_rest_at, array_at, suffix_at, set_suffix, with_suffix, bare_at, instance_at, parted_at, listed_at, value_at, setting_at, property_word_at, property_at, header_rest_at, header_at, starts_instances}
use Rattle.syntax.specs.Grammar.{instances_from, instances_at, instance_statement_at, statement_at, tail_at, element_at, elements_at, definition_with, definition_at, definitions_from, file_at}
use Rattle.fields.specs.Codes.{is_width}
use Rattle.property_values.specs.Settings.{is_allowed, is_power_to, setting_as, setting_of, refusal_in}
use Rattle.suffixes.specs.Suffixes.{ranged, settled_fault, is_size, is_range, suffix_range, is_barred, instance_fault}
use Rattle.identifiers.specs.Names.{bytes_of, same_name, is_among}
use Rattle.basics.specs.Judged.{Judged, fault, fine, onward, unless, Outcome, gave}
use Rattle.properties.specs.Assigned.{assign, nearest, assigned}
use Rattle.properties.specs.Properties.{judge_value, judge_known, judge_property}
use Rattle.components.specs.Components.{component_of}
use Rattle.fields.specs.Fields.{is_readable, is_writable, has_unusable_effect, is_reset_wide, is_outside, is_read_write_pair, is_overlap, is_changed_by_access, spans_parts, breaks}
use Rattle.components.specs.Fields.{field_at}
use Rattle.cells.specs.Definitions.{lookup}
use Rattle.closing_rules.specs.Registers.{fields_from, some, overlaps, register_fault, closing_fault}
use Rattle.scopes.specs.Places.{may_define, may_hold, is_bad_map}
use Rattle.rules.specs.Judge.{judge_instances, judge_use, judge_setting, closed, declared, judge_definition, judge_elem, judge_body, judge_file, judge}
use Rattle.capped.specs.Offsets.{raised, multiple_from, common_multiple, power_from, power_above}
use Rattle.layout.specs.Layout.{stride_of, span_of, mode_step, step_of, laid, laid_from, highest_end, largest_access, shapes_from}
use Rattle.map_rules.specs.Visits.{element_visits, child_visits, visits_in}
use Rattle.map_rules.specs.Whole.{too_many, too_close, misplaced, every_access, is_pair, is_shared_lawfully, overlap_registers, overlaps_one, overlapping, map_visits, map_fault, registers_among}
use lib.ListN.{take}
use Rattle.lex.specs.Words.{first_bad, words_verdict}
use Rattle.rules.specs.Rules.{ruled}
use Rattle.row_writer.specs.Entries.{steps_of, row_fields, entries_of}
use Rattle.compile.specs.Compiled.{compiled}
use Rattle.compile.specs.Compiled as compile
use Rattle.rows.specs.Rows.{Field, Entry, tables_of, padded, indices, name_cells, register_cells, path_cells, field_cells, field_run, label_run, register_table, path_table, field_table, label_table}
use Rattle.rows.specs.Lawful.{follows, all_follow, is_path_cell, are_names, are_zero, is_index, are_indices, are_same, register_row, is_placed, is_run, is_path, field_values, field_row, is_ranged, is_sound_field, is_reset_form, is_field_row, are_field_rows, is_register_row, are_rows, are_whole, lawful}
use Rattle.rows.specs.Lawful as rows
use Rattle.rows.specs.Reading.{name_from, steps_from, entries_from}
use Rattle.rows.specs.Reading as reading-rows
use Rattle.bits.specs.Bits.{bit, number}
use Rattle.actions.specs.Actions.{write_action, read_action}
use Rattle.model.specs.declared.Access.{Access}
use Rattle.model.specs.declared.Access.TheVariants.{Read, Write}
use Rattle.model.specs.Model.{fits, stepped, any_reached, gives}
use Rattle.access.specs.Stored.{stored_in, stored_among, sizes_of}
use Rattle.access.specs.Perform.{refusal_of, answer_of, store_after, store_after_all, answers_of}

-- what is asked of a text: the addresses of its map's elements, in map order, before 18 to 21 are judged; those of its map's first
-- registers; the bits of the fields of the first register, each high and low; or what accesses answer from a store, and the store afterwards
pub data Question : Type 0 where
  elements : Question
  addresses : ℕ → Question
  bits : Question
  accesses : List ℕ → List Access → Question

pub data Result : Type 0 where
  numbers : List ℕ → Result
  answered : List (Outcome ℕ) → List ℕ → Result
  refused : ℕ → ℕ → Result

abbrev pairs : List Field → List ℕ
pairs [] = []
pairs (f ∷ fs) = f.at.high.0 ∷ f.at.low.0 ∷ pairs fs

abbrev first_fields : List Entry → List Field
first_fields [] = []
first_fields (e ∷ es) = e.fields

-- a refusal with its place, or what is said of what is accepted
abbrev judged : {A : Type 0} → Judged A → (A → Result) → Result
judged (fault n p) said = refused n p
judged (fine a) said = said a

abbrev answer : Question → List ℕ → Result
answer elements text = judged (ruled text) (λ m. numbers (map (λ v. v.address.0) (map_visits m)))
answer (addresses n) text = judged (compiled text) (λ m. numbers (map (λ e. e.address.0) (take n m.entries)))
answer bits text = judged (compiled text) (λ m. numbers (pairs (first_fields m.entries)))
answer (accesses s xs) text = judged (compiled text) (λ m. answered (answers_of (tables_of m) xs s) (store_after_all (tables_of m) xs s))

pub record Sum : Type 0 where
  pub text : String
  pub question : Question
  pub due : Result

abbrev sum : String → Question → Result → Sum
sum t q r = record { text = t; question = q; due = r }

-- the text of document 01's listing
heron : String
heron = "addrmap heron { reg { field { sw=r; rclr; } count[16] = 0;\n field { onwrite = wot; } lamp; } tally @ 0x10; };"

-- accesses of 32 bits at its register
reading : Access
reading = Read (record { 0 = 16 }) 32

lighting : Access
lighting = Write (record { 0 = 16 }) 32 65536

pub sums : List Sum
sums =
    sum "addrmap m { reg wide {regwidth=64; field {} f;}; reg thin {field {} f;}; thin a; wide b; thin c[20]; };" (addresses 3) (numbers (0 ∷ 8 ∷ 16 ∷ [])) ∷
    sum "addrmap m { addressing=fullalign; reg wide {regwidth=64; field {} f;}; reg thin {field {} f;}; thin a; wide b; thin c[20]; };" (addresses 3) (numbers (0 ∷ 8 ∷ 128 ∷ [])) ∷
    sum "addrmap m { addressing=compact; reg wide {regwidth=64; accesswidth=32; field {} f;}; reg thin {field {} f;}; thin a; wide b; thin c[20]; };" (addresses 3) (numbers (0 ∷ 4 ∷ 12 ∷ [])) ∷
    sum "addrmap m { alignment=8; reg thin {field {} f;}; thin a; thin b; };" (addresses 2) (numbers (0 ∷ 8 ∷ [])) ∷
    sum "addrmap m { regfile { reg {regwidth=64; field {} f;} a; reg {field {} f;} b; } x[2]; };" elements (numbers (0 ∷ 0 ∷ 8 ∷ 12 ∷ 12 ∷ 20 ∷ [])) ∷
    sum "addrmap m { regfile { reg {regwidth=64; field {} f;} a; reg {field {} f;} b; } x[2]; };" (addresses 4) (refused 20 53) ∷
    sum "addrmap m { reg { field {} a[4]; field {} b[9:8]; field {} c; } x; };" bits (numbers (3 ∷ 0 ∷ 9 ∷ 8 ∷ 10 ∷ 10 ∷ [])) ∷
    sum heron (accesses (5 ∷ 0 ∷ []) (reading ∷ reading ∷ [])) (answered (gave 5 ∷ gave 0 ∷ []) (0 ∷ 0 ∷ [])) ∷
    sum heron (accesses (5 ∷ 0 ∷ []) (lighting ∷ [])) (answered (gave 0 ∷ []) (5 ∷ 1 ∷ [])) ∷
    sum heron (accesses (5 ∷ 0 ∷ []) (lighting ∷ lighting ∷ [])) (answered (gave 0 ∷ gave 0 ∷ []) (5 ∷ 0 ∷ [])) ∷
    sum "addrmap m { reg { regwidth=32; accesswidth=64; field {} f; } x; };" (addresses 1) (refused 14 59) ∷
    []

pub worked : map (λ s. answer s.question (bytes s.text)) sums ≡ map (λ s. s.due) sums
unfolding sums registers_among is_pair is_within is_blank is_line_end is_letter is_name_byte is_number_byte is_hex_digit is_spaced_digit run every same_bytes chosen entry keyword_of property_of mark_of digit_value next_value value_from fitting radix_of plain_digits spaced_digits width_of sized_number sized_at hex_prefixed hex_number number_of blanks next_from closes closing name_word name_token number_token string_token mark_token token_from token_at and_then mapped is_name kind_of is_kind is_default is_property is_mark is_end closed_by name_at result_of part_of in_row operator_in given settled joined evaluated joined_from row_at closed_at operand_with operand_at expression_at number_at array_rest_at array_at suffix_at set_suffix with_suffix bare_at instance_at parted_at listed_at value_at setting_at property_word_at property_at header_rest_at header_at starts_instances instances_from instances_at instance_statement_at statement_at tail_at element_at elements_at definition_with definition_at definitions_from file_at is_allowed is_width is_power_to setting_as setting_of refusal_in ranged settled_fault is_size is_range suffix_range is_barred instance_fault bytes_of same_name is_among is_readable is_writable has_unusable_effect some is_reset_wide is_outside is_read_write_pair is_overlap overlaps is_changed_by_access spans_parts onward unless lookup may_define may_hold is_bad_map assigned judge_value judge_known judge_property judge_instances judge_use declared judge_definition judge_elem judge_body judge_file judge assign nearest component_of field_at breaks fields_from register_fault closing_fault judge_setting closed raised multiple_from common_multiple power_from power_above stride_of span_of mode_step step_of laid laid_from highest_end largest_access shapes_from element_visits child_visits visits_in too_many too_close misplaced every_access is_shared_lawfully overlap_registers overlaps_one overlapping map_fault heron reading lighting first_bad words_verdict ruled steps_of row_fields entries_of compile.mapped compiled padded indices name_cells register_cells path_cells field_cells field_run label_run register_table path_table field_table label_table follows all_follow rows.is_name is_path_cell are_names are_zero is_index are_indices are_same register_row is_placed is_run is_path field_values field_row is_ranged is_sound_field is_reset_form is_field_row are_field_rows is_register_row are_rows are_whole lawful name_from steps_from reading-rows.fields_from entries_from bit number write_action read_action fits stepped any_reached gives stored_in stored_among sizes_of refusal_of answer_of store_after store_after_all answers_of
worked = refl
