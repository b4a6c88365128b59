-- The rows of sound fields: they are lawful, and are read back.
use mathlib.Core.Bool.{true}
use mathlib.Core.Path.{◌≡◌, refl, ap, ◌∙◌}
use mathlib.Core.List.{List, [], ◌∷◌}
use Prim.Native.Nat.{ℕ, suc, ◌+◌, ◌*◌}
use native.Mathlib.Omega.{arith}
use lib.ListN.{length, length-append}
use Rattle.fields.specs.declared.FieldAt.{FieldAt}
use Rattle.basics.specs.Slices.{cell_of}
use Rattle.basics.specs.Given.{flag_of, number_of, given_from}
use Rattle.rows.specs.Rows.{Field, name_cell, field_cells, field_run, label_run}
use Rattle.rows.specs.Lawful.{field_values, field_row, is_reset_form, is_field_row, are_field_rows}
use Rattle.rows.specs.Reading.{name_at, fields_from}
use Rattle.basics.specs.All.{All, all_none, all_more}
use Rattle.basics.specs.Limits.{field_row_width, name_width}
use Rattle.row_laws.specs.Sound.{SoundField}
use Rattle.rows.proofs.Padded.{length-padded}
use Rattle.row_laws.proofs.Cells.{Stands, stands_head, stands_cell, stands_at, stands_left, stands_right}
use Rattle.row_laws.proofs.Names.{name_stands, name_read_lem}
use Rattle.std.specs.Prelude.{Option, Some, None}

-- a reset in two cells
given_read : (g : Option ℕ) → given_from (flag_of g) (number_of g) ≡ g
given_read None = refl
given_read (Some n) = refl

form_stands : (g : Option ℕ) → is_reset_form (flag_of g) (number_of g) ≡ true
unfolding is_reset_form
form_stands None = refl
form_stands (Some n) = refl

-- a row, cell by cell
record FieldStands (t : List ℕ) (at : ℕ) (f : FieldAt) : Type 0 where
  low : cell_of t at ≡ f.low.0
  high : cell_of t (at + 1) ≡ f.high.0
  sw : cell_of t (at + 2) ≡ f.values.sw
  hw : cell_of t (at + 3) ≡ f.values.hw
  onread : cell_of t (at + 4) ≡ f.values.onread
  onwrite : cell_of t (at + 5) ≡ f.values.onwrite
  flag : cell_of t (at + 6) ≡ flag_of f.values.reset
  reset : cell_of t (at + 7) ≡ number_of f.values.reset

field_cells_lem : {t : List ℕ} {at : ℕ} (f : FieldAt) → Stands t at (field_cells f) → FieldStands t at f
unfolding field_cells
field_cells_lem f s =
    record {
      low = stands_head s;
      high = stands_cell 1 s (omega arith);
      sw = stands_cell 2 s (omega arith);
      hw = stands_cell 3 s (omega arith);
      onread = stands_cell 4 s (omega arith);
      onwrite = stands_cell 5 s (omega arith);
      flag = stands_cell 6 s (omega arith);
      reset = stands_cell 7 s (omega arith);
    }

field_read : {t : List ℕ} (j : ℕ) (f : FieldAt) → FieldStands t (j * field_row_width) f → field_row t j ≡ f
unfolding field_row field_values
field_read {t} j f s =
    let given : given_from (cell_of t (j * field_row_width + 6)) (cell_of t (j * field_row_width + 7)) ≡ f.values.reset =
    ap (λ (n : ℕ). given_from n (cell_of t (j * field_row_width + 7))) s.flag ∙ ap (given_from (flag_of f.values.reset)) s.reset ∙ given_read f.values.reset in
    λ i.
    record {
      low = record { 0 = s.low i };
      high = record { 0 = s.high i };
      values = record { sw = s.sw i; hw = s.hw i; onread = s.onread i; onwrite = s.onwrite i; reset = given i };
    }

field_stands : {t u : List ℕ} (width j : ℕ) {f : Field} → SoundField width f → FieldStands t (j * field_row_width) f.at → Stands u (j * name_width) (name_cell f.name) → is_field_row t u width j ≡ true
unfolding is_field_row
field_stands {t} {u} width j {f} sound s z =
    let row : field_row t j ≡ f.at = field_read j f.at s in
    let form : is_reset_form (cell_of t (j * field_row_width + 6)) (cell_of t (j * field_row_width + 7)) ≡ true =
    ap (λ (n : ℕ). is_reset_form n (cell_of t (j * field_row_width + 7))) s.flag ∙ ap (is_reset_form (flag_of f.at.values.reset)) s.reset ∙ form_stands f.at.values.reset in
    rw (row, sound.ranged, sound.sound, form, name_stands sound.name z)

-- the rows of a run
length_field : (f : FieldAt) → length (field_cells f) ≡ field_row_width
unfolding field_cells
length_field f = refl

pub length_fields : (fs : List Field) → length (field_run fs) ≡ length fs * field_row_width
unfolding field_run
length_fields [] = refl
length_fields (f ∷ fs) = length-append (field_cells f.at) (field_run fs) ∙ (omega (arith, length_field f.at, length_fields fs))

pub length_labels : (fs : List Field) → length (label_run fs) ≡ length fs * name_width
unfolding label_run
length_labels [] = refl
length_labels (f ∷ fs) = length-append (name_cell f.name) (label_run fs) ∙ (omega (arith, length-padded name_width f.name, length_labels fs))

module _ {t : List ℕ} (j : ℕ) (f : Field) (fs : List Field) where
  run_first : Stands t (j * field_row_width) (field_run (f ∷ fs)) → FieldStands t (j * field_row_width) f.at
  unfolding field_run
  run_first s = field_cells_lem f.at (stands_left (field_cells f.at) (field_run fs) s)

  run_others : Stands t (j * field_row_width) (field_run (f ∷ fs)) → Stands t (suc j * field_row_width) (field_run fs)
  unfolding field_run
  run_others s = stands_at (stands_right (field_cells f.at) (length_field f.at) s) (omega arith)

  label_first : Stands t (j * name_width) (label_run (f ∷ fs)) → Stands t (j * name_width) (name_cell f.name)
  unfolding label_run
  label_first s = stands_left (name_cell f.name) (label_run fs) s

  label_others : Stands t (j * name_width) (label_run (f ∷ fs)) → Stands t (suc j * name_width) (label_run fs)
  unfolding label_run
  label_others s = stands_at (stands_right (name_cell f.name) (length-padded name_width f.name) s) (omega arith)

pub fields_stand : {t u : List ℕ} (width j : ℕ) {fs : List Field} → All (SoundField width) fs → Stands t (j * field_row_width) (field_run fs) → Stands u (j * name_width) (label_run fs)
    → are_field_rows t u width j (length fs) ≡ true
unfolding are_field_rows
fields_stand width j all_none s z = refl
fields_stand {t} {u} width j (all_more {x = f} {xs = fs} p ps) s z =
    rw (field_stands width j p (run_first j f fs s) (label_first j f fs z)) (fields_stand width (suc j) ps (run_others j f fs s) (label_others j f fs z))

pub fields_read : {t u : List ℕ} (width j : ℕ) {fs : List Field} → All (SoundField width) fs → Stands t (j * field_row_width) (field_run fs) → Stands u (j * name_width) (label_run fs)
    → fields_from t u j (length fs) ≡ fs
unfolding fields_from
fields_read width j all_none s z = refl
fields_read {t} {u} width j (all_more {x = f} {xs = fs} p ps) s z =
    let a : name_at u (j * name_width) ≡ f.name = name_read_lem p.name (label_first j f fs z) in
    let b : field_row t j ≡ f.at = field_read j f.at (run_first j f fs s) in
    let c : fields_from t u (suc j) (length fs) ≡ fs = fields_read width (suc j) ps (run_others j f fs s) (label_others j f fs z) in
    λ i. record { name = a i; at = b i } ∷ c i
