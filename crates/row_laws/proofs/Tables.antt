-- The four tables of a map: their lengths, and what stands in them row by row.
use mathlib.Core.Path.{◌≡◌, refl}
use mathlib.Core.List.{List, [], ◌∷◌, ◌++◌}
use Prim.Native.Nat.{ℕ, suc, ◌+◌, ◌*◌}
use native.Mathlib.Omega.{arith}
use lib.ListN.{length, length-append}
use Rattle.basics.specs.Slices.{cell_of}
use Rattle.basics.specs.Limits.{nest_limit, register_row_width, field_row_width, name_width, path_row_width}
use Rattle.rows.specs.Rows.{Entry, Map, Tables, padded, indices, name_cell, name_cells, register_cells, path_cells, field_run, label_run, register_table, path_table, field_table, label_table, tables_of}
use Rattle.rows.specs.declared.RegisterRow.{RegisterRow}
use Rattle.rows.specs.Lawful.{register_row}
use Rattle.row_laws.specs.Sound.{fields_in}
use Rattle.rows.proofs.Padded.{length-padded}
use Rattle.row_laws.proofs.Cells.{Stands, stands_head, stands_tail, stands_cell, stands_at, stands_left, stands_right, stands_whole}
use Rattle.row_laws.proofs.Paths.{name_first, name_others}
use Rattle.row_laws.proofs.Fields.{length_fields, length_labels}

-- lengths
length_register : (first : ℕ) (e : Entry) → length (register_cells first e) ≡ register_row_width
unfolding register_cells
length_register first e = omega (arith, length-padded nest_limit (indices e.path))

length_path : (name : List ℕ) (e : Entry) → length (path_cells name e) ≡ path_row_width
unfolding path_cells
length_path name e = length-padded path_row_width (name_cell name ++ name_cells e.path)

pub length-register_table : (first : ℕ) (es : List Entry) → length (register_table first es) ≡ length es * register_row_width
unfolding register_table
length-register_table first [] = refl
length-register_table first (e ∷ es) =
    let rest : List ℕ = register_table (first + length e.fields) es in
    omega (arith, length-append (register_cells first e) rest, length_register first e, length-register_table (first + length e.fields) es)

pub length-path_table : (name : List ℕ) (es : List Entry) → length (path_table name es) ≡ length es * path_row_width
unfolding path_table
length-path_table name [] = refl
length-path_table name (e ∷ es) = omega (arith, length-append (path_cells name e) (path_table name es), length_path name e, length-path_table name es)

pub length-field_table : (es : List Entry) → length (field_table es) ≡ fields_in es * field_row_width
unfolding field_table fields_in
length-field_table [] = refl
length-field_table (e ∷ es) = omega (arith, length-append (field_run e.fields) (field_table es), length_fields e.fields, length-field_table es)

pub length-label_table : (es : List Entry) → length (label_table es) ≡ fields_in es * name_width
unfolding label_table fields_in
length-label_table [] = refl
length-label_table (e ∷ es) = omega (arith, length-append (label_run e.fields) (label_table es), length_labels e.fields, length-label_table es)

-- a register's rows
pub record RowStands (t : Tables) (name : List ℕ) (i first : ℕ) (e : Entry) : Type 0 where
  pub register : Stands t.registers (i * register_row_width) (register_cells first e)
  pub path : Stands t.paths (i * path_row_width) (path_cells name e)
  pub fields : Stands t.fields (first * field_row_width) (field_run e.fields)
  pub labels : Stands t.labels (first * name_width) (label_run e.fields)

-- those of all from the i-th on
pub record RowsStand (t : Tables) (name : List ℕ) (i first : ℕ) (es : List Entry) : Type 0 where
  pub registers : Stands t.registers (i * register_row_width) (register_table first es)
  pub paths : Stands t.paths (i * path_row_width) (path_table name es)
  pub fields : Stands t.fields (first * field_row_width) (field_table es)
  pub labels : Stands t.labels (first * name_width) (label_table es)

module _ {t : Tables} {name : List ℕ} {i first : ℕ} {e : Entry} {es : List Entry} (s : RowsStand t name i first (e ∷ es)) where
  pub rows_first : RowStands t name i first e
  unfolding register_table path_table field_table label_table
  rows_first =
      record {
        register = stands_left (register_cells first e) (register_table (first + length e.fields) es) s.registers;
        path = stands_left (path_cells name e) (path_table name es) s.paths;
        fields = stands_left (field_run e.fields) (field_table es) s.fields;
        labels = stands_left (label_run e.fields) (label_table es) s.labels;
      }

  pub rows_others : RowsStand t name (suc i) (first + length e.fields) es
  unfolding register_table path_table field_table label_table
  rows_others =
      record {
        registers = stands_at (stands_right (register_cells first e) (length_register first e) s.registers) (omega arith);
        paths = stands_at (stands_right (path_cells name e) (length_path name e) s.paths) (omega arith);
        fields = stands_at (stands_right (field_run e.fields) (length_fields e.fields) s.fields) (omega arith);
        labels = stands_at (stands_right (label_run e.fields) (length_labels e.fields) s.labels) (omega arith);
      }

pub rows_whole : (m : Map) → RowsStand (tables_of m) m.name 0 0 m.entries
rows_whole m =
    record {
      registers = stands_whole (register_table 0 m.entries);
      paths = stands_whole (path_table m.name m.entries);
      fields = stands_whole (field_table m.entries);
      labels = stands_whole (label_table m.entries);
    }

-- what is read of a register
abbrev pub row_of : ℕ → Entry → RegisterRow
row_of first e = record { address = e.address; width = e.register.width; access = e.register.access; first = first; count = length e.fields; depth = length e.path }

module _ {t : Tables} {name : List ℕ} {i first : ℕ} {e : Entry} (s : RowStands t name i first e) where
  pub row_read : register_row t.registers i ≡ row_of first e
  unfolding register_row register_cells
  row_read =
      let c0 : cell_of t.registers (i * register_row_width) ≡ e.address.0 = stands_head s.register in
      let c1 : cell_of t.registers (i * register_row_width + 1) ≡ e.register.width = stands_cell 1 s.register (omega arith) in
      let c2 : cell_of t.registers (i * register_row_width + 2) ≡ e.register.access = stands_cell 2 s.register (omega arith) in
      let c3 : cell_of t.registers (i * register_row_width + 3) ≡ first = stands_cell 3 s.register (omega arith) in
      let c4 : cell_of t.registers (i * register_row_width + 4) ≡ length e.fields = stands_cell 4 s.register (omega arith) in
      let c5 : cell_of t.registers (i * register_row_width + 5) ≡ length e.path = stands_cell 5 s.register (omega arith) in
      λ k. record { address = record { 0 = c0 k }; width = c1 k; access = c2 k; first = c3 k; count = c4 k; depth = c5 k }

  pub row_indices : Stands t.registers (i * register_row_width + 6) (padded nest_limit (indices e.path))
  unfolding register_cells
  row_indices = stands_at (stands_tail (stands_tail (stands_tail (stands_tail (stands_tail (stands_tail s.register)))))) (omega arith)

  pub row_name : Stands t.paths (i * path_row_width) (name_cell name)
  unfolding path_cells
  row_name = name_first nest_limit name (name_cells e.path) s.path

  pub row_names : Stands t.paths (i * path_row_width + name_width) (padded (nest_limit * name_width) (name_cells e.path))
  unfolding path_cells
  row_names = name_others nest_limit name (name_cells e.path) s.path
