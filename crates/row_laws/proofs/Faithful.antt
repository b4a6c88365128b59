-- The rows of a sound map are lawful, and what is read back from them is the map.
use mathlib.Core.Bool.{true, ◌&&◌}
use mathlib.Core.Path.{◌≡◌, refl, ap, ◌∙◌}
use mathlib.Core.List.{List, [], ◌∷◌}
use Prim.Native.Nat.{ℕ, suc, ◌+◌, ◌*◌, ◌/◌, ◌%◌, ◌≤◌}
use native.Mathlib.Omega.{arith}
use lib.ListN.{length}
use borrow.Author.Tests.{eq-eqb, lt-ltb, le-leb}
use Rattle.rows.specs.Rows.{Entry, Map, Tables, name_cell, register_table, path_table, field_table, label_table, tables_of}
use Rattle.rows.specs.declared.RegisterRow.{RegisterRow}
use Rattle.rows.specs.Lawful.{is_path_cell, are_names, are_indices, are_same, is_placed, is_run, is_path, are_field_rows, is_register_row, are_rows, are_whole, lawful}
use Rattle.rows.specs.Reading.{name_at, steps_from, fields_from, entry_in, entries_from, rows_in}
use Rattle.basics.specs.All.{All, all_none, all_more}
use Rattle.basics.specs.Limits.{address_end, nest_limit, register_limit, field_limit, register_row_width, field_row_width, name_width, path_row_width}
use Rattle.row_laws.specs.Sound.{SoundName, SoundEntry, SoundMap, fields_in}
use Rattle.rows.proofs.Padded.{length-padded}
use Rattle.row_laws.proofs.Cells.{Stands, same_stand}
use Rattle.row_laws.proofs.Names.{name_stands, name_read_lem}
use Rattle.row_laws.proofs.Paths.{names_stand, indices_stand, steps_read}
use Rattle.row_laws.proofs.Fields.{fields_stand, fields_read}
use Rattle.row_laws.proofs.Tables.{length-register_table, length-path_table, length-field_table, length-label_table, RowStands, RowsStand, rows_first, rows_others, rows_whole, row_of, row_read, row_indices, row_name, row_names}

-- a register's row
row_placed : (first : ℕ) {e : Entry} → SoundEntry e → is_placed (row_of first e) ≡ true
unfolding is_placed
row_placed first {e} s =
    rw (s.width, s.access, le-leb e.register.access e.register.width s.order, eq-eqb (e.address.0 % (e.register.access / 8)) 0 s.part, le-leb (e.address.0 + e.register.width / 8) address_end s.end)

row_run : (all first : ℕ) {e : Entry} → SoundEntry e → first + length e.fields ≤ all → is_run all first (row_of first e) ≡ true
unfolding is_run
row_run all first {e} s h = rw (eq-eqb first first refl, lt-ltb 0 (length e.fields) s.held, le-leb (first + length e.fields) all h)

module _ {t : Tables} {name : List ℕ} {i first : ℕ} {e : Entry} (n : SoundName name) (z : Stands t.paths 0 (name_cell name)) (sound : SoundEntry e) (s : RowStands t name i first e) where
  row_same : are_same t.paths 0 (i * path_row_width) name_width ≡ true
  row_same = rw (length-padded name_width name) at (same_stand (name_cell name) z (row_name s))

  row_cells : are_names t.paths (length e.path) (i * path_row_width) 0 (nest_limit + 1) ≡ true
  unfolding are_names is_path_cell
  row_cells =
      rw (le-leb 0 (length e.path) (omega arith), name_stands n (row_name s))
      (names_stand (length e.path) 1 nest_limit sound.path sound.deep (omega arith) (row_names s))

  row_path : is_path t.registers t.paths i (length e.path) ≡ true
  unfolding is_path
  row_path =
      let indices : are_indices t.registers (length e.path) (i * register_row_width + 6) 0 nest_limit ≡ true = indices_stand (length e.path) 0 nest_limit sound.path sound.deep (omega arith) (row_indices s) in
      rw (lt-ltb 0 (length e.path) sound.some, le-leb (length e.path) nest_limit sound.deep, indices, row_cells, row_same)

  row_stands : (all : ℕ) → first + length e.fields ≤ all → is_register_row t all i first ≡ true
  unfolding is_register_row
  row_stands all h =
      ap (λ (r : RegisterRow). is_placed r && (is_run all first r && (is_path t.registers t.paths i r.depth && are_field_rows t.fields t.labels r.width first r.count))) (row_read s)
      ∙ (rw (row_placed first sound, row_run all first sound h, row_path, fields_stand e.register.width first sound.fields s.fields s.labels))

  entry_read : entry_in t i ≡ e
  entry_read =
      let path : steps_from t.registers t.paths (i * register_row_width + 6) (i * path_row_width + name_width) (length e.path) ≡ e.path = steps_read nest_limit nest_limit sound.path sound.deep sound.deep (row_indices s) (row_names s) in
      let fields : fields_from t.fields t.labels first (length e.fields) ≡ e.fields = fields_read e.register.width first sound.fields s.fields s.labels in
      let whole : Entry = record { path = steps_from t.registers t.paths (i * register_row_width + 6) (i * path_row_width + name_width) (length e.path); address = e.address; register = e.register; fields = fields_from t.fields t.labels first (length e.fields) } in
      let made : entry_in t i ≡ whole =
      ap (λ (r : RegisterRow).
      record {
        path = steps_from t.registers t.paths (i * register_row_width + 6) (i * path_row_width + name_width) r.depth;
        address = r.address;
        register = record { width = r.width; access = r.access };
        fields = fields_from t.fields t.labels r.first r.count;
      }) (row_read s) in
      let same : whole ≡ e = λ k. record { path = path k; address = e.address; register = e.register; fields = fields k } in
      made ∙ same

-- the rows from the i-th on
rows_stand : {t : Tables} {name : List ℕ} (all i first : ℕ) {es : List Entry} → SoundName name → Stands t.paths 0 (name_cell name) → All SoundEntry es → first + fields_in es ≡ all → RowsStand t name i first es
    → are_rows t all i first (length es) ≡ true
unfolding are_rows fields_in
rows_stand all i first n z all_none e s = eq-eqb first all (omega (arith, e))
rows_stand {t} all i first n z (all_more {x = x} {xs = es} p ps) e s =
    rw (row_stands n z p (rows_first s) all (omega (arith, e)))
    (ap (λ (r : RegisterRow). are_rows t all (suc i) (first + r.count) (length es)) (row_read (rows_first s))
    ∙ rows_stand all (suc i) (first + length x.fields) n z ps (omega (arith, e)) (rows_others s))

rows_read : {t : Tables} {name : List ℕ} (i first : ℕ) {es : List Entry} → SoundName name → Stands t.paths 0 (name_cell name) → All SoundEntry es → RowsStand t name i first es → entries_from t i (length es) ≡ es
unfolding entries_from
rows_read i first n z all_none s = refl
rows_read {t} i first n z (all_more {x = x} {xs = es} p ps) s =
    let a : entry_in t i ≡ x = entry_read n z p (rows_first s) in
    let b : entries_from t (suc i) (length es) ≡ es = rows_read (suc i) (first + length x.fields) n z ps (rows_others s) in
    λ k. a k ∷ b k

-- the map's name in the first path
first_name : {t : Tables} {name : List ℕ} (es : List Entry) → 1 ≤ length es → RowsStand t name 0 0 es → Stands t.paths 0 (name_cell name)
first_name [] h s = absurd (omega (arith, h))
first_name (e ∷ es) h s = row_name (rows_first s)

-- whole tables
whole_stands : (n all a b c d : ℕ) → 1 ≤ n → n ≤ register_limit → all ≤ field_limit → a ≡ n * register_row_width → b ≡ n * path_row_width → c ≡ all * field_row_width → d ≡ all * name_width → are_whole a b c d ≡ true
unfolding are_whole
whole_stands n all a b c d some few fields p q r s =
    let x : a / register_row_width ≡ n = omega arith in
    let y : c / field_row_width ≡ all = omega arith in
    rw (x, y, le-leb n register_limit few, le-leb all field_limit fields, lt-ltb 0 n some, eq-eqb a (n * register_row_width) p, eq-eqb b (n * path_row_width) q, eq-eqb c (all * field_row_width) r, eq-eqb d (all * name_width) s)

module _ (m : Map) where
  rows_count : length (register_table 0 m.entries) / register_row_width ≡ length m.entries
  rows_count = omega (arith, length-register_table 0 m.entries)

  fields_count : length (field_table m.entries) / field_row_width ≡ fields_in m.entries
  fields_count = omega (arith, length-field_table m.entries)

pub sound-lawful : (m : Map) → SoundMap m → lawful (tables_of m) ≡ true
unfolding lawful
sound-lawful m s =
    let es : List Entry = m.entries in
    let whole : are_whole (length (register_table 0 es)) (length (path_table m.name es)) (length (field_table es)) (length (label_table es)) ≡ true =
    whole_stands (length es) (fields_in es) (length (register_table 0 es)) (length (path_table m.name es)) (length (field_table es)) (length (label_table es)) s.some s.few s.fields
    (length-register_table 0 es) (length-path_table m.name es) (length-field_table es) (length-label_table es) in
    let rows : are_rows (tables_of m) (fields_in es) 0 0 (length es) ≡ true =
    rows_stand (fields_in es) 0 0 s.name (first_name es s.some (rows_whole m)) s.entries (omega arith) (rows_whole m) in
    rw (whole, rows_count m, fields_count m) rows

pub sound_read : (m : Map) → SoundMap m → rows_in (tables_of m) ≡ m
sound_read m s =
    let z : Stands (path_table m.name m.entries) 0 (name_cell m.name) = first_name m.entries s.some (rows_whole m) in
    let a : name_at (path_table m.name m.entries) 0 ≡ m.name = name_read_lem s.name z in
    let b : entries_from (tables_of m) 0 (length (register_table 0 m.entries) / register_row_width) ≡ m.entries =
    ap (entries_from (tables_of m) 0) (rows_count m) ∙ rows_read 0 0 s.name z s.entries (rows_whole m) in
    λ k. record { name = a k; entries = b k }
