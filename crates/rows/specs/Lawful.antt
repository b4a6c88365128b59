-- Lawful rows (document 01, "Reading and writing"): "there is a register, every path is the map's name, then names with indices in
-- range, each row meets the ranges and rules 12 to 15, 18 and 20, and the registers' runs of field rows, none empty, follow each other
-- and use all".
use Rattle.std.specs.Prelude.{Bool, true, ◌||◌, ◌&&◌, not, List, ℕ, zero, suc, ◌+◌, ◌*◌, ◌/◌, ◌%◌, eqb, leb, ltb, length}
use Rattle.chars.specs.Ascii.{is_letter, is_name_byte}
use Rattle.std.specs.Prelude.{if◌then◌else◌}
use Rattle.fields.specs.Codes.{is_width}
use Rattle.fields.specs.declared.FieldAt.{FieldAt}
use Rattle.fields.specs.declared.FieldType.{FieldType}
use Rattle.fields.specs.Fields.{has_unusable_effect, is_reset_wide, is_outside}
use Rattle.basics.specs.Slices.{cell_of}
use Rattle.basics.specs.Given.{given_from}
use Rattle.basics.specs.Limits.{nest_limit, register_limit, field_limit, array_limit, address_end, name_limit, register_row_width, field_row_width, name_width, path_row_width}
use Rattle.rows.specs.Rows.{Tables}
use Rattle.rows.specs.declared.RegisterRow.{RegisterRow}

-- "letter or underscore, then all letters, digits, underscores that follow, at most 31 bytes", then zeros: behind a 0 stand only zeros
unfoldable pub follows : ℕ → ℕ → Bool
follows before b = eqb b 0 || (is_name_byte b && not (eqb before 0))

-- each of the `n` bytes behind the one at an index follows the one before it
unfoldable pub all_follow : List ℕ → ℕ → ℕ → Bool
all_follow t at zero = true
all_follow t at (suc n) = follows (cell_of t at) (cell_of t (suc at)) && all_follow t (suc at) n

-- the 32 bytes from an index on are a name
unfoldable pub is_name : List ℕ → ℕ → Bool
is_name t at = is_letter (cell_of t at) && (all_follow t at name_limit && eqb (cell_of t (at + name_limit)) 0)

unfoldable pub are_zero : List ℕ → ℕ → ℕ → Bool
are_zero t at zero = true
are_zero t at (suc n) = eqb (cell_of t at) 0 && are_zero t (suc at) n

-- the k-th cell of a path: a name as far as the path goes, the map's the 0th, then zeros
unfoldable pub is_path_cell : List ℕ → ℕ → ℕ → ℕ → Bool
is_path_cell t depth at k = if leb k depth then is_name t at else are_zero t at name_width

-- the cells of a path from the k-th on, `n` of them
unfoldable pub are_names : List ℕ → ℕ → ℕ → ℕ → ℕ → Bool
are_names t depth at k zero = true
are_names t depth at k (suc n) = is_path_cell t depth at k && are_names t depth (at + name_width) (suc k) n

-- the k-th index: in range as far as the path goes, then 0
unfoldable pub is_index : ℕ → ℕ → ℕ → Bool
is_index depth k index = if ltb k depth then leb index array_limit else eqb index 0

-- the indices from the k-th on, `n` of them
unfoldable pub are_indices : List ℕ → ℕ → ℕ → ℕ → ℕ → Bool
are_indices t depth at k zero = true
are_indices t depth at k (suc n) = is_index depth k (cell_of t at) && are_indices t depth (suc at) (suc k) n

-- the `n` bytes from an index on are those from another on
unfoldable pub are_same : List ℕ → ℕ → ℕ → ℕ → Bool
are_same t a b zero = true
are_same t a b (suc n) = eqb (cell_of t a) (cell_of t b) && are_same t (suc a) (suc b) n

-- the first six numbers of a register's row
unfoldable pub register_row : List ℕ → ℕ → RegisterRow
register_row t i =
    record {
      address = record { 0 = cell_of t (i * register_row_width) };
      width = cell_of t (i * register_row_width + 1);
      access = cell_of t (i * register_row_width + 2);
      first = cell_of t (i * register_row_width + 3);
      count = cell_of t (i * register_row_width + 4);
      depth = cell_of t (i * register_row_width + 5);
    }

-- the widths' ranges, 14, and 20: "on a multiple of its access bytes", "last byte" at most 2^32-1
unfoldable pub is_placed : RegisterRow → Bool
is_placed r =
    is_width r.width && (is_width r.access && (leb r.access r.width &&
    (eqb (r.address.0 % (r.access / 8)) 0 && leb (r.address.0 + r.width / 8) address_end)))

-- a run of field rows, not empty, from the field row `first` on, among `all`
unfoldable pub is_run : ℕ → ℕ → RegisterRow → Bool
is_run all first r = eqb r.first first && (ltb 0 r.count && leb (first + r.count) all)

-- a path of 1 to 8 names below the map, whose name is the first row's
unfoldable pub is_path : List ℕ → List ℕ → ℕ → ℕ → Bool
is_path registers paths i depth =
    ltb 0 depth && (leb depth nest_limit && (are_indices registers depth (i * register_row_width + 6) 0 nest_limit &&
    (are_names paths depth (i * path_row_width) 0 (nest_limit + 1) && are_same paths 0 (i * path_row_width) name_width)))

-- a field of a field row
unfoldable pub field_values : List ℕ → ℕ → FieldType
field_values t at =
    record {
      sw = cell_of t (at + 2);
      hw = cell_of t (at + 3);
      onread = cell_of t (at + 4);
      onwrite = cell_of t (at + 5);
      reset = given_from (cell_of t (at + 6)) (cell_of t (at + 7));
    }

unfoldable pub field_row : List ℕ → ℕ → FieldAt
field_row t j = record { low = record { 0 = cell_of t (j * field_row_width) }; high = record { 0 = cell_of t (j * field_row_width + 1) }; values = field_values t (j * field_row_width) }

-- the ranges of access and effects
unfoldable pub is_ranged : FieldAt → Bool
is_ranged f = leb f.values.sw 3 && (leb f.values.hw 3 && (leb f.values.onread 2 && leb f.values.onwrite 8))

-- left not below right; 12, 13 and 15
unfoldable pub is_sound_field : ℕ → FieldAt → Bool
is_sound_field width f = leb f.low.0 f.high.0 && (not (is_outside width f) && (not (has_unusable_effect f.values) && not (is_reset_wide f)))

-- whether a reset is given is 0 or 1, and the reset is 0 where it is not
unfoldable pub is_reset_form : ℕ → ℕ → Bool
is_reset_form flag reset = leb flag 1 && (eqb flag 1 || eqb reset 0)

unfoldable pub is_field_row : List ℕ → List ℕ → ℕ → ℕ → Bool
is_field_row fields labels width j =
    is_ranged (field_row fields j) && (is_sound_field width (field_row fields j) &&
    (is_reset_form (cell_of fields (j * field_row_width + 6)) (cell_of fields (j * field_row_width + 7)) && is_name labels (j * name_width)))

unfoldable pub are_field_rows : List ℕ → List ℕ → ℕ → ℕ → ℕ → Bool
are_field_rows fields labels width j zero = true
are_field_rows fields labels width j (suc n) = is_field_row fields labels width j && are_field_rows fields labels width (suc j) n

unfoldable pub is_register_row : Tables → ℕ → ℕ → ℕ → Bool
is_register_row t all i first =
    let r = register_row t.registers i in
    is_placed r && (is_run all first r && (is_path t.registers t.paths i r.depth &&
    are_field_rows t.fields t.labels r.width first r.count))

-- the rows from the i-th on, `n` of them, whose fields are those from the field row `first` on: "follow each other and use all"
unfoldable pub are_rows : Tables → ℕ → ℕ → ℕ → ℕ → Bool
are_rows t all i first zero = eqb first all
are_rows t all i first (suc n) = is_register_row t all i first && are_rows t all (suc i) (first + (register_row t.registers i).count) n

-- tables of these lengths have whole rows only, and 18 for registers and fields
unfoldable pub are_whole : ℕ → ℕ → ℕ → ℕ → Bool
are_whole registers paths fields labels =
    let n = registers / register_row_width in
    let all = fields / field_row_width in
    (leb n register_limit && leb all field_limit) && (ltb 0 n && ((eqb registers (n * register_row_width) && eqb paths (n * path_row_width)) && (eqb fields (all * field_row_width) && eqb labels (all * name_width))))

unfoldable pub lawful : Tables → Bool
lawful t =
    are_whole (length t.registers) (length t.paths) (length t.fields) (length t.labels) &&
    are_rows t (length t.fields / field_row_width) 0 0 (length t.registers / register_row_width)
