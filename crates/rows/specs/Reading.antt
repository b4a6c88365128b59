-- The map that stands in four tables: the rows read back.
use Rattle.std.specs.Prelude.{List, [], ◌∷◌, ℕ, zero, suc, ◌+◌, ◌-◌, ◌*◌, ◌/◌, eqb, length, Option, Some, None}
use Rattle.std.specs.Prelude.{if◌then◌else◌}
use Rattle.basics.specs.Slices.{cell_of}
use Rattle.basics.specs.Limits.{register_row_width, name_width, path_row_width}
use Rattle.rows.specs.Rows.{Step, Field, Entry, Map, Tables}
use Rattle.rows.specs.Lawful.{register_row, field_row}

-- a name's bytes in a cell: up to the first 0
unfoldable pub name_from : List ℕ → ℕ → ℕ → List ℕ
name_from t at zero = []
name_from t at (suc n) = if eqb (cell_of t at) 0 then [] else (cell_of t at ∷ name_from t (suc at) n)

abbrev pub name_at : List ℕ → ℕ → List ℕ
name_at t at = name_from t at name_width

abbrev pub index_from : ℕ → Option ℕ
index_from code = if eqb code 0 then None else Some (code - 1)

-- `n` steps of a path, whose indices and names stand from these places on
unfoldable pub steps_from : List ℕ → List ℕ → ℕ → ℕ → ℕ → List Step
steps_from registers paths index name zero = []
steps_from registers paths index name (suc n) =
    record { name = name_at paths name; index = index_from (cell_of registers index) } ∷ steps_from registers paths (suc index) (name + name_width) n

abbrev pub path_in : List ℕ → List ℕ → ℕ → List Step
path_in registers paths i = steps_from registers paths (i * register_row_width + 6) (i * path_row_width + name_width) (register_row registers i).depth

unfoldable pub fields_from : List ℕ → List ℕ → ℕ → ℕ → List Field
fields_from fields labels j zero = []
fields_from fields labels j (suc n) = record { name = name_at labels (j * name_width); at = field_row fields j } ∷ fields_from fields labels (suc j) n

abbrev pub entry_in : Tables → ℕ → Entry
entry_in t i =
    let r = register_row t.registers i in
    record {
      path = path_in t.registers t.paths i;
      address = r.address;
      register = record { width = r.width; access = r.access };
      fields = fields_from t.fields t.labels r.first r.count;
    }

unfoldable pub entries_from : Tables → ℕ → ℕ → List Entry
entries_from t i zero = []
entries_from t i (suc n) = entry_in t i ∷ entries_from t (suc i) n

abbrev pub rows_in : Tables → Map
rows_in t = record { name = name_at t.paths 0; entries = entries_from t 0 (length t.registers / register_row_width) }
