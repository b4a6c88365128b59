-- The rows of a map, which "hold what the listing shows, no more": its registers in map order with their fields, and the four tables in
-- which they stand. Every row has one form only: unused parts are 0.
use Rattle.std.specs.Prelude.{List, [], ◌∷◌, ◌++◌, ℕ, zero, suc, ◌+◌, length, Option, Some, None}
use Rattle.fields.specs.declared.Offset.{Offset}
use Rattle.fields.specs.declared.Register.{Register}
use Rattle.fields.specs.declared.FieldAt.{FieldAt}
use Rattle.basics.specs.Given.{flag_of, number_of}
use Rattle.basics.specs.Limits.{nest_limit, name_width, path_row_width}

-- a step of a path: a name's bytes, and an element's index in an array
pub record Step : Type 0 where
  pub name : List ℕ
  pub index : Option ℕ

-- a field: its name's bytes, its bits, access, effects and reset
pub record Field : Type 0 where
  pub name : List ℕ
  pub at : FieldAt

-- a register: its path below the map, its address, its widths and its fields as declared
pub record Entry : Type 0 where
  pub path : List Step
  pub address : Offset
  pub register : Register
  pub fields : List Field

-- a map: its name's bytes, and its registers in map order
pub record Map : Type 0 where
  pub name : List ℕ
  pub entries : List Entry

-- so many cells, the first as given, the others 0
unfoldable pub padded : ℕ → List ℕ → List ℕ
padded zero xs = []
padded (suc n) [] = 0 ∷ padded n []
padded (suc n) (x ∷ xs) = x ∷ padded n xs

-- an index in a cell: 0 for none, else one more
abbrev pub index_code : Option ℕ → ℕ
index_code None = 0
index_code (Some k) = suc k

unfoldable pub indices : List Step → List ℕ
indices [] = []
indices (s ∷ path) = index_code s.index ∷ indices path

-- a name in 32 bytes
abbrev pub name_cell : List ℕ → List ℕ
name_cell name = padded name_width name

unfoldable pub name_cells : List Step → List ℕ
name_cells [] = []
name_cells (s ∷ path) = name_cell s.name ++ name_cells path

-- a register's row of 14 numbers: address, width, access width, first field row, number of field rows, number of names below the map,
-- then 8 indices
unfoldable pub register_cells : ℕ → Entry → List ℕ
register_cells first e =
    e.address.0 ∷ e.register.width ∷ e.register.access ∷ first ∷ length e.fields ∷ length e.path ∷ padded nest_limit (indices e.path)

-- its path in 9 cells of 32 bytes, the map's name first
unfoldable pub path_cells : List ℕ → Entry → List ℕ
path_cells name e = padded path_row_width (name_cell name ++ name_cells e.path)

-- a field's row of 8 numbers: low bit, high bit, `sw`, `hw`, `onread`, `onwrite`, whether a reset is given, the reset
unfoldable pub field_cells : FieldAt → List ℕ
field_cells f =
    let v = f.values in
    f.low.0 ∷ f.high.0 ∷ v.sw ∷ v.hw ∷ v.onread ∷ v.onwrite ∷ flag_of v.reset ∷ number_of v.reset ∷ []

-- its name in 32 bytes
abbrev pub label_cell : Field → List ℕ
label_cell f = name_cell f.name

unfoldable pub field_run : List Field → List ℕ
field_run [] = []
field_run (f ∷ fs) = field_cells f.at ++ field_run fs

unfoldable pub label_run : List Field → List ℕ
label_run [] = []
label_run (f ∷ fs) = label_cell f ++ label_run fs

-- the tables: "the registers' runs of field rows .. follow each other"
unfoldable pub register_table : ℕ → List Entry → List ℕ
register_table first [] = []
register_table first (e ∷ es) = register_cells first e ++ register_table (first + length e.fields) es

unfoldable pub path_table : List ℕ → List Entry → List ℕ
path_table name [] = []
path_table name (e ∷ es) = path_cells name e ++ path_table name es

unfoldable pub field_table : List Entry → List ℕ
field_table [] = []
field_table (e ∷ es) = field_run e.fields ++ field_table es

unfoldable pub label_table : List Entry → List ℕ
label_table [] = []
label_table (e ∷ es) = label_run e.fields ++ label_table es

-- four tables that are lent: registers, paths, fields, labels
pub record Tables : Type 0 where
  pub registers : List ℕ
  pub paths : List ℕ
  pub fields : List ℕ
  pub labels : List ℕ

abbrev pub tables : List ℕ → List ℕ → List ℕ → List ℕ → Tables
tables registers paths fields labels = record { registers = registers; paths = paths; fields = fields; labels = labels }

abbrev pub tables_of : Map → Tables
tables_of m = tables (register_table 0 m.entries) (path_table m.name m.entries) (field_table m.entries) (label_table m.entries)
