-- The stored fields that stand in register rows and field rows, and what the functions over rows ask of them.
use Rattle.std.specs.Prelude.{◌≡◌, Bool, true, false, ◌&&◌, ◌||◌, List, [], ◌∷◌, ◌++◌, ℕ, zero, suc, ◌+◌, ◌-◌, ◌/◌, ◌^◌, ◌<◌, ◌≤◌, ltb, length, get_or}
use Rattle.fields.specs.Codes.{is_width}
use Rattle.basics.specs.Given.{or_else}
use Rattle.basics.specs.Limits.{field_limit, register_row_width, field_row_width}
use Rattle.fields.specs.declared.FieldAt.{FieldAt}
use Rattle.fields.specs.declared.Offset.{Offset}
use Rattle.fields.specs.declared.Register.{Register}
use Rattle.rows.specs.Rows.{tables}
use Rattle.rows.specs.declared.RegisterRow.{RegisterRow}
use Rattle.rows.specs.Lawful.{register_row, field_row, lawful}
use Rattle.model.specs.declared.View.{View}
use Rattle.model.specs.Model.{reaches_register}
use Rattle.field_access.specs.Ranges.{ViewInRange}

-- the widths of a register's row
abbrev pub register_of : RegisterRow → Register
register_of r = record { width = r.width; access = r.access }

-- a field with its register, and the number that it shows
abbrev pub stored_field : RegisterRow → FieldAt → ℕ → View
stored_field r f j = record { base = r.address; register = register_of r; field = f; index = j }

-- `n` fields of a register's row, from field row j on
unfoldable pub run_fields : RegisterRow → List ℕ → ℕ → ℕ → List View
run_fields r fields j zero = []
run_fields r fields j (suc n) = stored_field r (field_row fields j) j ∷ run_fields r fields (suc j) n

abbrev pub row_fields : RegisterRow → List ℕ → List View
row_fields r fields = run_fields r fields r.first r.count

-- the fields of `n` registers from register row i on
unfoldable pub stored_rows : List ℕ → List ℕ → ℕ → ℕ → List View
stored_rows registers fields i zero = []
stored_rows registers fields i (suc n) = row_fields (register_row registers i) fields ++ stored_rows registers fields (suc i) n

-- the fields of all registers
abbrev pub all_fields : List ℕ → List ℕ → List View
all_fields registers fields = stored_rows registers fields 0 (length registers / register_row_width)

-- 25: a register is reached, among `n` from register row i on
unfoldable pub reached_rows : Offset → ℕ → List ℕ → ℕ → ℕ → Bool
reached_rows a w registers i zero = false
reached_rows a w registers i (suc n) =
    let r = register_row registers i in
    reaches_register a w r.address (register_of r) || reached_rows a w registers (suc i) n

-- "the number of each field row fits that field's width": of `n` field rows from field row j on
abbrev pub is_fitting : ℕ → FieldAt → Bool
is_fitting v f = ltb v (2 ^ (f.high.0 + 1 - f.low.0))

unfoldable pub fitting_rows : List ℕ → List ℕ → ℕ → ℕ → Bool
fitting_rows fields s j zero = true
fitting_rows fields s j (suc n) = is_fitting (get_or s j 0) (field_row fields j) && fitting_rows fields s (suc j) n

-- "the reset, or 0": of `n` field rows from field row j on
abbrev pub reset_in : FieldAt → ℕ
reset_in f = or_else 0 f.values.reset

unfoldable pub resets_from : List ℕ → ℕ → ℕ → List ℕ
resets_from fields j zero = []
resets_from fields j (suc n) = reset_in (field_row fields j) ∷ resets_from fields (suc j) n

-- what the functions over all registers ask: register rows and field rows that are lawful with some paths and labels, and an access width
pub record LawfulRows (w : ℕ) (registers fields : List ℕ) : Type 0 where
  pub paths : List ℕ
  pub labels : List ℕ
  pub rows : lawful (tables registers paths fields labels) ≡ true
  pub width : is_width w ≡ true

-- what the functions of one register ask: its fields' rows are few, and an access of this width can use each field
pub record Runs (w : ℕ) (fields : List ℕ) (r : RegisterRow) : Type 0 where
  pub few : r.first + r.count ≤ field_limit
  pub usable : (k : ℕ) → k < r.count → ViewInRange w (stored_field r (field_row fields (r.first + k)) (r.first + k))

-- what the loop over all field rows asks
pub record RangedFields (fields : List ℕ) : Type 0 where
  pub few : length fields / field_row_width ≤ field_limit
  pub order : (j : ℕ) → j < length fields / field_row_width → (field_row fields j).low.0 ≤ (field_row fields j).high.0
  pub top : (j : ℕ) → j < length fields / field_row_width → (field_row fields j).high.0 < 64
