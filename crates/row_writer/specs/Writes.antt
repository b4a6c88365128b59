-- What the functions that write rows do to the lent tables.
use Rattle.std.specs.Prelude.{◌≡◌, List, [], ◌∷◌, ◌++◌, ℕ, zero, suc, ◌+◌, ◌*◌, length}
use Rattle.identifiers.specs.Names.{bytes_of}
use Rattle.basics.specs.Limits.{nest_limit, field_row_width, name_width}
use Rattle.basics.specs.Slices.{cell_of, written}
use Rattle.cells.specs.Cells.{component_in}
use Rattle.cells.specs.Definitions.{definition_of}
use Rattle.closing_rules.specs.Registers.{first_bit}
use Rattle.rows.specs.Rows.{Field, Entry, name_cell, field_run, label_run}
use Rattle.sizes.specs.declared.Extent.{Extent}
use Rattle.sizes.specs.Ready.{known}
use Rattle.register_log.specs.Log.{log_width, head_address, head_row, head_depth, step_start, step_end, step_index}
use Rattle.map_walk.specs.Walks.{registers_of}
use Rattle.row_writer.specs.Entries.{row_fields, widths_of, entries_of}

-- the names and the indices of `n` steps of the log, whose numbers stand from an index on
unfoldable pub names_in : List ℕ → List ℕ → ℕ → ℕ → List ℕ
names_in text log at zero = []
names_in text log at (suc n) = name_cell (bytes_of text (step_start (cell_of log at)) (step_end (cell_of log at))) ++ names_in text log (at + 1) n

unfoldable pub indices_in : List ℕ → ℕ → ℕ → List ℕ
indices_in log at zero = []
indices_in log at (suc n) = step_index (cell_of log at) ∷ indices_in log (at + 1) n

-- a register's numbers, from the log and from its type's row
unfoldable pub numbers_in : List ℕ → List ℕ → ℕ → ℕ → ℕ → List ℕ
numbers_in t log i first count =
    let head = cell_of log (i * log_width) in
    let r = widths_of (component_in t (head_row head)) in
    head_address head ∷ r.width ∷ r.access ∷ first ∷ count ∷ head_depth head ∷ indices_in log (i * log_width + 1) nest_limit

-- fields and labels from a field row on, and the next field row
pub record RunWrites (fields fields_after labels labels_after : List ℕ) (first : ℕ) (fs : List Field) (r : ℕ) : Type 0 where
  pub next : r ≡ first + length fs
  pub rows : fields_after ≡ written fields (first * field_row_width) (field_run fs)
  pub names : labels_after ≡ written labels (first * name_width) (label_run fs)

-- the fields of a definition's row
abbrev pub fields_in : List ℕ → List ℕ → Extent → ℕ → List Field
fields_in text t e row = row_fields text (known text t e) first_bit (definition_of (known text t e) row).instances

-- the rows of the registers of the map in a row
abbrev pub entries_in : List ℕ → List ℕ → Extent → ℕ → List Entry
entries_in text t e row = entries_of text (known text t e) (registers_of text t e row)
