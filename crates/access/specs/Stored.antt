-- The views of a map, one for each field row, and its store: "Storage is one 64-bit number per field". The number that a field row shows is
-- the row's own.
use Rattle.std.specs.Prelude.{List, [], ◌∷◌, ◌++◌, ℕ, suc, ◌+◌, length}
use Rattle.rows.specs.Rows.{Field, Entry, Map, Tables}
use Rattle.rows.specs.Reading.{rows_in}
use Rattle.model.specs.declared.View.{View}
use Rattle.model.specs.Model.{Device, size}

-- the fields of a register, as declared, from number n on
unfoldable pub stored_in : Entry → ℕ → List Field → List View
stored_in e n [] = []
stored_in e n (f ∷ fs) = record { base = e.address; register = e.register; field = f.at; index = n } ∷ stored_in e (suc n) fs

unfoldable pub stored_among : ℕ → List Entry → List View
stored_among n [] = []
stored_among n (e ∷ es) = stored_in e n e.fields ++ stored_among (n + length e.fields) es

-- those of a map, in map order
abbrev pub stored_of : Map → List View
stored_of m = stored_among 0 m.entries

-- those of the map that stands in the tables
abbrev pub stored_fields : Tables → List View
stored_fields t = stored_of (rows_in t)

-- a number for each view, with the field's bits
unfoldable pub sizes_of : List View → List ℕ
sizes_of [] = []
sizes_of (c ∷ cs) = size c ∷ sizes_of cs

abbrev pub device_from : List View → Device
device_from cs = record { sizes = sizes_of cs; views = cs }

abbrev pub device_in : Tables → Device
device_in t = device_from (stored_fields t)
