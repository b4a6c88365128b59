-- "then for each stored field its number, `heron.tally.count=0x0` (path, dot, field name; hex as in the listing)".
use Rattle.std.specs.Prelude.{Bool, not, ◌&&◌, List, [], ◌∷◌, ◌++◌, ℕ, zero, suc, ◌+◌, ◌*◌, leb, ltb, length}
use Rattle.std.specs.Prelude.{if◌then◌else◌}
use Rattle.basics.specs.Limits.{nest_limit, register_limit, field_limit, name_width}
use Rattle.basics.specs.Slices.{cell_of}
use Rattle.chars.specs.Ascii.{bytes}
use Rattle.lines.specs.Text.{hex}
use Rattle.rows.specs.Rows.{Field, Entry, Map}
use Rattle.rows.specs.Lawful.{register_row}
use Rattle.rows.specs.Reading.{name_at, path_in}
use Rattle.listing.specs.Listing.{path_text}

-- the path of field j of register i with its name, and its line
unfoldable pub label_text : List ℕ → List ℕ → List ℕ → ℕ → ℕ → List ℕ
label_text registers paths labels i j = (name_at paths 0 ++ path_text (path_in registers paths i)) ++ (bytes "." ++ name_at labels (j * name_width))

unfoldable pub number_line : List ℕ → List ℕ → List ℕ → List ℕ → ℕ → ℕ → List ℕ
number_line registers paths labels store i j = label_text registers paths labels i j ++ (bytes "=" ++ (hex (cell_of store j) ++ (10 ∷ [])))

-- those of so many fields from one on
unfoldable pub number_lines : List ℕ → List ℕ → List ℕ → List ℕ → ℕ → ℕ → ℕ → List ℕ
number_lines registers paths labels store i j zero = []
number_lines registers paths labels store i j (suc n) = number_line registers paths labels store i j ++ number_lines registers paths labels store i (suc j) n

-- numbers such as a lawful row has: a deeper path or a longer run is none
unfoldable pub is_bounded : List ℕ → ℕ → Bool
is_bounded registers i =
    let r = register_row registers i in
    not (ltb nest_limit r.depth) && (not (ltb field_limit r.first) && leb r.count field_limit)

-- those of register i
unfoldable pub numbers_text : List ℕ → List ℕ → List ℕ → List ℕ → ℕ → List ℕ
numbers_text registers paths labels store i =
    if ltb register_limit i then [] else
    if not (is_bounded registers i) then [] else
    let r = register_row registers i in
    number_lines registers paths labels store i r.first r.count

-- those of n registers from i on, one after another
unfoldable pub all_numbers : List ℕ → List ℕ → List ℕ → List ℕ → ℕ → ℕ → List ℕ
all_numbers registers paths labels store i zero = []
all_numbers registers paths labels store i (suc n) = numbers_text registers paths labels store i ++ all_numbers registers paths labels store (suc i) n

-- the same of a map itself: "path, dot, field name", `=` and the store's number, for the fields of a register whose path is given; the
-- first of them has number j of the store, the others those after it
unfoldable pub field_numbers : List ℕ → List Field → List ℕ → ℕ → List ℕ
field_numbers path [] store j = []
field_numbers path (f ∷ fs) store j =
    ((path ++ (bytes "." ++ f.name)) ++ (bytes "=" ++ (hex (cell_of store j) ++ (10 ∷ [])))) ++ field_numbers path fs store (suc j)

-- those of registers in the map of this name: each takes as many of the store's numbers as it has fields
unfoldable pub entries_numbers : List ℕ → List Entry → List ℕ → ℕ → List ℕ
entries_numbers name [] store j = []
entries_numbers name (e ∷ es) store j = field_numbers (name ++ path_text e.path) e.fields store j ++ entries_numbers name es store (j + length e.fields)

-- those of a map, the store's numbers from its first on
unfoldable pub map_numbers : Map → List ℕ → List ℕ
map_numbers m store = entries_numbers m.name m.entries store 0

-- where so many rows of a width end, in a table of a length
unfoldable pub rows_end : ℕ → ℕ → ℕ → ℕ
rows_end count width length = if ltb length (count * width) then length else count * width
