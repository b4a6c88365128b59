-- The compiler on one page: the refusals 1 to 22 in document 01's order, and the rows of an accepted text.
use Rattle.std.specs.Prelude.{Bool, ◌||◌, List, [], ◌∷◌, ◌++◌, ℕ, ltb, length, drop}
use Rattle.std.specs.Prelude.{if◌then◌else◌}
use Rattle.basics.specs.Judged.{Judged, fault, fine, onward, found}
use Rattle.cells.specs.Definitions.{definition_of}
use Rattle.rules.specs.Judge.{Meaning}
use Rattle.rules.specs.Rules.{ruled}
use Rattle.row_laws.specs.Sound.{fields_in}
use Rattle.rows.specs.Rows.{Map, Tables, tables, tables_of}
use Rattle.map_rules.specs.Whole.{map_visits, map_fault, registers_among}
use Rattle.row_writer.specs.Entries.{bytes_in, entries_of}
use Rattle.map_walk.specs.declared.Counts.{Counts}

-- the map of a text: the name of its definition, and its registers in map order
abbrev pub map_of : List ℕ → Meaning → Map
map_of text m =
    record {
      name = bytes_in text (definition_of m.table m.map).name;
      entries = entries_of text m.table (registers_among m.table (map_visits m));
    }

-- "then over the whole map 18, 19, 20, 21"
unfoldable pub mapped : List ℕ → Meaning → Judged Map
mapped text m = found (map_fault m) (fine (map_of text m))

-- "1; then words (2, 4); then 3 and 18 for bodies ..; then 5 to 17 and 18 for definitions ..; then over the whole map": the first refusal
-- of a text, or its map
unfoldable pub compiled : List ℕ → Judged Map
compiled text = onward (ruled text) (mapped text)

-- "then 22": "lent table .. shorter than the rows .. it must hold"
unfoldable pub is_short : Tables → Tables → Bool
is_short lent rows =
    (ltb (length lent.registers) (length rows.registers) || ltb (length lent.paths) (length rows.paths)) ||
    (ltb (length lent.fields) (length rows.fields) || ltb (length lent.labels) (length rows.labels))

-- what is answered: a refusal and its place, or how many register rows and field rows there are
unfoldable pub answered : Tables → Judged Map → Judged Counts
answered lent (fault n p) = fault n p
answered lent (fine m) = if is_short lent (tables_of m) then fault 22 0 else fine (record { registers = length m.entries; fields = fields_in m.entries })

-- "the first rows .. are written, the rest stay"
abbrev pub over : List ℕ → List ℕ → List ℕ
over rows lent = rows ++ drop (length rows) lent

abbrev pub over_all : Tables → Tables → Tables
over_all rows lent =
    tables (over rows.registers lent.registers) (over rows.paths lent.paths) (over rows.fields lent.fields) (over rows.labels lent.labels)

-- the lent tables afterwards: "Refused: .. nothing lent changes"
unfoldable pub lent_after : Tables → Judged Map → Tables
lent_after lent (fault n p) = lent
lent_after lent (fine m) = if is_short lent (tables_of m) then lent else over_all (tables_of m) lent

-- an answer in document 01's numbers: the refusal or 0, its place, and the counts of register rows and field rows, 0 where it is refused
abbrev pub compiled_numbers : Judged Counts → List ℕ
compiled_numbers (fault n p) = n ∷ p ∷ 0 ∷ 0 ∷ []
compiled_numbers (fine counts) = 0 ∷ 0 ∷ counts.registers ∷ counts.fields ∷ []

-- the numbers of what is answered
abbrev pub answered_numbers : Tables → Judged Map → List ℕ
answered_numbers lent (fault n p) = n ∷ p ∷ 0 ∷ 0 ∷ []
answered_numbers lent (fine m) = if is_short lent (tables_of m) then (22 ∷ 0 ∷ 0 ∷ 0 ∷ []) else (0 ∷ 0 ∷ length m.entries ∷ fields_in m.entries ∷ [])
