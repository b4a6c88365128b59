-- The listing (document 01, "The listing"): "Key=value lines in a fixed order, LF after each".
use Rattle.std.specs.Prelude.{not, List, [], ◌∷◌, ◌++◌, ℕ, ltb, length, drop, Option, Some, None}
use Rattle.chars.specs.Ascii.{bytes}
use Rattle.std.specs.Prelude.{if◌then◌else◌}
use Rattle.fields.specs.declared.Offset.{Offset}
use Rattle.fields.specs.declared.Register.{Register}
use Rattle.lines.specs.Text.{decimal, hex, line, bits_text, value_lines}
use Rattle.rows.specs.Rows.{Step, Field, Entry, Map, Tables}
use Rattle.rows.specs.Lawful.{lawful}
use Rattle.rows.specs.Reading.{rows_in}
use Rattle.basics.specs.Judged.{Outcome, gave, barred}

-- "Array elements read `name[2]`"
abbrev pub index_text : Option ℕ → List ℕ
index_text None = []
index_text (Some k) = bytes "[" ++ (decimal k ++ bytes "]")

unfoldable pub step_text : Step → List ℕ
step_text s = bytes "." ++ (s.name ++ index_text s.index)

unfoldable pub path_text : List Step → List ℕ
path_text [] = []
path_text (s ∷ path) = step_text s ++ path_text path

unfoldable pub field_lines : Field → List ℕ
field_lines f = line (bytes "field=") f.name ++ (line (bytes "bits=") (bits_text f.at) ++ value_lines f.at.values)

-- "Fields come as declared"
unfoldable pub fields_lines : List Field → List ℕ
fields_lines [] = []
fields_lines (f ∷ fs) = field_lines f ++ fields_lines fs

-- the lines of a register, in the map of this name
unfoldable pub head_lines : List ℕ → List Step → Offset → Register → List ℕ
head_lines name path address r =
    line (bytes "reg=") (name ++ path_text path) ++ (line (bytes "at=") (hex address.0) ++
    (line (bytes "width=") (decimal r.width) ++ line (bytes "access=") (decimal r.access)))

unfoldable pub entry_lines : List ℕ → Entry → List ℕ
entry_lines name e = head_lines name e.path e.address e.register ++ fields_lines e.fields

unfoldable pub entries_lines : List ℕ → List Entry → List ℕ
entries_lines name [] = []
entries_lines name (e ∷ es) = entry_lines name e ++ entries_lines name es

unfoldable pub listing_of : Map → List ℕ
listing_of m = line (bytes "map=") m.name ++ entries_lines m.name m.entries

-- "listing check 24 for the rows, then 22": what is answered, with so much room
unfoldable pub listed : ℕ → Tables → Outcome ℕ
listed room t =
    if not (lawful t) then barred 24 else
    if ltb room (length (listing_of (rows_in t))) then barred 22 else
    gave (length (listing_of (rows_in t)))

-- and the output afterwards: "the first .. bytes are written, the rest stay"
abbrev pub output_of : List ℕ → List ℕ → Outcome ℕ → List ℕ
output_of out bytes (barred n) = out
output_of out bytes (gave n) = bytes ++ drop n out

-- an answer in document 01's numbers: the refusal or 0, the place, which is always 0, and the count of bytes, 0 where refused
abbrev pub listed_numbers : Outcome ℕ → List ℕ
listed_numbers (barred n) = n ∷ 0 ∷ 0 ∷ []
listed_numbers (gave n) = 0 ∷ 0 ∷ n ∷ []

-- "Reset and listing check 24 for the rows, then 22": the numbers of a listing, with so much room
unfoldable pub listing_numbers : ℕ → Tables → List ℕ
listing_numbers room t =
    if not (lawful t) then 24 ∷ 0 ∷ 0 ∷ [] else
    if ltb room (length (listing_of (rows_in t))) then 22 ∷ 0 ∷ 0 ∷ [] else
    0 ∷ 0 ∷ length (listing_of (rows_in t)) ∷ []
