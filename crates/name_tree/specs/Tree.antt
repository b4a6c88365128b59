-- The instances of an open body as a tree over their names. The first is the root; each has a link to the left and one to the right, the
-- numbers of later instances of the body. A name goes down from the root, at each depth to the side that its own bits say.
use Rattle.std.specs.Prelude.{◌≡◌, Bool, true, false, ◌&&◌, List, ℕ, zero, suc, ◌+◌, ◌-◌, ◌/◌, ◌%◌, ◌<◌, eqb, ltb, leb, length, set, get_or}
use Rattle.std.specs.Prelude.{if◌then◌else◌}
use Rattle.basics.specs.Slices.{cell_of}
use Rattle.chars.specs.Same.{same_bytes}
use Rattle.parts.specs.Reading.{Parsed, ok, stop as refused}
use Rattle.parts.specs.Parts.{name_at}
use Rattle.parts.specs.declared.Name.{Name}
use Rattle.bits.specs.Bits.{bit}
use Rattle.identifiers.specs.Names.{bytes_of, print_from}
use Rattle.cells.specs.Cells.{entry_of, place_in, row_in, left_in, right_in}
use Rattle.name_tree.specs.declared.Spot.{Spot}

-- whether a name goes right at a depth: by the 32 bits of its fingerprint, then by those of its bytes
unfoldable pub goes_right : List ℕ → ℕ → Bool
goes_right name depth = if ltb depth 32 then bit (print_from 0 name) depth else bit (get_or name ((depth - 32) / 8) 0) ((depth - 32) % 8)

-- whether what is read is this name
abbrev pub is_spelt : List ℕ → List ℕ → Parsed Name → Bool
is_spelt text name (ok other next) = same_bytes name (bytes_of text other.start other.end)
is_spelt text name (refused number place) = false

-- whether the instance of a cell has this name: its bytes stand at the cell's place, and the name there has no more
unfoldable pub is_entry_named : List ℕ → ℕ → List ℕ → Bool
is_entry_named text x name = same_bytes name (bytes_of text (place_in x) (place_in x + length name)) && is_spelt text name (name_at text (place_in x))

abbrev pub link_in : Bool → ℕ → ℕ
link_in true x = right_in x
link_in false x = left_in x

-- the number of the instance below one of a body, on one side, or 0: it stands behind it, in the body
unfoldable pub below : ℕ → Bool → ℕ → ℕ → ℕ
below x right node count = if leb (link_in right x) node then 0 else if leb count (link_in right x) then 0 else link_in right x

-- a name that goes down from an instance at a depth meets one that has it
pub data Meets (text t : List ℕ) (from count : ℕ) (name : List ℕ) : ℕ → ℕ → Type 0 where
  meets_here : {node depth : ℕ} → is_entry_named text (cell_of t (from + node)) name ≡ true → Meets text t from count name node depth
  meets-below : {node depth number : ℕ} → number ≡ below (cell_of t (from + node)) (goes_right name depth) node count → 0 < number
      → Meets text t from count name number (suc depth) → Meets text t from count name node depth

-- every name that an instance of the body has is met from the root
pub record Linked (text t : List ℕ) (from count : ℕ) : Type 0 where
  pub each : (j : ℕ) → j < count → (name : List ℕ) → is_entry_named text (cell_of t (from + j)) name ≡ true → Meets text t from count name 0 0

-- where a name comes to from an instance at a depth, in at most so many steps: one that has it, or one with none below on its side
unfoldable pub seek_from : ℕ → List ℕ → List ℕ → ℕ → ℕ → List ℕ → ℕ → ℕ → Spot
seek_from zero text t from count name node depth = record { taken = false; node = node; right = false }
seek_from (suc steps) text t from count name node depth =
    let x = cell_of t (from + node) in
    let number = below x (goes_right name depth) node count in
    if leb count node then record { taken = false; node = node; right = false } else
    if is_entry_named text x name then record { taken = true; node = node; right = false } else
    if eqb number 0 then record { taken = false; node = node; right = goes_right name depth } else
    seek_from steps text t from count name number (suc depth)

-- the same from the root: each step leads to a later instance, so there are no more steps than instances
unfoldable pub seek : List ℕ → List ℕ → ℕ → ℕ → List ℕ → Spot
seek text t from count name = seek_from (suc count) text t from count name 0 0

-- a cell with one link made
unfoldable pub with_link : Bool → ℕ → ℕ → ℕ
with_link right number x = if right then entry_of (place_in x) (row_in x) (left_in x) number else entry_of (place_in x) (row_in x) number (right_in x)

-- the cells with the next instance of a body linked, and with that instance
unfoldable pub linked : List ℕ → ℕ → ℕ → Spot → List ℕ
linked t from count spot =
    let i = from + spot.node in
    if ltb spot.node count then set t i (with_link spot.right count (cell_of t i)) else t

unfoldable pub grown : List ℕ → ℕ → ℕ → Spot → ℕ → ℕ → List ℕ
grown t from count spot place row = set (linked t from count spot) (from + count) (entry_of place row 0 0)
