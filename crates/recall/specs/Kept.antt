-- Which instances are kept: those that are long in the text, each on the shelf of its place. It is a matter of speed: whatever is kept is
-- what the text gives (proofs/Kept, `long_kept`), and nothing else stands on which they are.
use Rattle.std.specs.Prelude.{Bool, ◌&&◌, List, ℕ, zero, suc, ◌+◌, ◌/◌, ◌%◌, eqb, leb, ltb, length, set}
use Rattle.std.specs.Prelude.{if◌then◌else◌}
use Rattle.basics.specs.Slices.{cell_of, written}
use Rattle.lex.specs.Token.{token_at}
use Rattle.parts.specs.Reading.{Parsed, ok, stop}
use Rattle.parts.specs.Parts.{instance_at}
use Rattle.parts.specs.declared.Instance.{Instance}
use Rattle.cells.specs.Cells.{entries_at, first_in, count_in, place_in}
use Rattle.sizes.specs.declared.Extent.{Extent}
use Rattle.recall.specs.Encoded.{instance_cells}
use Rattle.recall.specs.Shelves.{shelf_count, shelf_at}

-- how many bytes make an instance long: a text's share for one shelf, and one more
unfoldable pub reach_of : ℕ → ℕ
reach_of bytes = bytes / shelf_count + 1

-- the shelf of a place
unfoldable pub shelf_of : ℕ → ℕ → ℕ
shelf_of bytes place = place / reach_of bytes % shelf_count

-- the instance of a cell is surely short, since that of the next cell begins so near behind it
unfoldable pub is_surely_short : ℕ → List ℕ → ℕ → Bool
is_surely_short bytes t i =
    let place = place_in (cell_of t i) in
    let next = place_in (cell_of t (i + 1)) in
    ltb place next && ltb next (place + reach_of bytes)

-- an instance, which ends at `next`, is kept if it is long: from its place to the word behind it
unfoldable pub kept_one : List ℕ → List ℕ → ℕ → Instance → ℕ → List ℕ
kept_one text s place instance next =
    let at = shelf_at (shelf_of (length text) place) in
    if leb (place + reach_of (length text)) (token_at text next).start then written (set s at (place + 1)) (at + 1) (instance_cells instance) else
    s

-- what is read at a place is kept; a refusal is not
abbrev pub kept_read : List ℕ → List ℕ → ℕ → Parsed Instance → List ℕ
kept_read text s place (ok instance next) = kept_one text s place instance next
kept_read text s place (stop number at) = s

-- the instance of a cell
unfoldable pub kept_at : List ℕ → List ℕ → List ℕ → ℕ → List ℕ
kept_at text t s i =
    let place = place_in (cell_of t i) in
    if is_surely_short (length text) t i then s else kept_read text s place (instance_at text place)

-- what is done for one number, done for `count` of them, one after another
unfoldable pub each_from : (List ℕ → ℕ → List ℕ) → List ℕ → ℕ → ℕ → List ℕ
each_from f s i zero = s
each_from f s i (suc count) = each_from f (f s i) (i + 1) count

-- the instances of a definition, but for the map itself, whose instances are read once anyway
unfoldable pub kept_row : List ℕ → List ℕ → ℕ → List ℕ → ℕ → List ℕ
kept_row text t map s row = if eqb row map then s else each_from (kept_at text t) s (entries_at + first_in t row) (count_in t row)

-- one shelf emptied, and all of them
unfoldable pub emptied_at : List ℕ → ℕ → List ℕ
emptied_at s shelf = set s (shelf_at shelf) 0

abbrev pub emptied : List ℕ → List ℕ
emptied s = each_from emptied_at s 0 shelf_count

-- all shelves are emptied, and then the long instances of all definitions but the map kept
unfoldable pub kept_long : List ℕ → List ℕ → List ℕ → Extent → List ℕ
kept_long text t s e = each_from (kept_row text t e.map) (emptied s) 0 e.rows
