-- What the cells decode to, whatever they hold: the types from a row down, and the instance of a cell.
use Rattle.std.specs.Prelude.{List, [], ◌∷◌, ℕ, zero, suc, ◌-◌, ltb}
use Rattle.std.specs.Prelude.{if◌then◌else◌}
use Rattle.parts.specs.Reading.{Parsed, ok, stop as refused}
use Rattle.parts.specs.Parts.{instance_at}
use Rattle.parts.specs.declared.Instance.{Instance}
use Rattle.cells.specs.Cells.{name_in, below_in, place_in, row_in}
use Rattle.cells.specs.Definitions.{VisibleType}
use Rattle.basics.specs.Judged.{Judged, fine, fault}

-- the types from one row's number (and one more) down to another's, by the rows of the types declared before; at most `fuel` of them
unfoldable pub types_from : ℕ → List ℕ → ℕ → ℕ → List VisibleType
types_from zero t stop head = []
types_from (suc fuel) t stop head =
    if ltb stop head then record { name = name_in t (head - 1); row = head - 1 } ∷ types_from fuel t stop (below_in t (head - 1)) else []

-- all of them: a type declared before never stands in a row above, so there are at most `head`
abbrev pub types_in : List ℕ → ℕ → ℕ → List VisibleType
types_in t stop head = types_from head t stop head

-- the instance of a cell, which is read at its place, behind its type's row
abbrev pub child_read : ℕ → Parsed Instance → Judged (ℕ × Instance)
child_read row (ok instance next) = fine (row, instance)
child_read row (refused number place) = fault number place

unfoldable pub child_in : List ℕ → ℕ → Judged (ℕ × Instance)
child_in text x = child_read (row_in x) (instance_at text (place_in x))
