-- The row is written behind the closed definitions, and the instances are moved to theirs.
use mathlib.Core.Path.{◌≡◌, refl}
use Rattle.std.specs.Prelude.{Option, Some, None}
use Rattle.std.specs.Option.{unwrap_or}
use Rattle.parts.specs.declared.Name.{Name}
use Rattle.cells.specs.Definitions.{name_or, no_name}
use Rattle.scopes.specs.Walks.{filed_cells}
use Rattle.scopes.proofs.file_definition.Goals as goal

-- a definition without a name has the empty one
named : (n : Option Name) → unwrap_or n no_name ≡ name_or n
named None = refl
named (Some name) = refl

pub returns : goal.returns
unfolding filed_cells
returns c = rw (c.move_cells.ensures, c.put_row.ensures, c.values_of.ensures, c.unwrap_or.ensures, named)
