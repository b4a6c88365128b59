-- The shapes of a text's definitions in cells: two a row, the size and the access width in bytes, cut at the cap.
use Rattle.std.specs.Prelude.{◌≡◌, List, [], ◌∷◌, ℕ, ◌+◌, ◌*◌, ◌<◌, length, Option}
use Rattle.components.specs.declared.Component.{Component}
use Rattle.components.specs.declared.Component.TheVariants as component
use Rattle.basics.specs.Limits.{definition_limit}
use Rattle.basics.specs.Slices.{cell_of}
use Rattle.cells.specs.Cells.{component_in}
use Rattle.layout.specs.Layout.{shape_at, shapes_from, cut_shape}
use Rattle.layout.specs.declared.Shape.{Shape}
use Rattle.sizes.specs.declared.Extent.{Extent}
use Rattle.sizes.specs.Ready.{known}

-- the cells of a shape
abbrev pub shape_width : ℕ
shape_width = 2

-- the cells of as many shapes as a text may have definitions
abbrev pub shapes_size : ℕ
shapes_size = definition_limit * shape_width

-- the shape in a row of the cells
unfoldable pub shape_in : List ℕ → ℕ → Shape
shape_in s r = record { size = cell_of s (r * shape_width); access = cell_of s (r * shape_width + 1) }

-- the cells of these shapes
unfoldable pub shape_cells : List Shape → List ℕ
shape_cells [] = []
shape_cells (s ∷ shapes) = (cut_shape s).size ∷ (cut_shape s).access ∷ shape_cells shapes

-- the first `rows` rows of the cells have the shapes of the definitions
pub record ShapesIn (s : List ℕ) (rows : ℕ) (shapes : List Shape) : Type 0 where
  pub count : length shapes ≡ rows
  pub each : (r : ℕ) → r < rows → shape_in s r ≡ cut_shape (shape_at shapes r)

-- a row of a body whose instances are laid, with its own alignment
pub data GroupOf : Component → Option ℕ → Type 0 where
  of_regfile : {a : Option ℕ} → GroupOf (component.Regfile a) a
  of_map : {a m : Option ℕ} → GroupOf (component.Addrmap a m) a

abbrev pub GroupRow : List ℕ → ℕ → Option ℕ → Type 0
GroupRow t row alignment = GroupOf (component_in t row) alignment

-- all shapes of a text's definitions, in a mode
abbrev pub all_shapes : List ℕ → List ℕ → Extent → List Shape
all_shapes text t e = shapes_from e.mode [] (known text t e)

-- the shapes of the rows before a row, and this row's own
pub record ShapesBefore (text t s : List ℕ) (e : Extent) (row : ℕ) : Type 0 where
  pub shapes : List Shape
  pub stored : ShapesIn s row shapes
  pub each : (r : ℕ) → r < row → shape_at shapes r ≡ shape_at (all_shapes text t e) r

pub record RowShape (text t : List ℕ) (e : Extent) (row : ℕ) (answer : Shape) : Type 0 where
  pub same : answer ≡ cut_shape (shape_at (all_shapes text t e) row)
