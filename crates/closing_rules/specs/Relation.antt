-- The cells of a body hold these instances: what they decode to is then what is judged of the instances.
use Rattle.std.specs.Prelude.{◌≡◌, List, [], ◌∷◌, ℕ, suc, ◌<◌}
use Rattle.suffixes.specs.Suffixes.{instance_fault}
use Rattle.components.specs.Components.{kind_of}
use Rattle.basics.specs.Slices.{cell_of}
use Rattle.cells.specs.Cells.{component_in}
use Rattle.cells.specs.Definitions.{Child, Definition, definition_of}
use Rattle.cells.specs.Relation.{IsEntry}
use Rattle.basics.specs.Judged.{Accepted}

-- the cells from one up to another hold these instances: their suffixes are sound, and the rows of their types hold the definitions
pub data HeldBetween (text t : List ℕ) (table : List Definition) (to : ℕ) : ℕ → List Child → Type 0 where
  stored_end : HeldBetween text t table to to []
  stored_on : {i : ℕ} {c : Child} {cs : List Child} → i < to → IsEntry text (cell_of t i) c
      → component_in t c.type ≡ (definition_of table c.type).component
      → instance_fault (kind_of (definition_of table c.type).component) c.instance ≡ Accepted
      → HeldBetween text t table to (suc i) cs → HeldBetween text t table to i (c ∷ cs)
