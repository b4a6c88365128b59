-- What the passes over a text's definitions are asked for: cells that hold definitions which keep the rules.
use Rattle.std.specs.Prelude.{ℕ, ◌≤◌, List}
use Rattle.basics.specs.Limits.{definition_limit}
use Rattle.cells.specs.Cells.{instance_room}
use Rattle.cells.specs.Definitions.{Definition}
use Rattle.cells.specs.Relation.{Holds}
use Rattle.rules.specs.Rules.{definitions_in}
use Rattle.definition_laws.specs.Sensible.{Sensible}
use Rattle.sizes.specs.declared.Extent.{Extent}

-- the definitions that the cells hold
abbrev pub known : List ℕ → List ℕ → Extent → List Definition
known text t e = definitions_in text t 0 e.rows

pub record Ready (text t : List ℕ) (e : Extent) : Type 0 where
  pub few : e.rows ≤ definition_limit
  pub holds : Holds text t e.rows instance_room (known text t e)
  pub sensible : Sensible (known text t e)
