-- What holds of the definitions of every text that keeps the rules: values in their ranges, types declared before, suffixes that are sound.
use Rattle.std.specs.Prelude.{◌≡◌, true, List, [], ◌∷◌, ◌++◌, ℕ, ◌<◌, ◌≤◌, length, Option, Some, None}
use Rattle.parts.specs.declared.Kind.TheVariants as kind
use Rattle.fields.specs.Codes.{is_width}
use Rattle.property_values.specs.Settings.{is_alignment}
use Rattle.suffixes.specs.Suffixes.{instance_fault}
use Rattle.components.specs.Components.{kind_of}
use Rattle.components.specs.declared.Component.{Component}
use Rattle.components.specs.declared.Component.TheVariants as component
use Rattle.cells.specs.Definitions.{Child, Definition, definition_of}
use Rattle.closing_rules.specs.Registers.{closing_fault}
use Rattle.scopes.specs.Places.{may_hold}
use Rattle.rules.specs.Judge.{Meaning}
use Rattle.basics.specs.Judged.{Accepted}

-- an alignment that may be given is "a power of two up to 65,536"
pub data AlignmentFits : Option ℕ → Type 0 where
  no_alignment : AlignmentFits None
  alignment : {n : ℕ} → is_alignment n ≡ true → AlignmentFits (Some n)

pub data AddressingFits : Option ℕ → Type 0 where
  no_addressing : AddressingFits None
  addressing : {n : ℕ} → n ≤ 2 → AddressingFits (Some n)

-- effective values in their ranges: "`na r w rw`", the effects, "8, 16, 32, 64"
pub data ValuesFit : Component → Type 0 where
  field_fits : {sw hw onread onwrite : ℕ} {reset : Option ℕ} → sw ≤ 3 → hw ≤ 3 → onread ≤ 2 → onwrite ≤ 8
      → ValuesFit (component.Field (record { sw = sw; hw = hw; onread = onread; onwrite = onwrite; reset = reset }))
  register_fits : {width access : ℕ} → is_width width ≡ true → is_width access ≡ true → ValuesFit (component.Register (record { width = width; access = access }))
  regfile_fits : {a : Option ℕ} → AlignmentFits a → ValuesFit (component.Regfile a)
  map-fits : {a m : Option ℕ} → AlignmentFits a → AddressingFits m → ValuesFit (component.Addrmap a m)

-- an instance of a definition before, of a kind that may stand in this body, with sound suffixes
pub record ChildFits (table : List Definition) (holder : Component) (c : Child) : Type 0 where
  pub before : c.type < length table
  pub sound : instance_fault (kind_of (definition_of table c.type).component) c.instance ≡ Accepted
  pub held : may_hold (Some (kind_of holder)) (kind_of (definition_of table c.type).component) ≡ true

pub data ChildrenFit (table : List Definition) (holder : Component) : List Child → Type 0 where
  children_none : ChildrenFit table holder []
  children_more : {c : Child} {cs : List Child} → ChildFits table holder c → ChildrenFit table holder cs → ChildrenFit table holder (c ∷ cs)

-- a definition behind others: it breaks no rule at its closing brace
pub record DefinitionFits (table : List Definition) (d : Definition) : Type 0 where
  pub values : ValuesFit d.component
  pub children : ChildrenFit table d.component d.instances
  pub sound : closing_fault table d.component d.instances ≡ 0

pub data Sensible : List Definition → Type 0 where
  sensible_none : Sensible []
  sensible_more : {table : List Definition} {d : Definition} → Sensible table → DefinitionFits table d → Sensible (table ++ (d ∷ []))

-- the address map is one of the definitions
pub record SensibleMeaning (m : Meaning) : Type 0 where
  pub table : Sensible m.table
  pub low : m.map < length m.table
  pub map : kind_of (definition_of m.table m.map).component ≡ kind.Addrmap
