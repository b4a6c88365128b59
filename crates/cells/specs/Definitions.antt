-- What a text's definitions mean, in the order of their closing braces: an instance names its type by the number of its definition.
use Rattle.std.specs.Prelude.{List, [], ◌∷◌, map, ℕ, get_or, Option, Some, None}
use Rattle.std.specs.Prelude.{if◌then◌else◌}
use Rattle.parts.specs.declared.Name.{Name}
use Rattle.parts.specs.declared.Instance.{Instance}
use Rattle.identifiers.specs.Names.{same_name}
use Rattle.components.specs.declared.Component.{Component}
use Rattle.components.specs.declared.Component.TheVariants as component

-- an instance, and the number of its type's definition
pub record Child : Type 0 where
  pub instance : Instance
  pub type : ℕ

-- the name that a definition has; of no bytes where it has none
abbrev pub no_name : Name
no_name = record { start = 0; end = 0 }

abbrev pub name_or : Option Name → Name
name_or None = no_name
name_or (Some n) = n

-- a definition: its name, its component and its instances as declared
pub record Definition : Type 0 where
  pub name : Name
  pub component : Component
  pub instances : List Child

-- the definition of a number; there is one for each number that an instance or a type has
abbrev pub no_definition : Definition
no_definition = record { name = no_name; component = component.Regfile None; instances = [] }

abbrev pub definition_of : List Definition → ℕ → Definition
definition_of table n = get_or table n no_definition

abbrev pub names_of : List Child → List Name
names_of cs = map (λ c. c.instance.name) cs

-- a type that is visible, by its name
pub record VisibleType : Type 0 where
  pub name : Name
  pub row : ℕ

-- "inner hides outer": the type declared last
unfoldable pub lookup : List ℕ → Name → List VisibleType → Option ℕ
lookup text n [] = None
lookup text n (e ∷ env) = if same_name text n e.name then Some e.row else lookup text n env
