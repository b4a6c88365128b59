-- "Map order: depth first, as declared, elements rising": every element that the map instantiates, a regfile before its content.
use Rattle.std.specs.Prelude.{Bool, true, false, ◌&&◌, List, [], ◌∷◌, ◌++◌, ℕ, zero, suc, ◌+◌, ◌*◌, ltb, Option, Some, None}
use Rattle.parts.specs.declared.Name.{Name}
use Rattle.parts.specs.declared.Array.{Array}
use Rattle.parts.specs.declared.Array.TheVariants as array
use Rattle.suffixes.specs.Suffixes.{is_array}
use Rattle.fields.specs.declared.Offset.{Offset}
use Rattle.components.specs.declared.Component.{Component}
use Rattle.components.specs.declared.Component.TheVariants as component
use Rattle.cells.specs.Definitions.{Child, Definition, definition_of}
use Rattle.layout.specs.Layout.{shape_at, elements, bottom, laid_from, alignment_of}
use Rattle.layout.specs.declared.Shape.{Shape}
use Rattle.layout.specs.declared.Laid.{Laid}

-- a step of a path: an instance's name, and an element's index in an array
pub record PathStep : Type 0 where
  pub name : Name
  pub index : Option ℕ

-- an element: its path below the map, its own name, its type's definition, its address, and whether its array's stride is below its
-- size (19)
pub record Visit : Type 0 where
  pub path : List PathStep
  pub name : Name
  pub type : ℕ
  pub address : Offset
  pub short : Bool

abbrev pub index_in : Array → ℕ → Option ℕ
index_in array.Missing k = None
index_in (array.Size mark n) k = Some k
index_in (array.Range mark left right) k = None

abbrev pub is_group : Component → Bool
is_group (component.Field f) = false
is_group (component.Register r) = false
is_group (component.Regfile a) = true
is_group (component.Addrmap a m) = true

-- the address of an element of an instance that is laid in a body at an address
abbrev pub address_of : Offset → Laid → ℕ → Offset
address_of base l k = record { 0 = base.0 + (l.start.0 + l.stride * k) }

-- the elements of an instance from the k-th on, `n` of them, each followed by its content
unfoldable pub element_visits : (Offset → List PathStep → List Visit) → List PathStep → Child → Offset → Shape → Laid → ℕ → ℕ → List Visit
element_visits content path c base s l k zero = []
element_visits content path c base s l k (suc n) =
    let here = path ++ (record { name = c.instance.name; index = index_in c.instance.array k } ∷ []) in
    let address = address_of base l k in
    let short = is_array c.instance.array && ltb l.stride s.size in
    record { path = here; name = c.instance.name; type = c.type; address = address; short = short } ∷
    (content address here ++ element_visits content path c base s l (suc k) n)

-- the instances of a body, laid there
unfoldable pub child_visits : (ℕ → Offset → List PathStep → List Visit) → List Shape → List PathStep → Offset → List Child → List Laid → List Visit
child_visits content shapes path base [] ls = []
child_visits content shapes path base (c ∷ cs) [] = []
child_visits content shapes path base (c ∷ cs) (l ∷ ls) =
    element_visits (content c.type) path c base (shape_at shapes c.type) l 0 (elements c.instance.array) ++
    child_visits content shapes path base cs ls

abbrev pub of_group : Bool → List Visit → List Visit
of_group true vs = vs
of_group false vs = []

-- the content of a definition at an address, down to so many levels; a register has none
unfoldable pub visits_in : ℕ → ℕ → List Definition → List Shape → ℕ → Offset → List PathStep → List Visit
visits_in zero m table shapes d base path = []
visits_in (suc levels) m table shapes d base path =
    let c = definition_of table d in
    let places = laid_from m (alignment_of c.component) shapes bottom c.instances in
    of_group (is_group c.component) (child_visits (visits_in levels m table shapes) shapes path base c.instances places)
