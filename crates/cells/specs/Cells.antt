-- The cells in which the compiler keeps what it knows of a text: 256 rows of 16 cells, one for each definition in the order of closing
-- braces; then the instances, one cell each: those of the bodies that are open from the front, those of closed definitions from the end.
-- A row: 0 the kind, 1 to 6 the component's values, 7 and 8 the first of its instances and how many, 9 and 10 its name, 11 the type
-- declared before it.
use Rattle.std.specs.Prelude.{List, [], ◌∷◌, ℕ, zero, suc, ◌+◌, ◌*◌, ◌/◌, ◌%◌, eqb, ltb, set}
use Rattle.std.specs.Prelude.{if◌then◌else◌}
use Rattle.basics.specs.Limits.{definition_limit}
use Rattle.parts.specs.declared.Kind.{Kind}
use Rattle.parts.specs.declared.Kind.TheVariants as kind
use Rattle.parts.specs.declared.Name.{Name}
use Rattle.components.specs.declared.Component.{Component}
use Rattle.components.specs.declared.Component.TheVariants as component
use Rattle.cells.specs.declared.Values.{Values}
use Rattle.cells.specs.declared.Row.{Row}
use Rattle.basics.specs.Given.{given_from, flag_of, number_of}
use Rattle.basics.specs.Slices.{cell_of}

-- the cells of a definition's row
abbrev pub definition_width : ℕ
definition_width = 16

-- how many instances there is room for
abbrev pub instance_room : ℕ
instance_room = 32768

-- where the instances begin, and where the cells end
abbrev pub entries_at : ℕ
entries_at = definition_limit * definition_width

abbrev pub size : ℕ
size = entries_at + instance_room

-- how many places an instance's cell tells apart, and how many instances of a body: no text is so long, and no body has room for more
abbrev pub entry_places : ℕ
entry_places = 1048576

abbrev pub link_bound : ℕ
link_bound = 262144

-- a kind's number, in the order addrmap, regfile, reg, field
abbrev pub rank : Kind → ℕ
rank kind.Addrmap = 0
rank kind.Regfile = 1
rank kind.Reg = 2
rank kind.Field = 3

-- the component of a row's first seven cells
unfoldable pub component_from : Values → Component
component_from v =
    if eqb v.kind 3 then component.Field (record { sw = v.a; hw = v.b; onread = v.c; onwrite = v.d; reset = given_from v.e v.f }) else
    if eqb v.kind 2 then component.Register (record { width = v.a; access = v.b }) else
    if eqb v.kind 1 then component.Regfile (given_from v.a v.b) else
    component.Addrmap (given_from v.a v.b) (given_from v.c v.d)

unfoldable pub values_in : List ℕ → ℕ → Values
values_in t r =
    record {
      kind = cell_of t (r * definition_width);
      a = cell_of t (r * definition_width + 1);
      b = cell_of t (r * definition_width + 2);
      c = cell_of t (r * definition_width + 3);
      d = cell_of t (r * definition_width + 4);
      e = cell_of t (r * definition_width + 5);
      f = cell_of t (r * definition_width + 6);
    }

-- a component's cells: unused ones are 0
abbrev pub values_of : Component → Values
values_of (component.Field f) =
    record { kind = 3; a = f.sw; b = f.hw; c = f.onread; d = f.onwrite; e = flag_of f.reset; f = number_of f.reset }
values_of (component.Register r) = record { kind = 2; a = r.width; b = r.access; c = 0; d = 0; e = 0; f = 0 }
values_of (component.Regfile l) = record { kind = 1; a = flag_of l; b = number_of l; c = 0; d = 0; e = 0; f = 0 }
values_of (component.Addrmap l m) = record { kind = 0; a = flag_of l; b = number_of l; c = flag_of m; d = number_of m; e = 0; f = 0 }

abbrev pub component_in : List ℕ → ℕ → Component
component_in t r = component_from (values_in t r)

abbrev pub first_in : List ℕ → ℕ → ℕ
first_in t r = cell_of t (r * definition_width + 7)

abbrev pub count_in : List ℕ → ℕ → ℕ
count_in t r = cell_of t (r * definition_width + 8)

abbrev pub name_in : List ℕ → ℕ → Name
name_in t r = record { start = cell_of t (r * definition_width + 9); end = cell_of t (r * definition_width + 10) }

-- the type declared before: its row's number and one more, or 0; never above its own
unfoldable pub below_in : List ℕ → ℕ → ℕ
below_in t r = let b = cell_of t (r * definition_width + 11) in if ltb r b then r else b

-- the cells of a row: its component's values, and the rest
abbrev pub value_cells : Values → List ℕ
value_cells v = v.kind ∷ v.a ∷ v.b ∷ v.c ∷ v.d ∷ v.e ∷ v.f ∷ []

abbrev pub other_cells : Row → List ℕ
other_cells r = r.first ∷ r.count ∷ r.name.start ∷ r.name.end ∷ r.below ∷ []

-- an instance in a cell: its name's place in the text, its type's row, and two instances of its body (crate `name_tree` says which)
unfoldable pub entry_of : ℕ → ℕ → ℕ → ℕ → ℕ
entry_of place row left right = place + entry_places * (row + definition_limit * (left + link_bound * right))

unfoldable pub place_in : ℕ → ℕ
place_in x = x % entry_places

unfoldable pub row_in : ℕ → ℕ
row_in x = x / entry_places % definition_limit

unfoldable pub left_in : ℕ → ℕ
left_in x = x / (entry_places * definition_limit) % link_bound

unfoldable pub right_in : ℕ → ℕ
right_in x = x / (entry_places * definition_limit) / link_bound

-- `count` cells moved from one index to another, the last first
unfoldable pub moved : List ℕ → ℕ → ℕ → ℕ → List ℕ
moved t from to zero = t
moved t from to (suc count) = moved (set t (to + count) (cell_of t (from + count))) from to count
