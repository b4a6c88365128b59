-- The rules of the whole map: 18, then 19, then 20, then 21, "each at its first offender in map order".
use Rattle.std.specs.Prelude.{Bool, true, false, ◌||◌, ◌&&◌, not, List, [], ◌∷◌, ◌++◌, ℕ, suc, ◌+◌, ◌%◌, eqb, ltb, length}
use Rattle.std.specs.Prelude.{if◌then◌else◌}
use Rattle.fields.specs.Codes.{access_code}
use Rattle.fields.specs.declared.AccessRight.TheVariants as access
use Rattle.basics.specs.Judged.{first_of, Verdict, Accepted, Refused}
use Rattle.components.specs.declared.Component.{Component}
use Rattle.components.specs.declared.Component.TheVariants as component
use Rattle.fields.specs.declared.FieldAt.{FieldAt}
use Rattle.cells.specs.Definitions.{Definition, definition_of}
use Rattle.closing_rules.specs.Registers.{fields_of}
use Rattle.rules.specs.Judge.{Meaning}
use Rattle.basics.specs.Limits.{nest_limit, register_limit, field_limit, address_end}
use Rattle.layout.specs.Layout.{bottom, shape_at, shapes_from, mode_of}
use Rattle.layout.specs.declared.Shape.{Shape}
use Rattle.map_rules.specs.Visits.{Visit, visits_in}

abbrev pub is_register : Component → Bool
is_register (component.Field f) = false
is_register (component.Register r) = true
is_register (component.Regfile a) = false
is_register (component.Addrmap a m) = false

abbrev pub is_register_visit : List Definition → Visit → Bool
is_register_visit table v = is_register (definition_of table v.type).component

abbrev pub offence : ℕ → Visit → Verdict
offence n v = Refused n v.name.start

-- 18: "8 nested instances below the map (not fields), 1,024 registers, 4,096 fields", one walk for all three
unfoldable pub too_many : List Definition → ℕ → ℕ → List Visit → Verdict
too_many table registers fields [] = Accepted
too_many table registers fields (v ∷ vs) =
    let r = if is_register_visit table v then suc registers else registers in
    let f = if is_register_visit table v then fields + length (definition_of table v.type).instances else fields in
    if ltb nest_limit (length v.path) || (ltb register_limit r || ltb field_limit f) then offence 18 v else
    too_many table r f vs

-- 19: "stride below element size"
unfoldable pub too_close : List Visit → Verdict
too_close [] = Accepted
too_close (v ∷ vs) = if v.short then offence 19 v else too_close vs

-- 20: "register not on a multiple of its access bytes, or last byte above 2^32-1"
unfoldable pub misplaced : List Definition → List Shape → List Visit → Verdict
misplaced table shapes [] = Accepted
misplaced table shapes (v ∷ vs) =
    let s = shape_at shapes v.type in
    if is_register_visit table v && (not (eqb (v.address.0 % s.access) 0) || ltb address_end (v.address.0 + s.size)) then offence 20 v else
    misplaced table shapes vs

-- "`sw` is `r`, respectively `w`, .. for every field of the register"
unfoldable pub every_access : ℕ → List FieldAt → Bool
every_access a [] = true
every_access a (f ∷ fs) = eqb f.values.sw a && every_access a fs

abbrev pub has_access : List Definition → ℕ → ℕ → Bool
has_access table a type = every_access a (fields_of table (definition_of table type).instances)

-- "one read-only and one write-only"
unfoldable pub is_pair : List Definition → ℕ → ℕ → Bool
is_pair table reader writer = has_access table (access_code access.R) reader && has_access table (access_code access.W) writer

unfoldable pub is_shared_lawfully : List Definition → ℕ → ℕ → Bool
is_shared_lawfully table a b = is_pair table a b || is_pair table b a

-- 21: whether two registers share a byte unlawfully
unfoldable pub overlap_registers : List Definition → List Shape → Visit → Visit → Bool
overlap_registers table shapes v u =
    (ltb v.address.0 (u.address.0 + (shape_at shapes u.type).size) && ltb u.address.0 (v.address.0 + (shape_at shapes v.type).size)) &&
    not (is_shared_lawfully table v.type u.type)

unfoldable pub overlaps_one : List Definition → List Shape → Visit → List Visit → Bool
overlaps_one table shapes v [] = false
overlaps_one table shapes v (u ∷ us) = (is_register_visit table u && overlap_registers table shapes v u) || overlaps_one table shapes v us

-- 21: "registers overlap", at the "later one's name"
unfoldable pub overlapping : List Definition → List Shape → List Visit → List Visit → Verdict
overlapping table shapes earlier [] = Accepted
overlapping table shapes earlier (v ∷ vs) =
    if is_register_visit table v && overlaps_one table shapes v earlier then offence 21 v else
    overlapping table shapes (earlier ++ (v ∷ [])) vs

-- the registers among these elements, and how many fields they have
unfoldable pub registers_among : List Definition → List Visit → List Visit
registers_among table [] = []
registers_among table (v ∷ vs) = if is_register_visit table v then v ∷ registers_among table vs else registers_among table vs

unfoldable pub fields_among : List Definition → List Visit → ℕ
fields_among table [] = 0
fields_among table (v ∷ vs) = if is_register_visit table v then length (definition_of table v.type).instances + fields_among table vs else fields_among table vs

-- the shapes and the elements of a text's map
abbrev pub map_shapes : Meaning → List Shape
map_shapes m = shapes_from (mode_of (definition_of m.table m.map).component) [] m.table

abbrev pub map_visits : Meaning → List Visit
map_visits m = visits_in (suc nest_limit) (mode_of (definition_of m.table m.map).component) m.table (map_shapes m) m.map bottom []

unfoldable pub map_fault : Meaning → Verdict
map_fault m =
    let table = m.table in
    let shapes = map_shapes m in
    let vs = map_visits m in
    first_of (too_many table 0 0 vs) (first_of (too_close vs) (first_of (misplaced table shapes vs) (overlapping table shapes [] vs)))
