-- The rules 5 to 17, and 18 for definitions, as one walk over the syntax tree in text order: the first fault, or what the text means.
use Rattle.std.specs.Prelude.{Bool, false, ◌||◌, not, List, [], ◌∷◌, ◌++◌, map, ℕ, ◌+◌, ◌-◌, eqb, leb, ltb, length, Option, Some, None}
use Rattle.std.specs.Prelude.{if◌then◌else◌}
use Rattle.parts.specs.declared.Name.{Name}
use Rattle.parts.specs.declared.Kind.{Kind}
use Rattle.parts.specs.declared.Instance.{Instance}
use Rattle.parts.specs.declared.Header.{Header}
use Rattle.parts.specs.declared.Assignment.{Assignment}
use Rattle.suffixes.specs.Suffixes.{instance_fault}
use Rattle.syntax.specs.Tree.{Elem, definition, instances, property, Body, close, more}
use Rattle.identifiers.specs.Names.{is_among}
use Rattle.basics.specs.Judged.{Judged, fault, fine, onward, unless, found}
use Rattle.basics.specs.Given.{is_given}
use Rattle.properties.specs.Assigned.{nearest, no_settings, nothing_assigned}
use Rattle.properties.specs.Properties.{judge_property}
use Rattle.properties.specs.declared.Settings.{Settings}
use Rattle.properties.specs.declared.Assigned.{Assigned}
use Rattle.components.specs.Components.{component_of, kind_of}
use Rattle.cells.specs.Cells.{rank}
use Rattle.cells.specs.Definitions.{Child, Definition, definition_of, names_of, name_or, VisibleType, lookup}
use Rattle.basics.specs.Limits.{definition_limit}
use Rattle.closing_rules.specs.Registers.{closing_fault}
use Rattle.scopes.specs.Places.{may_define, may_hold, is_bad_map}

-- What is known of a text at a place: the types of this body, declared last first; the definitions that are closed; the address map,
-- by its definition's number; and how many definitions were opened.
pub record Known : Type 0 where
  pub here : List VisibleType
  pub table : List Definition
  pub map : Option ℕ
  pub opened : ℕ

-- and of this body: its settings and defaults, and its instances
pub record State : Type 0 where
  pub assigned : Assigned
  pub held : List Child
  pub known : Known

-- a body that opens
abbrev pub opening : List Definition → Option ℕ → ℕ → State
opening table map n = record { assigned = nothing_assigned; held = []; known = record { here = []; table = table; map = map; opened = n } }

abbrev pub with_assigned : State → Assigned → State
with_assigned s a = record { assigned = a; held = s.held; known = s.known }

abbrev pub with_held : State → List Child → State
with_held s cs = record { assigned = s.assigned; held = cs; known = s.known }

abbrev pub with_known : State → Known → State
with_known s k = record { assigned = s.assigned; held = s.held; known = k }

-- 6 and 10 at the name, then 9 and 11: instances of the definition `n`, of this kind, behind those that the body holds
unfoldable pub judge_instances : List ℕ → Option Kind → Kind → ℕ → List Instance → List Child → Judged (List Child)
judge_instances text b k n [] held = fine held
judge_instances text b k n (i ∷ is) held =
    unless (is_among text i.name (names_of held)) 6 i.name.start
    (unless (not (may_hold b k)) 10 i.name.start
    (found (instance_fault k i) (judge_instances text b k n is (held ++ (record { instance = i; type = n } ∷ [])))))

-- 5: an instance statement, by what its type's name means
unfoldable pub judge_use : List ℕ → Option Kind → Name → List Instance → State → Option ℕ → Judged State
judge_use text b n is s None = fault 5 n.start
judge_use text b n is s (Some d) =
    onward (judge_instances text b (kind_of (definition_of s.known.table d).component) d is s.held) (λ held. fine (with_held s held))

-- 7, 8, 9: a property statement; the grammar has none at the root
unfoldable pub judge_setting : List ℕ → Option Kind → State → Assignment → Judged State
judge_setting text None s p = fault 7 p.start
judge_setting text (Some k) s p = onward (judge_property text k s.assigned p) (λ a. fine (with_assigned s a))

-- 6, of a type
abbrev pub type_twice : List ℕ → List VisibleType → Option Name → Bool
type_twice text here None = false
type_twice text here (Some n) = is_given (lookup text n here)

abbrev pub name_place : Option Name → ℕ
name_place None = 0
name_place (Some n) = n.start

-- the definitions that are closed when a body is, its own the last; and how many were opened
pub record Made : Type 0 where
  pub table : List Definition
  pub opened : ℕ

-- the number of the definition closed last
abbrev pub last_of : List Definition → ℕ
last_of table = length table - 1

-- the end of a definition's body: its component has the effective values, "the nearest wins, an own setting beats it"
unfoldable pub closed : Header → Settings → State → ℕ → Judged Made
closed h outer s p =
    let c = component_of h.kind (nearest s.assigned.own outer) in
    let table = s.known.table in
    let n = closing_fault table c s.held in
    unless (ltb 0 n) n p (fine (record { table = table ++ (record { name = name_or h.name; component = c; instances = s.held } ∷ []); opened = s.known.opened }))

-- "A type is visible after its closing brace"
abbrev pub types_with : Option Name → ℕ → List VisibleType → List VisibleType
types_with None d here = here
types_with (Some n) d here = record { name = n; row = d } ∷ here

unfoldable pub declared : State → Header → Made → State
declared s h m =
    let d = last_of m.table in
    with_known s
    (record {
      here = types_with h.name d s.known.here;
      table = m.table;
      map = if eqb (rank h.kind) 0 then Some d else s.known.map;
      opened = m.opened;
    })

-- 10 and 18 at the kind word, 6 at the name; then the body; then the instances. "A default reaches definitions opened later in its body
-- and inside those": a body gets the defaults that stand before it, and those around.
unfoldable pub judge_definition : List ℕ → Option Kind → Settings → State → Header → List Instance → (Settings → State → Judged Made) → Judged State
judge_definition text b outer s h is body =
    unless (not (may_define b h.kind) || is_bad_map s.known.map h) 10 h.place
    (unless (leb definition_limit s.known.opened) 18 h.place
    (unless (type_twice text s.known.here h.name) 6 (name_place h.name)
    (onward (body (nearest s.assigned.defaults outer) (opening s.known.table s.known.map (s.known.opened + 1))) (λ m.
    onward (judge_instances text b h.kind (last_of m.table) is s.held) (λ held. fine (with_held (declared s h m) held))))))

-- In a body, whose definition has the header `h`, the types from outside are `env` and the defaults from outside `outer`.
unfoldable mutual
  pub judge_elem : Elem → List ℕ → Option Kind → List VisibleType → Settings → State → Judged State
  judge_elem (definition h b is) text place env outer s =
      judge_definition text place outer s h is (λ defaults state. judge_body b text h (s.known.here ++ env) defaults state)
  judge_elem (instances n is) text place env outer s = judge_use text place n is s (lookup text n (s.known.here ++ env))
  judge_elem (property p) text place env outer s = judge_setting text place s p

  pub judge_body : Body → List ℕ → Header → List VisibleType → Settings → State → Judged Made
  judge_body (close p) text h env outer s = closed h outer s p
  judge_body (more e rest) text h env outer s = onward (judge_elem e text (Some h.kind) env outer s) (λ s'. judge_body rest text h env outer s')

-- what an accepted text means: its definitions, and the number of its address map
pub record Meaning : Type 0 where
  pub table : List Definition
  pub map : ℕ

-- 10 for "no addrmap", at the text's end
abbrev pub meaning_of : Known → Option ℕ → ℕ → Judged Meaning
meaning_of k None p = fault 10 p
meaning_of k (Some d) p = fine (record { table = k.table; map = d })

-- a file: its definitions at the root, and its address map
unfoldable pub judge_file : Body → List ℕ → State → Judged Meaning
judge_file (close p) text s = meaning_of s.known s.known.map p
judge_file (more e rest) text s = onward (judge_elem e text None [] no_settings s) (λ s'. judge_file rest text s')

unfoldable pub judge : List ℕ → Body → Judged Meaning
judge text b = judge_file b text (opening [] None 0)
