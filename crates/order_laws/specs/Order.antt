-- Every check of the rules 5 to 18 in a text, each with its number, its place and whether it fails, by a walk that goes on behind a
-- fault. Behind words and sentences the rules answer the failing check of the smallest place, then of the smallest number
-- (proofs/Smallest; of the compiler, compile_laws/proofs/Firsts).
use Rattle.std.specs.Prelude.{Bool, true, false, ◌||◌, ◌&&◌, not, List, [], ◌∷◌, ◌++◌, map, ◌⊎◌, ◌≡◌, ℕ, ◌+◌, ◌<◌, ◌≤◌, leb, ltb, Option, Some, None}
use Rattle.basics.specs.All.{In}
use Rattle.std.specs.Prelude.{if◌then◌else◌}
use Rattle.vocabulary.specs.Vocabulary.{property_of}
use Rattle.vocabulary.specs.declared.Property.{Property}
use Rattle.expressions.specs.declared.Number.{Number}
use Rattle.parts.specs.declared.Name.{Name}
use Rattle.parts.specs.declared.Kind.{Kind}
use Rattle.parts.specs.declared.Array.{Array}
use Rattle.parts.specs.declared.Array.TheVariants as array
use Rattle.parts.specs.declared.SuffixKind.{SuffixKind}
use Rattle.parts.specs.declared.SuffixKind.TheVariants.{Reset, Address, Stride, Alignment}
use Rattle.parts.specs.declared.Instance.{Instance}
use Rattle.parts.specs.declared.Header.{Header}
use Rattle.parts.specs.declared.Assignment.{Assignment}
use Rattle.property_values.specs.Settings.{is_field, is_allowed, slot_of, setting_of, value_place, value_refusal, refusal_in}
use Rattle.property_values.specs.declared.Slot.{Slot}
use Rattle.suffixes.specs.Suffixes.{is_size, is_range, suffix_range, is_barred}
use Rattle.syntax.specs.Tree.{Elem, definition, instances, property, Body, close, more}
use Rattle.identifiers.specs.Names.{bytes_of, is_among}
use Rattle.basics.specs.Judged.{Judged, fault, fine, Verdict, Accepted, Refused}
use Rattle.basics.specs.Given.{is_given}
use Rattle.properties.specs.Assigned.{given_in, settings_of, assigned, nearest, no_settings}
use Rattle.properties.specs.declared.Settings.{Settings}
use Rattle.properties.specs.declared.Assigned.{Assigned}
use Rattle.components.specs.Components.{component_of, kind_of}
use Rattle.fields.specs.Fields.{has_unusable_effect}
use Rattle.components.specs.declared.Component.{Component}
use Rattle.components.specs.declared.Component.TheVariants as component
use Rattle.fields.specs.declared.Probe.TheVariants.{Wide, Outside, Span}
use Rattle.cells.specs.Definitions.{Child, Definition, definition_of, names_of, name_or, VisibleType, lookup}
use Rattle.closing_rules.specs.Registers.{fields_of, some, overlaps, is_empty}
use Rattle.scopes.specs.Places.{may_define, may_hold, is_bad_map}
use Rattle.basics.specs.Limits.{definition_limit}
use Rattle.rules.specs.Judge.{State, opening, with_assigned, with_held, type_twice, Made, last_of, declared}

pub record Check : Type 0 where
  pub number : ℕ
  pub place : ℕ
  pub fails : Bool

abbrev pub check : ℕ → ℕ → Bool → Check
check n p b = record { number = n; place = p; fails = b }

-- "refusal 9 at the operator": of a number's operators at fault the first (where one is at fault there is such a check, and none at fault
-- stands before it: `faults_covered`, expressions/proofs/Faults)
abbrev pub operator_checks : Option ℕ → List Check
operator_checks None = []
operator_checks (Some p) = check 9 p true ∷ []

abbrev pub is_nowhere : Option ℕ → Bool
is_nowhere None = true
is_nowhere (Some p) = false

-- 9 at a number that is out of its range, where no part of it is refused; then 9 at its operator
abbrev pub number_checks : Bool → Number → List Check
number_checks inside n = check 9 n.place (is_nowhere n.refusal && not inside) ∷ operator_checks n.refusal

-- the operators of a range, left and right
abbrev pub range_operators : Number → Number → List Check
range_operators left right = operator_checks left.refusal ++ operator_checks right.refusal

-- 9 and 11: the suffixes of an instance
abbrev pub array_checks : Bool → Array → List Check
array_checks field array.Missing = []
array_checks field (array.Size mark n) = number_checks (is_size field n.value) n
array_checks true (array.Range mark left right) =
    check 9 left.place ((is_nowhere left.refusal && is_nowhere right.refusal) && not (is_range left.value right.value)) ∷ range_operators left right
array_checks false (array.Range mark left right) = check 11 mark true ∷ range_operators left right

abbrev pub suffix_checks : Bool → SuffixKind → Option (ℕ × Number) → List Check
suffix_checks barred s None = []
suffix_checks barred s (Some (mark, n)) = check 11 mark barred ∷ number_checks (suffix_range s n.value) n

unfoldable pub instance_checks : Kind → Instance → List Check
instance_checks k i =
    array_checks (is_field k) i.array ++
    (suffix_checks (is_barred Reset (is_field k) i) Reset i.reset ++
    (suffix_checks (is_barred Address (is_field k) i) Address i.address ++
    (suffix_checks (is_barred Stride (is_field k) i) Stride i.stride ++
    suffix_checks (is_barred Alignment (is_field k) i) Alignment i.alignment)))

-- 6 and 10 at the name, then 9 and 11
unfoldable pub list_checks : List ℕ → Option Kind → Kind → ℕ → List Instance → List Child → List Check
list_checks text b k n [] held = []
list_checks text b k n (i ∷ is) held =
    check 6 i.name.start (is_among text i.name (names_of held)) ∷
    check 10 i.name.start (not (may_hold b k)) ∷
    (instance_checks k i ++ list_checks text b k n is (held ++ (record { instance = i; type = n } ∷ [])))

abbrev pub held_after : ℕ → List Instance → List Child → List Child
held_after n is held = held ++ map (λ i. record { instance = i; type = n }) is

-- what a part of a text has for checks, and what is known behind it
pub record Checked (A : Type 0) : Type 0 where
  pub checks : List Check
  pub result : A

abbrev pub walked : {A : Type 0} → List Check → A → Checked A
walked cs a = record { checks = cs; result = a }

-- 5: an instance statement
unfoldable pub walk_use : List ℕ → Option Kind → Name → List Instance → State → Option ℕ → Checked State
walk_use text b n is s None = walked (check 5 n.start true ∷ []) s
walk_use text b n is s (Some d) =
    walked (list_checks text b (kind_of (definition_of s.known.table d).component) d is s.held) (with_held s (held_after d is s.held))

-- 7, 8, 9: a property statement; behind a refused value the walk goes on as if it were 0
abbrev pub is_wrong : Option ℕ → Bool
is_wrong (Some n) = false
is_wrong None = true

abbrev pub assigned_by : Option ℕ → Bool → Assigned → Slot → Assigned
assigned_by (Some n) d a l = assigned d a l n
assigned_by None d a l = a

-- 9 at a value of wrong kind or range, no range being judged over a refused part; then 9 at its operator
abbrev pub value_checks : Property → Assignment → List Check
value_checks q p =
    check 9 (value_place p.start p.value) (is_nowhere (refusal_in q p.value) && is_wrong (setting_of q p.value)) ∷ operator_checks (value_refusal p.value)

unfoldable pub walk_property : Kind → State → Assignment → Option Property → Checked State
walk_property k s p None = walked (check 7 p.start true ∷ operator_checks (value_refusal p.value)) s
walk_property k s p (Some q) =
    walked
    (check 7 p.start (not (is_allowed p.defaulted q k)) ∷
    check 8 p.start (is_given (given_in (settings_of p.defaulted s.assigned) (slot_of q))) ∷
    value_checks q p)
    (with_assigned s (assigned_by (setting_of q p.value) p.defaulted s.assigned (slot_of q)))

unfoldable pub walk_setting : List ℕ → Option Kind → State → Assignment → Checked State
walk_setting text None s p = walked (check 7 p.start true ∷ operator_checks (value_refusal p.value)) s
walk_setting text (Some k) s p = walk_property k s p (property_of (bytes_of text p.start p.end))

-- 10 and 12 to 17 at a closing brace
unfoldable pub close_checks : List Definition → Component → List Child → ℕ → List Check
close_checks table (component.Field f) cs p = check 12 p (has_unusable_effect f) ∷ []
close_checks table (component.Register r) cs p =
    check 10 p (is_empty cs) ∷
    check 13 p (some Wide (fields_of table cs)) ∷
    check 14 p (ltb r.width r.access) ∷
    check 15 p (some (Outside r.width) (fields_of table cs)) ∷
    check 16 p (overlaps (fields_of table cs)) ∷
    check 17 p (some (Span r.access) (fields_of table cs)) ∷ []
close_checks table (component.Regfile a) cs p = check 10 p (is_empty cs) ∷ []
close_checks table (component.Addrmap a m) cs p = check 10 p (is_empty cs) ∷ []

unfoldable pub walk_close : Header → Settings → State → ℕ → Checked Made
walk_close h outer s p =
    let c = component_of h.kind (nearest s.assigned.own outer) in
    let table = s.known.table in
    walked (close_checks table c s.held p) (record { table = table ++ (record { name = name_or h.name; component = c; instances = s.held } ∷ []); opened = s.known.opened })

-- 10 and 18 at a kind word, 6 at a type's name
abbrev pub name_checks : List ℕ → List VisibleType → Option Name → List Check
name_checks text here None = []
name_checks text here (Some n) = check 6 n.start (type_twice text here (Some n)) ∷ []

unfoldable pub header_checks : List ℕ → Option Kind → State → Header → List Check
header_checks text b s h =
    check 10 h.place (not (may_define b h.kind) || is_bad_map s.known.map h) ∷
    check 18 h.place (leb definition_limit s.known.opened) ∷
    name_checks text s.known.here h.name

unfoldable pub walk_definition : List ℕ → Option Kind → State → Header → List Instance → Checked Made → Checked State
walk_definition text b s h is body =
    let m = body.result in
    walked (header_checks text b s h ++ (body.checks ++ list_checks text b h.kind (last_of m.table) is s.held))
    (with_held (declared s h m) (held_after (last_of m.table) is s.held))

unfoldable mutual
  pub walk_elem : Elem → List ℕ → Option Kind → List VisibleType → Settings → State → Checked State
  walk_elem (definition h b is) text place env outer s =
      walk_definition text place s h is
      (walk_body b text h (s.known.here ++ env) (nearest s.assigned.defaults outer) (opening s.known.table s.known.map (s.known.opened + 1)))
  walk_elem (instances n is) text place env outer s = walk_use text place n is s (lookup text n (s.known.here ++ env))
  walk_elem (property p) text place env outer s = walk_setting text place s p

  pub walk_body : Body → List ℕ → Header → List VisibleType → Settings → State → Checked Made
  walk_body (close p) text h env outer s = walk_close h outer s p
  walk_body (more e rest) text h env outer s =
      let w = walk_elem e text (Some h.kind) env outer s in
      let r = walk_body rest text h env outer w.result in
      walked (w.checks ++ r.checks) r.result

-- 10 for "no addrmap", at the text's end
abbrev pub map_check : Option ℕ → ℕ → Check
map_check map p = check 10 p (not (is_given map))

unfoldable pub file_checks : Body → List ℕ → State → List Check
file_checks (close p) text s = map_check s.known.map p ∷ []
file_checks (more e rest) text s = let w = walk_elem e text None [] no_settings s in w.checks ++ file_checks rest text w.result

unfoldable pub checks_of : List ℕ → Body → List Check
checks_of text b = file_checks b text (opening [] None 0)

-- the first check that fails
unfoldable pub first_failing : List Check → Verdict
first_failing [] = Accepted
first_failing (c ∷ cs) = if c.fails then Refused c.number c.place else first_failing cs

-- the fault that a rule found
abbrev pub fault_of : {A : Type 0} → Judged A → Verdict
fault_of (fault n p) = Refused n p
fault_of (fine a) = Accepted

-- "the smallest place, then the smallest number"
abbrev pub Before : Check → Check → Type 0
Before c d = (c.place < d.place) ⊎ ((c.place ≡ d.place) × (c.number < d.number))

-- each check before all that follow
pub data Ordered : List Check → Type 0 where
  ordered_none : Ordered []
  ordered_on : {c : Check} {cs : List Check} → ((d : Check) → In d cs → Before c d) → Ordered cs → Ordered (c ∷ cs)

-- "by smallest place, then smallest number": an answer that is the failing check which no failing one comes before
pub record Foremost {A : Type 0} (checks : List Check) (j : Judged A) : Type 0 where
  pub number : ℕ
  pub place : ℕ
  pub answer : j ≡ fault number place
  pub among : In (check number place true) checks
  pub smallest : (c : Check) → In c checks → c.fails ≡ true → (place < c.place) ⊎ ((place ≡ c.place) × (number ≤ c.number))
