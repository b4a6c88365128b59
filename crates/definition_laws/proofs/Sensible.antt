-- The definitions of every text that the judge accepts are sensible.
use mathlib.Core.Path.{◌≡◌, refl, ◌∙◌}
use mathlib.Core.Bool.{Bool, true, false, ◌||◌, not}
use mathlib.Core.List.{List, [], ◌∷◌, ◌++◌}
use Prim.Native.Nat.{ℕ, ◌+◌, ◌-◌, ◌<◌, ◌≤◌}
use native.Mathlib.Omega.{arith}
use lib.Dec.{eqb, leb, ltb}
use lib.ListN.{length}
use borrow.Author.Tests.{ltb-false, not-false}
use Rattle.std.specs.Prelude.{if◌then◌else◌, Option, Some, None}
use Rattle.vocabulary.specs.Vocabulary.{property_of}
use Rattle.parts.specs.declared.Name.{Name}
use Rattle.parts.specs.declared.Kind.{Kind}
use Rattle.parts.specs.declared.Kind.TheVariants as kind
use Rattle.parts.specs.declared.Instance.{Instance}
use Rattle.parts.specs.declared.Header.{Header}
use Rattle.parts.specs.declared.Assignment.{Assignment}
use Rattle.property_values.specs.Settings.{is_allowed, slot_of, setting_of, refusal_in}
use Rattle.property_values.specs.declared.Slot.{Slot}
use Rattle.suffixes.specs.Suffixes.{instance_fault}
use Rattle.syntax.specs.Tree.{Elem, definition, instances, property, Body, close, more}
use Rattle.identifiers.specs.Names.{bytes_of, same_name, is_among}
use Rattle.basics.specs.Judged.{Judged, fine, Accepted}
use Rattle.basics.specs.Given.{is_given}
use Rattle.properties.specs.Assigned.{slot_number, given_in, settings_of, assigned, nearest, no_settings}
use Rattle.properties.specs.Properties.{judge_value, judge_settled, judge_known, judge_property}
use Rattle.properties.specs.declared.Settings.{Settings}
use Rattle.properties.specs.declared.Assigned.{Assigned}
use Rattle.components.specs.Components.{component_of, kind_of}
use Rattle.components.specs.declared.Component.{Component}
use Rattle.cells.specs.Cells.{rank}
use Rattle.cells.specs.Definitions.{Child, Definition, no_definition, definition_of, names_of, name_or, VisibleType, lookup}
use Rattle.closing_rules.specs.Registers.{closing_fault}
use Rattle.scopes.specs.Places.{may_define, may_hold, is_bad_map}
use Rattle.basics.specs.Limits.{definition_limit}
use Rattle.rules.specs.Judge.{Known as Facts, State, opening, judge_instances, judge_use, judge_setting, type_twice, name_place, Made, last_of, closed, types_with, declared, judge_definition, judge_elem, judge_body, Meaning, meaning_of, judge_file, judge}
use Rattle.rules.proofs.Instances.{length_more}
use Rattle.rules.proofs.Closing.{get_or_before, get_or_last, kind_of_component}
use Rattle.definition_laws.specs.Sensible.{ChildrenFit, children_none, children_more, Sensible, sensible_none, sensible_more, SensibleMeaning}
use Rattle.basics.proofs.Each.{Each, each_fault, each_fine, each_unless, each_found, each_of, each_onward}
use Rattle.definition_laws.proofs.Ranges.{SettingsFit, no_settings_fit, nearest-fits, in_slot, assign-fits, setting_range, component_fits}
use Rattle.vocabulary.specs.declared.Property.{Property}

-- definitions behind those that there are
record Extends (table later : List Definition) : Type 0 where
  pub longer : length table ≤ length later
  pub same : (r : ℕ) → r < length table → definition_of later r ≡ definition_of table r

extends_same : {table : List Definition} → Extends table table
extends_same = record { longer = omega arith; same = λ r l. refl }

extends_then : {a b c : List Definition} → Extends a b → Extends b c → Extends a c
extends_then p q = record { longer = omega (arith, p.longer, q.longer); same = λ r l. q.same r (omega (arith, l, p.longer)) ∙ p.same r l }

extends_more : (table : List Definition) (d : Definition) → Extends table (table ++ (d ∷ []))
extends_more table d = record { longer = omega (arith, length_more table d); same = λ r l. get_or_before table d no_definition r l }

-- the instances of a body at a place
record HeldIn (table : List Definition) (b : Option Kind) (c : Child) : Type 0 where
  pub before : c.type < length table
  pub sound : instance_fault (kind_of (definition_of table c.type).component) c.instance ≡ Accepted
  pub held : may_hold b (kind_of (definition_of table c.type).component) ≡ true

data AllHeld (table : List Definition) (b : Option Kind) : List Child → Type 0 where
  held_none : AllHeld table b []
  held_more : {c : Child} {cs : List Child} → HeldIn table b c → AllHeld table b cs → AllHeld table b (c ∷ cs)

held_last : {table : List Definition} {b : Option Kind} {cs : List Child} (c : Child) → AllHeld table b cs → HeldIn table b c → AllHeld table b (cs ++ (c ∷ []))
held_last c held_none h = held_more h held_none
held_last c (held_more x xs) h = held_more x (held_last c xs h)

held_later : {table later : List Definition} {b : Option Kind} {cs : List Child} → Extends table later → AllHeld table b cs → AllHeld later b cs
held_later e held_none = held_none
held_later {table} {later} e (held_more {c = c} x xs) =
    let z : definition_of later c.type ≡ definition_of table c.type = e.same c.type x.before in
    held_more {c = c} (record { before = omega (arith, x.before, e.longer); sound = rw z x.sound; held = rw z x.held }) (held_later e xs)

held_children : {table : List Definition} (k : Kind) (holder : Component) → kind_of holder ≡ k → {cs : List Child} → AllHeld table (Some k) cs → ChildrenFit table holder cs
held_children k holder e held_none = children_none
held_children k holder e (held_more x xs) = children_more (record { before = x.before; sound = x.sound; held = rw e x.held }) (held_children k holder e xs)

-- the types in scope
data Rows (n : ℕ) : List VisibleType → Type 0 where
  rows_none : Rows n []
  rows_more : {e : VisibleType} {es : List VisibleType} → e.row < n → Rows n es → Rows n (e ∷ es)

rows_later : {n m : ℕ} {es : List VisibleType} → n ≤ m → Rows n es → Rows m es
rows_later l rows_none = rows_none
rows_later l (rows_more {e = e} {es = es} x xs) = rows_more {e = e} {es = es} (omega (arith, l, x)) (rows_later l xs)

rows_join : {n : ℕ} {here env : List VisibleType} → Rows n here → Rows n env → Rows n (here ++ env)
rows_join rows_none h = h
rows_join (rows_more x xs) h = rows_more x (rows_join xs h)

rows_lookup : (text : List ℕ) (name : Name) {n d : ℕ} {es : List VisibleType} → Rows n es → lookup text name es ≡ Some d → d < n
unfolding lookup
rows_lookup text name rows_none q = absurd cc
rows_lookup text name {n} {d} (rows_more {e = e} {es = es} x xs) q = by (same_name text name e.name) (λ z. rows_lookup text name xs z) q
  where
    by : (b : Bool) → (lookup text name es ≡ Some d → d < n) → (if b then Some e.row else lookup text name es) ≡ Some d → d < n
    by true f q = let z : e.row ≡ d = cc in rw z at x
    by false f q = f q

rows_with : (name : Option Name) (d : ℕ) {n : ℕ} {here : List VisibleType} → d < n → Rows n here → Rows n (types_with name d here)
rows_with None d l h = h
rows_with (Some m) d l h = rows_more l h

-- the address map
data IsMap (table : List Definition) : Option ℕ → Type 0 where
  no_map : IsMap table None
  map_at : {d : ℕ} → d < length table → kind_of (definition_of table d).component ≡ kind.Addrmap → IsMap table (Some d)

map_later : {table later : List Definition} {g : Option ℕ} → Extends table later → IsMap table g → IsMap later g
map_later e no_map = no_map
map_later e (map_at {d = d} l k) = map_at {d = d} (omega (arith, l, e.longer)) (rw (e.same d l) k)

kind_zero : (k : Kind) → eqb (rank k) 0 ≡ true → k ≡ kind.Addrmap
kind_zero kind.Addrmap e = refl
kind_zero kind.Regfile e = absurd cc
kind_zero kind.Reg e = absurd cc
kind_zero kind.Field e = absurd cc

map_with : (table : List Definition) (k : Kind) (d : ℕ) {g : Option ℕ} → d < length table → kind_of (definition_of table d).component ≡ k → IsMap table g
    → IsMap table (if eqb (rank k) 0 then Some d else g)
map_with table k d {g} l e h = by (eqb (rank k) 0) refl
  where
    by : (b : Bool) → eqb (rank k) 0 ≡ b → IsMap table (if b then Some d else g)
    by true z = map_at l (e ∙ kind_zero k z)
    by false z = h

-- the judge's state in a body
record Settled (a : Assigned) : Type 0 where
  pub own : SettingsFit a.own
  pub defaults : SettingsFit a.defaults

record Stands (b : Option Kind) (s : State) : Type 0 where
  pub assigned : Settled s.assigned
  pub table : Sensible s.known.table
  pub held : AllHeld s.known.table b s.held
  pub here : Rows (length s.known.table) s.known.here
  pub map : IsMap s.known.table s.known.map

-- and after an element
record AfterElement (b : Option Kind) (table : List Definition) (s : State) : Type 0 where
  pub stands : Stands b s
  pub later : Extends table s.known.table

-- and after a body
record AfterBody (k : Kind) (table : List Definition) (m : Made) : Type 0 where
  pub sensible : Sensible m.table
  pub later : Extends table m.table
  pub some : 0 < length m.table
  pub kind_is : kind_of (definition_of m.table (last_of m.table)).component ≡ k

-- a list of instances
instances_held : (text : List ℕ) (table : List Definition) (b : Option Kind) (k : Kind) (n : ℕ) (is : List Instance) {held : List Child} → n < length table
    → kind_of (definition_of table n).component ≡ k → AllHeld table b held → Each (AllHeld table b) (judge_instances text b k n is held)
unfolding judge_instances
instances_held text table b k n [] l e h = each_fine h
instances_held text table b k n (i ∷ is) {held} l e h =
    let P : List Child → Type 0 = AllHeld table b in
    each_unless P (is_among text i.name (names_of held)) 6 i.name.start (λ x.
    each_unless P (not (may_hold b k)) 10 i.name.start (λ y.
    each_found P (instance_fault k i) (λ z.
    instances_held text table b k n is l e
    (held_last (record { instance = i; type = n }) h (record { before = l; sound = rw e z; held = rw e (not-false (may_hold b k) y) })))))

-- statements
use_moves : (text : List ℕ) (b : Option Kind) (n : Name) (is : List Instance) (s : State) (g : Option ℕ) → ((d : ℕ) → g ≡ Some d → d < length s.known.table) → Stands b s
    → Each (AfterElement b s.known.table) (judge_use text b n is s g)
unfolding judge_use
use_moves text b n is s None l st = each_fault
use_moves text b n is s (Some d) l st =
    each_onward (AllHeld s.known.table b) (AfterElement b s.known.table) _
    (instances_held text s.known.table b (kind_of (definition_of s.known.table d).component) d is (l d refl) refl st.held) (λ held h.
    each_fine
    (record {
      stands = record { assigned = st.assigned; table = st.table; held = h; here = st.here; map = st.map };
      later = extends_same;
    }))

assigned_settles : (b : Bool) (a : Assigned) (l : Slot) (n : ℕ) → in_slot (slot_number l) n ≡ true → Settled a → Settled (assigned b a l n)
unfolding assigned
assigned_settles true a l n r h = record { own = h.own; defaults = assign-fits a.defaults l n r h.defaults }
assigned_settles false a l n r h = record { own = assign-fits a.own l n r h.own; defaults = h.defaults }

value_settles : (a : Assigned) (p : Assignment) (l : Slot) (x : Option ℕ) → ((n : ℕ) → x ≡ Some n → in_slot (slot_number l) n ≡ true) → Settled a → Each Settled (judge_value a p l x)
unfolding judge_value
value_settles a p l None r h = each_fault
value_settles a p l (Some n) r h = each_fine (assigned_settles p.defaulted a l n (r n refl) h)

settled_settles : (a : Assigned) (p : Assignment) (l : Slot) (r : Option ℕ) (x : Option ℕ) → ((n : ℕ) → x ≡ Some n → in_slot (slot_number l) n ≡ true) → Settled a
    → Each Settled (judge_settled a p l r x)
settled_settles a p l None x f h = value_settles a p l x f h
settled_settles a p l (Some place) x f h = each_fault

known_settles : (k : Kind) (a : Assigned) (p : Assignment) (x : Option Property) → Settled a → Each Settled (judge_known k a p x)
unfolding judge_known
known_settles k a p None h = each_fault
known_settles k a p (Some q) h =
    each_unless Settled (not (is_allowed p.defaulted q k)) 7 p.start (λ x.
    each_unless Settled (is_given (given_in (settings_of p.defaulted a) (slot_of q))) 8 p.start (λ y.
    settled_settles a p (slot_of q) (refusal_in q p.value) (setting_of q p.value) (λ n z. setting_range q p.value z) h))

setting_moves : (text : List ℕ) (b : Option Kind) (s : State) (p : Assignment) → Stands b s → Each (AfterElement b s.known.table) (judge_setting text b s p)
unfolding judge_setting judge_property
setting_moves text None s p st = each_fault
setting_moves text (Some k) s p st =
    each_onward Settled (AfterElement (Some k) s.known.table) _ (known_settles k s.assigned p (property_of (bytes_of text p.start p.end)) st.assigned) (λ a h.
    each_fine
    (record {
      stands = record { assigned = h; table = st.table; held = st.held; here = st.here; map = st.map };
      later = extends_same;
    }))

-- a closing brace
close_files : (h : Header) (outer : Settings) (s : State) (p : ℕ) → SettingsFit outer → Stands (Some h.kind) s → Each (AfterBody h.kind s.known.table) (closed h outer s p)
unfolding closed
close_files h outer s p o st =
    let k : Kind = h.kind in
    let settings = nearest s.assigned.own outer in
    let c : Component = component_of k settings in
    let table : List Definition = s.known.table in
    let n = closing_fault table c s.held in
    let d : Definition = record { name = name_or h.name; component = c; instances = s.held } in
    let e : kind_of c ≡ k = kind_of_component k settings in
    let z : length (table ++ (d ∷ [])) - 1 ≡ length table = omega (arith, length_more table d) in
    each_unless (AfterBody k table) (ltb 0 n) n p (λ x.
    each_fine
    (record {
      sensible =
          sensible_more st.table
          (record {
            values = component_fits k settings (nearest-fits st.assigned.own o);
            children = held_children k c e st.held;
            sound = let y : n ≤ 0 = ltb-false 0 n x in omega (arith, y);
          });
      later = extends_more table d;
      some = omega (arith, length_more table d);
      kind_is = rw (z, get_or_last table d no_definition) e;
    }))

-- a definition
definition_moves : (text : List ℕ) (b : Option Kind) (outer : Settings) (s : State) (h : Header) (is : List Instance) (body : Settings → State → Judged Made) → Stands b s
    → Each (AfterBody h.kind s.known.table) (body (nearest s.assigned.defaults outer) (opening s.known.table s.known.map (s.known.opened + 1)))
    → Each (AfterElement b s.known.table) (judge_definition text b outer s h is body)
unfolding judge_definition declared
definition_moves text b outer s h is body st f =
    let table : List Definition = s.known.table in
    let P : State → Type 0 = AfterElement b table in
    each_unless P (not (may_define b h.kind) || is_bad_map s.known.map h) 10 h.place (λ x.
    each_unless P (leb definition_limit s.known.opened) 18 h.place (λ y.
    each_unless P (type_twice text s.known.here h.name) 6 (name_place h.name) (λ z.
    each_onward (AfterBody h.kind table) P _ f (λ m g.
    let low : last_of m.table < length m.table = omega (arith, g.some) in
    each_onward (AllHeld m.table b) P _
    (instances_held text m.table b h.kind (last_of m.table) is low g.kind_is (held_later g.later st.held)) (λ held i.
    each_fine
    (record {
      stands =
          record {
            assigned = st.assigned;
            table = g.sensible;
            held = i;
            here = rows_with h.name (last_of m.table) low (rows_later g.later.longer st.here);
            map = map_with m.table h.kind (last_of m.table) low g.kind_is (map_later g.later st.map);
          };
      later = g.later;
    }))))))

opening_stands : {table : List Definition} {map : Option ℕ} {n : ℕ} {b : Option Kind} → Sensible table → IsMap table map → Stands b (opening table map n)
opening_stands t m =
    record { assigned = record { own = no_settings_fit; defaults = no_settings_fit }; table = t; held = held_none; here = rows_none; map = m }

filed_later : {k : Kind} {table later : List Definition} {j : Judged Made} → Extends table later → Each (AfterBody k later) j → Each (AfterBody k table) j
filed_later e each_fault = each_fault
filed_later e (each_fine f) = each_fine (record { sensible = f.sensible; later = extends_then e f.later; some = f.some; kind_is = f.kind_is })

mutual
  unfolding judge_elem judge_body

  elem_moves : (e : Elem) (text : List ℕ) (place : Option Kind) (env : List VisibleType) (outer : Settings) (s : State) → Rows (length s.known.table) env → SettingsFit outer → Stands place s
      → Each (AfterElement place s.known.table) (judge_elem e text place env outer s)
  elem_moves (definition h b is) text place env outer s r o st =
      definition_moves text place outer s h is (λ defaults state. judge_body b text h (s.known.here ++ env) defaults state) st
      (body_files b text h (s.known.here ++ env) (nearest s.assigned.defaults outer) (opening s.known.table s.known.map (s.known.opened + 1))
      (rows_join st.here r) (nearest-fits st.assigned.defaults o) (opening_stands st.table st.map))
  elem_moves (instances n is) text place env outer s r o st =
      use_moves text place n is s (lookup text n (s.known.here ++ env)) (λ d z. rows_lookup text n (rows_join st.here r) z) st
  elem_moves (property p) text place env outer s r o st = setting_moves text place s p st

  body_files : (b : Body) (text : List ℕ) (h : Header) (env : List VisibleType) (outer : Settings) (s : State) → Rows (length s.known.table) env → SettingsFit outer → Stands (Some h.kind) s
      → Each (AfterBody h.kind s.known.table) (judge_body b text h env outer s)
  body_files (close p) text h env outer s r o st = close_files h outer s p o st
  body_files (more e rest) text h env outer s r o st =
      each_onward (AfterElement (Some h.kind) s.known.table) (AfterBody h.kind s.known.table) _ (elem_moves e text (Some h.kind) env outer s r o st) (λ s' m.
      filed_later m.later (body_files rest text h env outer s' (rows_later m.later.longer r) o m.stands))

-- a file
map_sensible : (k : Facts) (g : Option ℕ) (p : ℕ) → Sensible k.table → IsMap k.table g → Each SensibleMeaning (meaning_of k g p)
map_sensible k None p t no_map = each_fault
map_sensible k (Some d) p t (map_at l e) = each_fine (record { table = t; low = l; map = e })

file_sensible : (b : Body) (text : List ℕ) (s : State) → Stands None s → Each SensibleMeaning (judge_file b text s)
unfolding judge_file
file_sensible (close p) text s st = map_sensible s.known s.known.map p st.table st.map
file_sensible (more e rest) text s st =
    each_onward (AfterElement None s.known.table) SensibleMeaning _ (elem_moves e text None [] no_settings s rows_none no_settings_fit st) (λ s' m. file_sensible rest text s' m.stands)

pub judge_sensible : (text : List ℕ) (b : Body) {m : Meaning} → judge text b ≡ fine m → SensibleMeaning m
unfolding judge
judge_sensible text b e = each_of SensibleMeaning (file_sensible b text (opening [] None 0) (opening_stands sensible_none no_map)) e
