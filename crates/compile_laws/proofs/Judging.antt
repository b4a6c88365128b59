-- The names in a tree are those of the meaning that the judge finds, and its address map has one.
use mathlib.Core.Path.{◌≡◌, refl, sym, ◌∙◌}
use mathlib.Core.Bool.{true, false, ◌||◌, not}
use mathlib.Core.List.{List, [], ◌∷◌, ◌++◌}
use Prim.Native.Nat.{ℕ, zero, suc, ◌+◌, ◌<◌}
use native.Mathlib.Omega.{arith}
use lib.Dec.{leb, ltb}
use lib.ListN.{length, get_or}
use Rattle.chars.proofs.Laws.{or_right}
use Rattle.parts.specs.declared.Name.{Name}
use Rattle.parts.specs.declared.Kind.{Kind}
use Rattle.parts.specs.declared.Kind.TheVariants as kind
use Rattle.parts.specs.declared.Instance.{Instance}
use Rattle.parts.specs.declared.Header.{Header}
use Rattle.parts.specs.declared.Assignment.{Assignment}
use Rattle.suffixes.specs.Suffixes.{instance_fault}
use Rattle.syntax.specs.Tree.{Elem, Body}
use Rattle.identifiers.specs.Names.{is_among}
use Rattle.basics.specs.Judged.{Judged, fine}
use Rattle.properties.specs.Assigned.{nearest, no_settings}
use Rattle.properties.specs.Properties.{judge_property}
use Rattle.basics.specs.Given.{is_given}
use Rattle.properties.specs.declared.Settings.{Settings}
use Rattle.components.specs.Components.{component_of, kind_of}
use Rattle.components.specs.declared.Component.{Component}
use Rattle.cells.specs.Definitions.{Child, Definition, no_definition, definition_of, names_of, name_or, VisibleType, lookup}
use Rattle.closing_rules.specs.Registers.{closing_fault}
use Rattle.scopes.specs.Places.{may_define, may_hold, is_bad_map}
use Rattle.basics.specs.Limits.{definition_limit}
use Rattle.rules.specs.Judge.{Known, State, opening, judge_instances, judge_use, judge_setting, type_twice, name_place, Made, last_of, closed, declared, judge_definition, judge_elem, judge_body, Meaning, meaning_of, judge_file, judge}
use Rattle.rules.proofs.Closing.{kind_of_component}
use Rattle.definition_laws.specs.Sensible.{SensibleMeaning}
use Rattle.basics.proofs.Each.{Each, each_fault, each_fine, each_unless, each_found, each_of, each_onward, each_next}
use Rattle.basics.specs.All.{All, all_none, all_more}
use Rattle.compile_laws.specs.Named.{IsNamed, ChildNamed}
use Rattle.compile_laws.proofs.Readings.{InstanceNamed, MaybeNamed, ElemNamed, definition_named, instances_named, property_named, BodyNamed, close_named, more_named}
use Rattle.std.specs.Prelude.{Option, Some, None}

all_last : {A : Type 0} {P : A → Type 0} {xs : List A} (x : A) → All P xs → P x → All P (xs ++ (x ∷ []))
all_last x all_none h = all_more h all_none
all_last x (all_more y ys) h = all_more y (all_last x ys h)

all_at : {A : Type 0} {P : A → Type 0} {xs : List A} (x : A) → All P xs → (d : ℕ) → d < length xs → P (get_or xs d x)
all_at x all_none d l = absurd (omega (arith, l))
all_at x (all_more y ys) zero l = y
all_at x (all_more y ys) (suc d) l = all_at x ys d (omega (arith, l))

module _ (text : List ℕ) where
  abbrev pub ChildrenNamed : List Child → Type 0
  ChildrenNamed cs = All (ChildNamed text) cs

  -- "Exactly one addrmap, at the root and named"
  record DefinitionNamed (d : Definition) : Type 0 where
    pub instances : ChildrenNamed d.instances
    pub map : kind_of d.component ≡ kind.Addrmap → IsNamed text d.name

  abbrev TableNamed : List Definition → Type 0
  TableNamed table = All DefinitionNamed table

  -- the judge's state in a body, and after a body
  record Stands (s : State) : Type 0 where
    pub held : ChildrenNamed s.held
    pub table : TableNamed s.known.table

  abbrev MadeNamed : Made → Type 0
  MadeNamed m = TableNamed m.table

  abbrev MeaningNamed : Meaning → Type 0
  MeaningNamed m = TableNamed m.table

  instances_held : (b : Option Kind) (k : Kind) (n : ℕ) (is : List Instance) {held : List Child} → All (InstanceNamed text) is → ChildrenNamed held
      → Each ChildrenNamed (judge_instances text b k n is held)
  unfolding judge_instances
  instances_held b k n [] all_none h = each_fine h
  instances_held b k n (i ∷ is) {held} (all_more x xs) h =
      each_unless ChildrenNamed (is_among text i.name (names_of held)) 6 i.name.start (λ _.
      each_unless ChildrenNamed (not (may_hold b k)) 10 i.name.start (λ _.
      each_found ChildrenNamed (instance_fault k i) (λ _. instances_held b k n is xs (all_last (record { instance = i; type = n }) h x))))

  use_stands : (b : Option Kind) (n : Name) (is : List Instance) (s : State) (g : Option ℕ) → All (InstanceNamed text) is → Stands s → Each Stands (judge_use text b n is s g)
  unfolding judge_use
  use_stands b n is s None a st = each_fault
  use_stands b n is s (Some d) a st =
      each_onward ChildrenNamed Stands _ (instances_held b (kind_of (definition_of s.known.table d).component) d is a st.held) (λ held h.
      each_fine (record { held = h; table = st.table }))

  setting_stands : (b : Option Kind) (s : State) (p : Assignment) → Stands s → Each Stands (judge_setting text b s p)
  unfolding judge_setting
  setting_stands None s p st = each_fault
  setting_stands (Some k) s p st = each_next Stands (judge_property text k s.assigned p) _ (λ a. each_fine (record { held = st.held; table = st.table }))

  -- the header of an address map has a name
  abbrev MapHeaded : Header → Type 0
  MapHeaded h = h.kind ≡ kind.Addrmap → IsNamed text (name_or h.name)

  map_headed : (map : Option ℕ) (h : Header) → is_bad_map map h ≡ false → MaybeNamed text h.name → MapHeaded h
  unfolding is_bad_map
  map_headed map h bad m e = by h.name refl m
    where
      by : (n : Option Name) → h.name ≡ n → MaybeNamed text n → IsNamed text (name_or n)
      by (Some n) f x = x
      by None f x = absurd (let z : true ≡ false = or_right (is_given map) true (rw (e, f) at bad) in let y : ◌≡◌ {A = ℕ} 0 1 = cc in omega arith)

  close_stands : (h : Header) (outer : Settings) (s : State) (p : ℕ) → MapHeaded h → Stands s → Each MadeNamed (closed h outer s p)
  unfolding closed
  close_stands h outer s p named st =
      let settings = nearest s.assigned.own outer in
      let c : Component = component_of h.kind settings in
      let n = closing_fault s.known.table c s.held in
      let d : Definition = record { name = name_or h.name; component = c; instances = s.held } in
      let e : kind_of c ≡ h.kind = kind_of_component h.kind settings in
      each_unless MadeNamed (ltb 0 n) n p (λ _. each_fine (all_last d st.table (record { instances = st.held; map = λ q. named (sym e ∙ q) })))

  definition_stands : (b : Option Kind) (outer : Settings) (s : State) (h : Header) (is : List Instance) (body : Settings → State → Judged Made) → MaybeNamed text h.name → All (InstanceNamed text) is → Stands s
      → (MapHeaded h → Each MadeNamed (body (nearest s.assigned.defaults outer) (opening s.known.table s.known.map (s.known.opened + 1))))
      → Each Stands (judge_definition text b outer s h is body)
  unfolding judge_definition declared
  definition_stands b outer s h is body x a st f =
      each_unless Stands (not (may_define b h.kind) || is_bad_map s.known.map h) 10 h.place (λ bad.
      let named : MapHeaded h = map_headed s.known.map h (or_right (not (may_define b h.kind)) _ bad) x in
      each_unless Stands (leb definition_limit s.known.opened) 18 h.place (λ _.
      each_unless Stands (type_twice text s.known.here h.name) 6 (name_place h.name) (λ _.
      each_onward MadeNamed Stands _ (f named) (λ m g.
      each_onward ChildrenNamed Stands _ (instances_held b h.kind (last_of m.table) is a st.held) (λ held i. each_fine (record { held = i; table = g }))))))

  opening_stands : {table : List Definition} {map : Option ℕ} {n : ℕ} → TableNamed table → Stands (opening table map n)
  opening_stands t = record { held = all_none; table = t }

  mutual
    unfolding judge_elem judge_body

    elem_stands : {e : Elem} → ElemNamed text e → (place : Option Kind) (env : List VisibleType) (outer : Settings) (s : State) → Stands s → Each Stands (judge_elem e text place env outer s)
    elem_stands (definition_named {h = h} {b = b} {is = is} x y z) place env outer s st =
        definition_stands place outer s h is (λ defaults state. judge_body b text h (s.known.here ++ env) defaults state) x z st
        (λ named. body_made y h named (s.known.here ++ env) (nearest s.assigned.defaults outer) (opening s.known.table s.known.map (s.known.opened + 1)) (opening_stands st.table))
    elem_stands (instances_named {n = n} {is = is} x) place env outer s st = use_stands place n is s (lookup text n (s.known.here ++ env)) x st
    elem_stands (property_named {p = p}) place env outer s st = setting_stands place s p st

    body_made : {b : Body} → BodyNamed text b → (h : Header) → MapHeaded h → (env : List VisibleType) (outer : Settings) (s : State) → Stands s → Each MadeNamed (judge_body b text h env outer s)
    body_made (close_named {p = p}) h named env outer s st = close_stands h outer s p named st
    body_made (more_named x y) h named env outer s st = each_onward Stands MadeNamed _ (elem_stands x (Some h.kind) env outer s st) (λ s' st'. body_made y h named env outer s' st')

  map_means : (k : Known) (g : Option ℕ) (p : ℕ) → TableNamed k.table → Each MeaningNamed (meaning_of k g p)
  map_means k None p t = each_fault
  map_means k (Some d) p t = each_fine t

  file_means : {b : Body} → BodyNamed text b → (s : State) → Stands s → Each MeaningNamed (judge_file b text s)
  unfolding judge_file
  file_means (close_named {p = p}) s st = map_means s.known s.known.map p st.table
  file_means (more_named x y) s st = each_onward Stands MeaningNamed _ (elem_stands x None [] no_settings s st) (λ s' st'. file_means y s' st')

  judge_definitions : {b : Body} {m : Meaning} → BodyNamed text b → judge text b ≡ fine m → (d : ℕ) → d < length m.table → DefinitionNamed (definition_of m.table d)
  unfolding judge
  judge_definitions h e = all_at no_definition (each_of MeaningNamed (file_means h (opening [] None 0) (opening_stands all_none)) e)

  -- the instances of each definition
  pub judge_named : {b : Body} {m : Meaning} → BodyNamed text b → judge text b ≡ fine m → (d : ℕ) → d < length m.table → ChildrenNamed (definition_of m.table d).instances
  judge_named h e d l = (judge_definitions h e d l).instances

  -- the address map's name
  pub judge_titled : {b : Body} {m : Meaning} → BodyNamed text b → judge text b ≡ fine m → SensibleMeaning m → IsNamed text (definition_of m.table m.map).name
  judge_titled h e s = (judge_definitions h e _ s.low).map s.map
