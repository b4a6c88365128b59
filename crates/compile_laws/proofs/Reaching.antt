-- A map that keeps 18 has a register, and as many registers and fields as are allowed.
use mathlib.Core.Path.{◌≡◌, refl}
use mathlib.Core.Bool.{Bool, true, false, ◌||◌}
use mathlib.Core.List.{List, [], ◌∷◌, ◌++◌}
use Prim.Native.Nat.{ℕ, zero, suc, ◌+◌, ◌<◌, ◌≤◌}
use native.Mathlib.Omega.{arith}
use lib.Dec.{ltb}
use lib.ListN.{length}
use borrow.Author.Tests.{ltb-false}
use Rattle.std.specs.Prelude.{if◌then◌else◌, Option}
use Rattle.chars.proofs.Laws.{either, or_left, or_right}
use Rattle.components.proofs.Laws.{pass_test, pass_on}
use Rattle.parts.specs.declared.Kind.{Kind}
use Rattle.property_values.specs.Settings.{is_field}
use Rattle.components.specs.Components.{kind_of}
use Rattle.fields.specs.declared.Offset.{Offset}
use Rattle.components.specs.declared.Component.{Component}
use Rattle.components.specs.declared.Component.TheVariants as component
use Rattle.cells.specs.Definitions.{Child, Definition, definition_of}
use Rattle.closing_rules.specs.Registers.{is_empty, closing_fault}
use Rattle.rules.proofs.Instances.{length_more}
use Rattle.definition_laws.specs.Sensible.{Sensible, ChildrenFit, children_none, children_more}
use Rattle.layout.specs.Layout.{elements, bottom, shape_at, laid, laid_from, alignment_of}
use Rattle.layout.specs.declared.Shape.{Shape}
use Rattle.layout.specs.declared.Laid.{Laid}
use Rattle.layout.proofs.Laws.{sound-elements}
use Rattle.sizes.specs.Shapes.{GroupOf, of_regfile, of_map}
use Rattle.sizes.proofs.Rows.{RowFits, row_fits, held_addressed}
use Rattle.basics.specs.Limits.{nest_limit, register_limit, field_limit}
use Rattle.basics.specs.All.{All}
use Rattle.map_rules.specs.Visits.{PathStep, Visit, index_in, is_group, address_of, element_visits, child_visits, of_group, visits_in}
use Rattle.map_rules.specs.Whole.{is_register, is_register_visit, too_many, registers_among, fields_among}
use Rattle.compile_laws.proofs.Lists.{all_first, all_rest, all_left, none_test}
use Rattle.basics.specs.Judged.{Accepted}

-- a register among some elements
pub data Has (table : List Definition) : List Visit → Type 0 where
  has_here : {v : Visit} {vs : List Visit} → is_register_visit table v ≡ true → Has table (v ∷ vs)
  has_later : {v : Visit} {vs : List Visit} → Has table vs → Has table (v ∷ vs)

has_left : {table : List Definition} {xs : List Visit} (ys : List Visit) → Has table xs → Has table (xs ++ ys)
has_left ys (has_here e) = has_here e
has_left ys (has_later h) = has_later (has_left ys h)

pub has_some : (table : List Definition) {vs : List Visit} → Has table vs → 1 ≤ length (registers_among table vs)
unfolding registers_among
has_some table (has_here {v = v} {vs = vs} e) = rw e (omega arith)
has_some table (has_later {v = v} {vs = vs} h) =
    either (λ (l : List Visit). 1 ≤ length l) (is_register_visit table v) (λ _. omega arith) (λ _. has_some table h)

abbrev pub Short : Visit → Type 0
Short v = length v.path ≤ nest_limit

has_by : (table : List Definition) (v : Visit) (vs : List Visit) (t : Bool) → is_register_visit table v ≡ t → (is_register_visit table v ≡ false → Has table vs) → Has table (v ∷ vs)
has_by table v vs true e h = has_here e
has_by table v vs false e h = has_later (h e)

-- the first element of an instance is a register, or its content has one
elements_reach : (table : List Definition) (content : Offset → List PathStep → List Visit) (path : List PathStep) (c : Child) (base : Offset) (s : Shape) (l : Laid) (k n : ℕ) → 1 ≤ n
    → ((address : Offset) (here : List PathStep) → length here ≡ suc (length path) → length here ≤ nest_limit → All Short (content address here)
    → is_register (definition_of table c.type).component ≡ false → Has table (content address here))
    → All Short (element_visits content path c base s l k n) → Has table (element_visits content path c base s l k n)
unfolding element_visits
elements_reach table content path c base s l k zero h inner a = absurd (omega arith)
elements_reach table content path c base s l k (suc n) h inner a =
    let step : PathStep = record { name = c.instance.name; index = index_in c.instance.array k } in
    let here : List PathStep = path ++ (step ∷ []) in
    let address : Offset = address_of base l k in
    let more : List Visit = element_visits content path c base s l (suc k) n in
    let b : All Short (content address here) = all_left (content address here) more (all_rest a) in
    has_by table _ (content address here ++ more) (is_register (definition_of table c.type).component) refl
    (λ e. has_left more (inner address here (length_more path step) (all_first a) b e))

-- what stands in a regfile or a map, and is no register, is a group
group_of : (c : Component) → is_field (kind_of c) ≡ false → is_register c ≡ false → is_group c ≡ true
group_of (component.Field f) e h = cc
group_of (component.Register r) e h = cc
group_of (component.Regfile a) e h = refl
group_of (component.Addrmap a m) e h = refl

group_is : (c : Component) → is_group c ≡ true → GroupOf c (alignment_of c)
group_is (component.Field f) e = cc
group_is (component.Register r) e = cc
group_is (component.Regfile a) e = of_regfile
group_is (component.Addrmap a m) e = of_map

group_full : (table : List Definition) (cs : List Child) {h : Component} {a : Option ℕ} → GroupOf h a → closing_fault table h cs ≡ 0 → is_empty cs ≡ false
unfolding closing_fault
group_full table cs of_regfile e = none_test 9 0 (is_empty cs) e
group_full table cs of_map e = none_test 9 0 (is_empty cs) e

children_reach : (table before : List Definition) (h : Component) (content : ℕ → Offset → List PathStep → List Visit) (shapes : List Shape) (path : List PathStep) (mode : ℕ) (base : Offset) (al : Option ℕ) {a : Option ℕ} {cs : List Child}
    → GroupOf h a → ((r : ℕ) → r < length before → definition_of before r ≡ definition_of table r) → ChildrenFit before h cs → is_empty cs ≡ false
    → ((d : ℕ) (address : Offset) (here : List PathStep) → d < length before → is_group (definition_of table d).component ≡ true → length here ≡ suc (length path) → length here ≤ nest_limit
    → All Short (content d address here) → Has table (content d address here))
    → All Short (child_visits content shapes path base cs (laid_from mode al shapes bottom cs)) → Has table (child_visits content shapes path base cs (laid_from mode al shapes bottom cs))
unfolding child_visits laid_from
children_reach table before h content shapes path mode base al g same children_none e inner a = cc
children_reach table before h content shapes path mode base al g same (children_more {c = c} {cs = cs} x xs) e inner a =
    let k : Kind = kind_of (definition_of before c.type).component in
    let s : Shape = shape_at shapes c.type in
    let l : Laid = laid mode al s c.instance bottom in
    let n : ℕ = elements c.instance.array in
    let addressed : is_field k ≡ false = held_addressed g k x.held in
    let addressed-there : is_field (kind_of (definition_of table c.type).component) ≡ false = rw (same c.type x.before) at addressed in
    let first : List Visit = element_visits (content c.type) path c base s l 0 n in
    let more : List Visit = child_visits content shapes path base cs (laid_from mode al shapes l.end cs) in
    has_left more
    (elements_reach table (content c.type) path c base s l 0 n (sound-elements k c.instance addressed x.sound).0
    (λ address here long short b no. inner c.type address here x.before (group_of (definition_of table c.type).component addressed-there no) long short b)
    (all_left first more a))

group_has : (table : List Definition) (b : Bool) (vs : List Visit) → b ≡ true → (All Short vs → Has table vs) → All Short (of_group b vs) → Has table (of_group b vs)
group_has table true vs e f a = f a
group_has table false vs e f a = cc

-- a walk that stays above its lowest level ends in a register
pub visits_reach : (table : List Definition) (shapes : List Shape) (mode levels row : ℕ) (base : Offset) (path : List PathStep) → Sensible table → row < length table
    → is_group (definition_of table row).component ≡ true → length path ≤ nest_limit → nest_limit + 1 ≤ length path + levels
    → All Short (visits_in levels mode table shapes row base path) → Has table (visits_in levels mode table shapes row base path)
unfolding visits_in
visits_reach table shapes mode zero row base path s low g short deep a = absurd (omega (arith, short, deep))
visits_reach table shapes mode (suc levels) row base path s low g short deep a =
    let d : Definition = definition_of table row in
    let f : RowFits 0 table row = row_fits 0 s row low in
    let h : GroupOf d.component (alignment_of d.component) = group_is d.component g in
    group_has table (is_group d.component) _ g
    (λ b. children_reach table f.before d.component (visits_in levels mode table shapes) shapes path mode base (alignment_of d.component) h
    (λ r l. f.rows r (omega (arith, l, f.count))) f.fits.children (group_full f.before d.instances h f.fits.sound)
    (λ r address here l k long near c. visits_reach table shapes mode levels r address here s (omega (arith, l, f.count, low)) k near (omega (arith, deep, long)) c) b) a

-- 18: how many registers and fields there are
register_more : (b : Bool) (registers limit : ℕ) (v : Visit) (vs : List Visit) → (if b then suc registers else registers) + length vs ≤ limit → registers + length (if b then v ∷ vs else vs) ≤ limit
register_more true registers limit v vs h = omega (arith, h)
register_more false registers limit v vs h = h

field_more : (b : Bool) (fields limit here later : ℕ) → (if b then fields + here else fields) + later ≤ limit → fields + (if b then here + later else later) ≤ limit
field_more true fields limit here later h = omega (arith, h)
field_more false fields limit here later h = h

module _ (table : List Definition) where
  pub few_registers : (registers fields : ℕ) (vs : List Visit) → registers ≤ register_limit → too_many table registers fields vs ≡ Accepted → registers + length (registers_among table vs) ≤ register_limit
  unfolding too_many registers_among
  few_registers registers fields [] h f = omega (arith, h)
  few_registers registers fields (v ∷ vs) h f =
      let r : ℕ = if is_register_visit table v then suc registers else registers in
      let k : ℕ = if is_register_visit table v then fields + length (definition_of table v.type).instances else fields in
      let b : Bool = ltb nest_limit (length v.path) || (ltb register_limit r || ltb field_limit k) in
      let p : ℕ = v.name.start in
      let d : (ltb register_limit r || ltb field_limit k) ≡ false = or_right (ltb nest_limit (length v.path)) (ltb register_limit r || ltb field_limit k) (pass_test 18 p (too_many table r k vs) b f) in
      let e : r ≤ register_limit = ltb-false register_limit r (or_left (ltb register_limit r) (ltb field_limit k) d) in
      register_more (is_register_visit table v) registers register_limit v (registers_among table vs) (few_registers r k vs e (pass_on 18 p (too_many table r k vs) b f))

  pub few_fields : (registers fields : ℕ) (vs : List Visit) → fields ≤ field_limit → too_many table registers fields vs ≡ Accepted → fields + fields_among table vs ≤ field_limit
  unfolding too_many fields_among
  few_fields registers fields [] h f = omega (arith, h)
  few_fields registers fields (v ∷ vs) h f =
      let r : ℕ = if is_register_visit table v then suc registers else registers in
      let n : ℕ = length (definition_of table v.type).instances in
      let k : ℕ = if is_register_visit table v then fields + n else fields in
      let b : Bool = ltb nest_limit (length v.path) || (ltb register_limit r || ltb field_limit k) in
      let p : ℕ = v.name.start in
      let d : (ltb register_limit r || ltb field_limit k) ≡ false = or_right (ltb nest_limit (length v.path)) (ltb register_limit r || ltb field_limit k) (pass_test 18 p (too_many table r k vs) b f) in
      let e : k ≤ field_limit = ltb-false field_limit k (or_right (ltb register_limit r) (ltb field_limit k) d) in
      field_more (is_register_visit table v) fields field_limit n (fields_among table vs) (few_fields r k vs e (pass_on 18 p (too_many table r k vs) b f))
