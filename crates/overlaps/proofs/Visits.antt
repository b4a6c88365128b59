-- Laws of a map's elements: each is of a row and ends its own path; where 18, 19 and 20 are kept, paths are short, and registers lie
-- where an address can be.
use mathlib.Core.Bool.{Bool, true, false, ◌||◌, ◌&&◌, not}
use mathlib.Core.Path.{◌≡◌, refl, ap, ◌∙◌}
use mathlib.Core.List.{List, [], ◌∷◌}
use Prim.Native.Nat.{ℕ, zero, suc, ◌+◌, ◌-◌, ◌/◌, ◌%◌, ◌<◌, ◌≤◌}
use native.Mathlib.Omega.{arith}
use lib.Dec.{eqb, ltb}
use lib.ListN.{length, get_or, get_or-map}
use borrow.Author.Tests.{eqb-true, ltb-false, not-false}
use Rattle.std.specs.Prelude.{if◌then◌else◌, Option, None}
use Rattle.chars.proofs.Laws.{either, or_left, or_right}
use Rattle.parts.specs.declared.Name.{Name}
use Rattle.parts.specs.declared.Array.{Array}
use Rattle.parts.specs.declared.Array.TheVariants as array
use Rattle.parts.proofs.InstanceName.{instance_short}
use Rattle.fields.specs.Codes.{is_width}
use Rattle.basics.specs.Judged.{first_of, Accepted}
use Rattle.fields.specs.declared.Register.{Register}
use Rattle.components.specs.declared.Component.{Component}
use Rattle.components.specs.declared.Component.TheVariants as component
use Rattle.components.specs.Components.{kind_of}
use Rattle.components.proofs.Laws.{first_sound, later_sound, pass_test, pass_on}
use Rattle.basics.specs.Slices.{cell_of}
use Rattle.cells.specs.Cells.{entry_places, component_in, place_in}
use Rattle.cells.proofs.Laws.{place_low}
use Rattle.register_log.specs.Log.{place_bound, step_index_bound, step_of, step_start}
use Rattle.register_log.proofs.Laws.{step_start_lem}
use Rattle.cells.specs.Definitions.{Child, Definition, definition_of}
use Rattle.cells.specs.Relation.{IsEntry, Block, block_end, block_on}
use Rattle.rules.proofs.Instances.{length_more}
use Rattle.rules.proofs.Closing.{get_or_last}
use Rattle.definition_laws.specs.Sensible.{ValuesFit, register_fits}
use Rattle.capped.specs.Offsets.{cut}
use Rattle.capped.proofs.Laws.{cut_low}
use Rattle.layout.proofs.Laws.{sound-elements}
use Rattle.layout.specs.Layout.{elements, bottom, shape_at, shape_of, shapes_from, cut_shape}
use Rattle.layout.specs.declared.Shape.{Shape}
use Rattle.sizes.specs.declared.Extent.{Extent}
use Rattle.sizes.specs.Ready.{known, Ready}
use Rattle.sizes.specs.Shapes.{GroupOf, of_regfile, of_map, all_shapes}
use Rattle.sizes.proofs.Rows.{RowFits, width_range}
use Rattle.sizes.proofs.Laws.{ready_is_row, ready_row, ready_block}
use Rattle.sizes.proofs.Children.{ReadyChild, ReadyChildren, ready_none, ready_more, ready_children}
use Rattle.basics.specs.All.{All, all_none, all_more}
use Rattle.basics.proofs.All.{all_at, all_map, all_both}
use Rattle.basics.specs.Limits.{name_limit, nest_limit, register_limit, field_limit, address_end}
use Rattle.rows.specs.Rows.{padded, index_code}
use Rattle.map_rules.specs.Visits.{PathStep, Visit, index_in, is_group}
use Rattle.map_rules.proofs.Elements.{step_for, Stepped, Seen, visits_seen}
use Rattle.map_rules.specs.Whole.{is_register, is_register_visit, too_many, too_close, misplaced, registers_among}
use Rattle.map_walk.specs.Runs.{step_number, step_numbers}
use Rattle.map_walk.specs.Walks.{elements_of, registers_of, survey_fault}

-- an instance in the body of a row, and the cell that holds it
pub record BodyCell (text t : List ℕ) (e : Extent) (c : Child) : Type 0 where
  pub row : ℕ
  pub alignment : Option ℕ
  pub low : row < e.rows
  pub fits : ReadyChild text t e row alignment c
  pub cell : ℕ
  pub entry : IsEntry text (cell_of t cell) c

held_by_lem : (text t : List ℕ) (e : Extent) (row : ℕ) (a : Option ℕ) {i : ℕ} {cs : List Child} → row < e.rows → Block text t i cs → ReadyChildren text t e row a cs → All (BodyCell text t e) cs
held_by_lem text t e row a low block_end ready_none = all_none
held_by_lem text t e row a low (block_on {i = i} x b) (ready_more r rs) =
    all_more (record { row = row; alignment = a; low = low; fits = r; cell = i; entry = x }) (held_by_lem text t e row a low b rs)

pub held_all : (text t : List ℕ) (e : Extent) (row : ℕ) (a : Option ℕ) → Ready text t e → row < e.rows → GroupOf (definition_of (known text t e) row).component a
    → All (BodyCell text t e) (definition_of (known text t e) row).instances
held_all text t e row a ready low g =
    let k : component_in t row ≡ (definition_of (known text t e) row).component = (ready_is_row text t e row ready low).component in
    held_by_lem text t e row a low (ready_block text t e row ready low) (ready_children text t e row a ready low (rw k g))

pub record StepOf (text t : List ℕ) (e : Extent) (s : PathStep) : Type 0 where
  pub child : Child
  pub held : BodyCell text t e child
  pub element : ℕ
  pub low : element < elements child.instance.array
  pub same : s ≡ step_for child element

-- an instance in a body gives its elements their steps
held_stepped : {text t : List ℕ} {e : Extent} (c : Child) → BodyCell text t e c → Stepped e.rows (StepOf text t e) c
held_stepped {e = e} c h =
    record {
      below = omega (arith, h.fits.below, h.low);
      step = λ k l. record { child = c; held = h; element = k; low = l; same = refl };
    }

group_held : (text t : List ℕ) (e : Extent) (row : ℕ) → Ready text t e → row < e.rows → (c : Component) → (definition_of (known text t e) row).component ≡ c → is_group c ≡ true
    → All (BodyCell text t e) (definition_of (known text t e) row).instances
group_held text t e row ready low (component.Field f) k y = absurd (let z : ◌≡◌ {A = ℕ} 0 1 = cc in omega arith)
group_held text t e row ready low (component.Register r) k y = absurd (let z : ◌≡◌ {A = ℕ} 0 1 = cc in omega arith)
group_held text t e row ready low (component.Regfile a) k y = held_all text t e row a ready low (rw k of_regfile)
group_held text t e row ready low (component.Addrmap a m) k y = held_all text t e row a ready low (rw k of_map)

-- the elements of a map
pub elements_of_seen : (text t : List ℕ) (e : Extent) (row : ℕ) → Ready text t e → row < e.rows → All (Seen e.rows (StepOf text t e) 0) (elements_of text t e row)
elements_of_seen text t e row ready low =
    visits_seen e.rows (StepOf text t e) (known text t e) (all_shapes text t e) e.mode
    (λ d l g. all_map held_stepped (group_held text t e d ready l (definition_of (known text t e) d).component refl g)) (suc nest_limit) row bottom [] low all_none

-- an index and one more is not above the number of elements
index_low : (a : Array) (k : ℕ) → k < elements a → index_code (index_in a k) ≤ elements a
index_low array.Missing k h = omega arith
index_low (array.Size mark n) k h = omega (arith, h)
index_low (array.Range mark left right) k h = omega arith

-- a step whose number in the log holds all of it
pub record StepFits (s : PathStep) : Type 0 where
  pub start : s.name.start < place_bound
  pub end : s.name.end < place_bound
  pub index : index_code s.index < step_index_bound

pub step_fits : {text t : List ℕ} {e : Extent} (s : PathStep) → StepOf text t e s → StepFits s
step_fits {text} {t} {e} s o =
    let c : Child = o.child in
    let n : Name = c.instance.name in
    let x : ℕ = cell_of t o.held.cell in
    let p : n.start < entry_places = rw (← o.held.entry.starts) (place_low x) in
    let q : n.end ≤ n.start + name_limit = instance_short text (place_in x) o.held.entry.reads in
    let k = sound-elements (kind_of (definition_of (known text t e) c.type).component) c.instance o.held.fits.addressed o.held.fits.sound in
    rw o.same (record { start = omega (arith, p); end = omega (arith, p, q); index = omega (arith, index_low c.instance.array o.element o.low, k.1) })

-- a step in the cells of a path
abbrev pub no_step : PathStep
no_step = record { name = record { start = 0; end = 0 }; index = None }

abbrev pub step_at : List PathStep → ℕ → PathStep
step_at path j = get_or path j no_step

step_cell : (path : List PathStep) (j : ℕ) → cell_of (step_numbers path) j ≡ step_number (step_at path j)
unfolding step_of
step_cell path j = get_or-map step_number path j no_step

-- cells that are padded
pub padded_cell : (n : ℕ) (xs : List ℕ) (k : ℕ) → k < n → cell_of (padded n xs) k ≡ cell_of xs k
unfolding padded
padded_cell zero xs k h = absurd (omega arith)
padded_cell (suc n) [] zero h = refl
padded_cell (suc n) [] (suc k) h = padded_cell n [] k (omega (arith, h))
padded_cell (suc n) (x ∷ xs) zero h = refl
padded_cell (suc n) (x ∷ xs) (suc k) h = padded_cell n xs k (omega (arith, h))

-- the last step of an element's path has its name
module _ (text t : List ℕ) (e : Extent) (depth : ℕ) (v : Visit) (s : Seen e.rows (StepOf text t e) depth v) where
  pub seen_length : length v.path ≡ suc (length s.before)
  seen_length = ap length s.whole ∙ length_more s.before s.last

  pub seen_last : (step_at v.path (length v.path - 1)).name ≡ v.name
  seen_last =
      let z : length v.path - 1 ≡ length s.before = omega (arith, seen_length) in
      ap (λ (j : ℕ). (step_at v.path j).name) z ∙ ap (λ (p : List PathStep). (step_at p (length s.before)).name) s.whole
      ∙ ap (λ (p : PathStep). p.name) (get_or_last s.before s.last no_step) ∙ s.named

  pub seen_place : step_start (cell_of (step_numbers v.path) (length v.path - 1)) ≡ v.name.start
  seen_place =
      let j : ℕ = length v.path - 1 in
      let l : j < length v.path = omega (arith, seen_length) in
      let p : PathStep = step_at v.path j in
      let f : StepFits p = step_fits p (all_at no_step j s.steps l) in
      ap step_start (step_cell v.path j) ∙ step_start_lem p.name.start p.name.end (index_code p.index) f.start ∙ ap (λ (n : Name). n.start) seen_last

-- 18, 19 and 20 are kept
pub few_levels : (table : List Definition) (registers fields : ℕ) (vs : List Visit) → too_many table registers fields vs ≡ Accepted → All (λ (v : Visit). length v.path ≤ 8) vs
unfolding too_many
few_levels table registers fields [] f = all_none
few_levels table registers fields (v ∷ vs) f =
    let r : ℕ = if is_register_visit table v then suc registers else registers in
    let k : ℕ = if is_register_visit table v then fields + length (definition_of table v.type).instances else fields in
    let b : Bool = ltb nest_limit (length v.path) || (ltb register_limit r || ltb field_limit k) in
    let p : ℕ = v.name.start in
    let d : ltb 8 (length v.path) ≡ false = or_left (ltb nest_limit (length v.path)) (ltb register_limit r || ltb field_limit k) (pass_test 18 p (too_many table r k vs) b f) in
    all_more (ltb-false 8 (length v.path) d) (few_levels table r k vs (pass_on 18 p (too_many table r k vs) b f))

pub none_short : (vs : List Visit) → too_close vs ≡ Accepted → All (λ (v : Visit). v.short ≡ false) vs
unfolding too_close
none_short [] f = all_none
none_short (v ∷ vs) f = all_more (pass_test 19 v.name.start (too_close vs) v.short f) (none_short vs (pass_on 19 v.name.start (too_close vs) v.short f))

-- a register on a multiple of its access bytes, and its last byte in the range of addresses
pub record Sited (shapes : List Shape) (v : Visit) : Type 0 where
  pub aligned : v.address.0 % (shape_at shapes v.type).access ≡ 0
  pub within : v.address.0 + (shape_at shapes v.type).size ≤ address_end

sited_by : (shapes : List Shape) (v : Visit) (r : Bool) → (r && (not (eqb (v.address.0 % (shape_at shapes v.type).access) 0) || ltb address_end (v.address.0 + (shape_at shapes v.type).size))) ≡ false → r ≡ true → Sited shapes v
sited_by shapes v true f y =
    let s : Shape = shape_at shapes v.type in
    let a : Bool = eqb (v.address.0 % s.access) 0 in
    let b : Bool = ltb address_end (v.address.0 + s.size) in
    record {
      aligned = eqb-true (v.address.0 % s.access) 0 (not-false a (or_left (not a) b f));
      within = ltb-false address_end (v.address.0 + s.size) (or_right (not a) b f);
    }
sited_by shapes v false f y = absurd (let z : ◌≡◌ {A = ℕ} 0 1 = cc in omega arith)

pub all_sited : (table : List Definition) (shapes : List Shape) (vs : List Visit) → misplaced table shapes vs ≡ Accepted → All (λ (v : Visit). is_register_visit table v ≡ true → Sited shapes v) vs
unfolding misplaced
all_sited table shapes [] f = all_none
all_sited table shapes (v ∷ vs) f =
    let s : Shape = shape_at shapes v.type in
    let b : Bool = is_register_visit table v && (not (eqb (v.address.0 % s.access) 0) || ltb address_end (v.address.0 + s.size)) in
    let p : ℕ = v.name.start in
    all_more (sited_by shapes v (is_register_visit table v) (pass_test 20 p (misplaced table shapes vs) b f)) (all_sited table shapes vs (pass_on 20 p (misplaced table shapes vs) b f))

-- the registers among some elements
pub registers_all : {P : Visit → Type 0} (table : List Definition) {vs : List Visit} → All P vs → All (λ (v : Visit). P v × (is_register_visit table v ≡ true)) (registers_among table vs)
unfolding registers_among
registers_all table all_none = all_none
registers_all {P = P} table (all_more {x = v} {xs = vs} p a) =
    either (λ (l : List Visit). All (λ (v : Visit). P v × (is_register_visit table v ≡ true)) l) (is_register_visit table v) (λ y. all_more (p, y) (registers_all table a)) (λ _. registers_all table a)

-- a row of a register
pub record RegisterKnown (text t : List ℕ) (e : Extent) (row : ℕ) : Type 0 where
  pub register : Register
  pub known_as : (definition_of (known text t e) row).component ≡ component.Register register
  pub width : is_width register.width ≡ true
  pub access : is_width register.access ≡ true
  pub size : (shape_at (all_shapes text t e) row).size ≡ register.width / 8
  pub parts : (shape_at (all_shapes text t e) row).access ≡ register.access / 8

register_widths : {r : Register} → ValuesFit (component.Register r) → (is_width r.width ≡ true) × (is_width r.access ≡ true)
register_widths (register_fits p q) = (p, q)

known_by : (text t : List ℕ) (e : Extent) (row : ℕ) → Ready text t e → row < e.rows → (c : Component) → (definition_of (known text t e) row).component ≡ c → is_register c ≡ true → RegisterKnown text t e row
known_by text t e row ready low (component.Field f) k y = absurd (let z : ◌≡◌ {A = ℕ} 0 1 = cc in omega arith)
known_by text t e row ready low (component.Regfile a) k y = absurd (let z : ◌≡◌ {A = ℕ} 0 1 = cc in omega arith)
known_by text t e row ready low (component.Addrmap a m) k y = absurd (let z : ◌≡◌ {A = ℕ} 0 1 = cc in omega arith)
known_by text t e row ready low (component.Register r) k y =
    let f : RowFits e.mode (known text t e) row = ready_row text t e row ready low in
    let w = register_widths {r = r} (rw k at f.fits.values) in
    let before : List Shape = shapes_from e.mode [] f.before in
    let cs : List Child = (definition_of (known text t e) row).instances in
    let z : shape_at (all_shapes text t e) row ≡ record { size = r.width / 8; access = r.access / 8 } =
    f.shape ∙ ap (λ (d : Component). shape_of e.mode before d cs) k in
    record {
      register = r;
      known_as = k;
      width = w.0;
      access = w.1;
      size = ap (λ (s : Shape). s.size) z;
      parts = ap (λ (s : Shape). s.access) z;
    }

pub known_register : (text t : List ℕ) (e : Extent) (row : ℕ) → Ready text t e → row < e.rows → is_register (definition_of (known text t e) row).component ≡ true → RegisterKnown text t e row
known_register text t e row ready low y = known_by text t e row ready low (definition_of (known text t e) row).component refl y

-- its size and its access width are small: cut, they stay
module _ (text t : List ℕ) (e : Extent) (row : ℕ) (r : RegisterKnown text t e row) where
  pub register_size : (1 ≤ (shape_at (all_shapes text t e) row).size) × ((shape_at (all_shapes text t e) row).size ≤ 8)
  register_size =
      let w = width_range r.register.width r.width in
      let z = r.size in
      (omega (arith, w, z), omega (arith, w, z))

  pub register_parts : (1 ≤ (shape_at (all_shapes text t e) row).access) × ((shape_at (all_shapes text t e) row).access ≤ 8)
  register_parts =
      let w = width_range r.register.access r.access in
      let z = r.parts in
      (omega (arith, w, z), omega (arith, w, z))

  pub register_whole : cut_shape (shape_at (all_shapes text t e) row) ≡ shape_at (all_shapes text t e) row
  register_whole =
      let s : Shape = shape_at (all_shapes text t e) row in
      let a : cut s.size ≡ s.size = cut_low s.size (omega (arith, register_size)) in
      let b : cut s.access ≡ s.access = cut_low s.access (omega (arith, register_parts)) in
      ap (λ (n : ℕ). record { size = n; access = cut s.access }) a ∙ ap (λ (n : ℕ). record { size = s.size; access = n }) b

-- a register of a map that keeps 18, 19 and 20
pub record RegisterSeen (text t : List ℕ) (e : Extent) (v : Visit) : Type 0 where
  pub seen : Seen e.rows (StepOf text t e) 0 v
  pub register : is_register_visit (known text t e) v ≡ true
  pub type : RegisterKnown text t e v.type
  pub shallow : length v.path ≤ 8
  pub sited : Sited (all_shapes text t e) v
  pub exact : cut v.address.0 ≡ v.address.0

pub registers_seen : (text t : List ℕ) (e : Extent) (row : ℕ) → Ready text t e → row < e.rows → survey_fault (known text t e) (all_shapes text t e) (elements_of text t e row) ≡ Accepted
    → All (RegisterSeen text t e) (registers_of text t e row)
registers_seen text t e row ready low f =
    let table : List Definition = known text t e in
    let shapes : List Shape = all_shapes text t e in
    let vs : List Visit = elements_of text t e row in
    let a : too_many table 0 0 vs ≡ Accepted = first_sound (too_many table 0 0 vs) (first_of (too_close vs) (misplaced table shapes vs)) f in
    let b : misplaced table shapes vs ≡ Accepted = later_sound (too_close vs) (misplaced table shapes vs) (later_sound (too_many table 0 0 vs) (first_of (too_close vs) (misplaced table shapes vs)) f) in
    all_map
    (λ v p.
    let s : Sited shapes v = p.0.1.1 p.1 in
    record {
      seen = p.0.0;
      register = p.1;
      type = known_register text t e v.type ready p.0.0.low p.1;
      shallow = p.0.1.0;
      sited = s;
      exact = cut_low v.address.0 (omega (arith, s.within));
    })
    (registers_all table (all_both (elements_of_seen text t e row ready low) (all_both (few_levels table 0 0 vs a) (all_sited table shapes vs b))))
