-- The registers of a map that keeps the rules: their rows are sound, and their fields keep 17.
use mathlib.Core.Path.{◌≡◌, refl, sym, ap, ◌∙◌}
use mathlib.Core.Bool.{true, false}
use mathlib.Core.List.{List, [], ◌∷◌}
use Prim.Native.Nat.{ℕ, ◌/◌, ◌%◌, ◌<◌, ◌≤◌}
use native.Mathlib.Omega.{arith}
use lib.Dec.{ltb}
use lib.ListN.{length}
use borrow.Author.Tests.{ltb-false}
use Rattle.fields.specs.Codes.{is_width}
use Rattle.fields.specs.declared.FieldAt.{FieldAt}
use Rattle.fields.specs.declared.Register.{Register}
use Rattle.components.specs.declared.Component.{Component}
use Rattle.components.specs.declared.Component.TheVariants as component
use Rattle.fields.specs.Fields.{breaks}
use Rattle.fields.specs.declared.Probe.TheVariants.{Wide, Outside, Span}
use Rattle.cells.specs.Definitions.{Child, Definition, definition_of}
use Rattle.closing_rules.specs.Registers.{first_bit, fields_of, some, overlaps, register_fault, is_empty, closing_fault}
use Rattle.definition_laws.specs.Sensible.{Sensible, ValuesFit, register_fits, ChildrenFit}
use Rattle.layout.specs.Layout.{shape_at, shape_of, shapes_from}
use Rattle.layout.specs.declared.Shape.{Shape}
use Rattle.sizes.proofs.Rows.{RowFits, row_fits}
use Rattle.basics.specs.All.{All, all_none, all_more}
use Rattle.basics.specs.Limits.{nest_limit}
use Rattle.row_laws.specs.Sound.{SoundField, SoundEntry}
use Rattle.map_rules.specs.Visits.{Visit}
use Rattle.map_rules.specs.Whole.{is_register}
use Rattle.overlaps.proofs.Visits.{Sited}
use Rattle.row_writer.specs.Entries.{steps_of, row_fields, widths_of, entry_of, entries_of}
use Rattle.compile.proofs.Counts.{register_counted}
use Rattle.compile_laws.specs.Parts.{WithinParts}
use Rattle.compile_laws.proofs.Lists.{none_test, none_on}
use Rattle.compile_laws.proofs.Steps.{Names, StepFits, path_sound, path_length}
use Rattle.map_rules.proofs.Elements.{Seen}
use Rattle.compile_laws.proofs.Fields.{Unbroken, rows_same, rows_keep, fields_sound}

-- a register breaks no rule at its closing brace
module _ (table : List Definition) (r : Register) (cs : List Child) (e : closing_fault table (component.Register r) cs ≡ 0) where
  register_full : is_empty cs ≡ false
  unfolding closing_fault
  register_full = none_test 9 _ (is_empty cs) e

  register_kept : register_fault r (fields_of table cs) ≡ 0
  unfolding closing_fault
  register_kept = none_on 9 _ (is_empty cs) e

fault_narrow : (r : Register) (fs : List FieldAt) → register_fault r fs ≡ 0 → some Wide fs ≡ false
unfolding register_fault
fault_narrow r fs e = none_test 12 _ (some Wide fs) e

fault_order : (r : Register) (fs : List FieldAt) → register_fault r fs ≡ 0 → ltb r.width r.access ≡ false
unfolding register_fault
fault_order r fs e = none_test 13 _ (ltb r.width r.access) (none_on 12 _ (some Wide fs) e)

fault_inside : (r : Register) (fs : List FieldAt) → register_fault r fs ≡ 0 → some (Outside r.width) fs ≡ false
unfolding register_fault
fault_inside r fs e = none_test 14 _ (some (Outside r.width) fs) (none_on 13 _ (ltb r.width r.access) (none_on 12 _ (some Wide fs) e))

fault_within : (r : Register) (fs : List FieldAt) → register_fault r fs ≡ 0 → some (Span r.access) fs ≡ false
unfolding register_fault
fault_within r fs e =
    none_test 16 0 (some (Span r.access) fs)
    (none_on 15 _ (overlaps fs) (none_on 14 _ (some (Outside r.width) fs) (none_on 13 _ (ltb r.width r.access) (none_on 12 _ (some Wide fs) e))))

some_instance : (cs : List Child) → is_empty cs ≡ false → 1 ≤ length cs
some_instance [] e = cc
some_instance (c ∷ cs) e = omega arith

-- the definition of a register
pub record RegisterHolds (text : List ℕ) (table : List Definition) (mode row : ℕ) : Type 0 where
  pub register : Register
  pub known_as : (definition_of table row).component ≡ component.Register register
  pub width : is_width register.width ≡ true
  pub access : is_width register.access ≡ true
  pub order : register.access ≤ register.width
  pub size : (shape_at (shapes_from mode [] table) row).size ≡ register.width / 8
  pub parts : (shape_at (shapes_from mode [] table) row).access ≡ register.access / 8
  pub held : 1 ≤ length (row_fields text table first_bit (definition_of table row).instances)
  pub fields : All (SoundField register.width) (row_fields text table first_bit (definition_of table row).instances)
  pub within : All (Unbroken (Span register.access)) (row_fields text table first_bit (definition_of table row).instances)

register_widths : {r : Register} → ValuesFit (component.Register r) → (is_width r.width ≡ true) × (is_width r.access ≡ true)
register_widths (register_fits p q) = (p, q)

register_by : (text : List ℕ) (table : List Definition) (mode row : ℕ) → Sensible table → Names text table → row < length table → (c : Component) → (definition_of table row).component ≡ c
    → is_register c ≡ true → RegisterHolds text table mode row
register_by text table mode row s names low (component.Field f) k y = cc
register_by text table mode row s names low (component.Regfile a) k y = cc
register_by text table mode row s names low (component.Addrmap a m) k y = cc
register_by text table mode row s names low (component.Register r) k y =
    let f : RowFits mode table row = row_fits mode s row low in
    let cs : List Child = (definition_of table row).instances in
    let w = register_widths {r = r} (rw k at f.fits.values) in
    let before : List Shape = shapes_from mode [] f.before in
    let z : shape_at (shapes_from mode [] table) row ≡ record { size = r.width / 8; access = r.access / 8 } = f.shape ∙ ap (λ (d : Component). shape_of mode before d cs) k in
    let e : closing_fault f.before (component.Register r) cs ≡ 0 = rw k at f.fits.sound in
    let g : register_fault r (fields_of f.before cs) ≡ 0 = register_kept f.before r cs e in
    let fs : List FieldAt = fields_of f.before cs in
    let x : ChildrenFit f.before (component.Register r) cs = rw k at f.fits.children in
    let same : row_fields text f.before first_bit cs ≡ row_fields text table first_bit cs =
    rows_same text f.before table (component.Register r) first_bit (λ n l. f.rows n (omega (arith, l, f.count))) x in
    let a : All (SoundField r.width) (row_fields text f.before first_bit cs) =
    fields_sound text f.before r.width (component.Register r) first_bit f.sensible refl x (names row low) (fault_narrow r fs g) (fault_inside r fs g) in
    let n : length (row_fields text table first_bit cs) ≡ length cs = register_counted text table s row (ap is_register k ∙ y) in
    record {
      register = r;
      known_as = k;
      width = w.0;
      access = w.1;
      order = ltb-false r.width r.access (fault_order r fs g);
      size = ap (λ (s : Shape). s.size) z;
      parts = ap (λ (s : Shape). s.access) z;
      held = omega (arith, n, some_instance cs (register_full f.before r cs e));
      fields = rw same at a;
      within = rw same at (rows_keep text f.before (Span r.access) first_bit cs (fault_within r fs g));
    }

pub register_holds : (text : List ℕ) (table : List Definition) (mode row : ℕ) → Sensible table → Names text table → row < length table
    → is_register (definition_of table row).component ≡ true → RegisterHolds text table mode row
register_holds text table mode row s names low y = register_by text table mode row s names low (definition_of table row).component refl y

-- a register of a map, in its row
pub record RegisterSeen (text : List ℕ) (table : List Definition) (mode : ℕ) (v : Visit) : Type 0 where
  pub seen : Seen (length table) (StepFits text) 0 v
  pub type : RegisterHolds text table mode v.type
  pub shallow : length v.path ≤ nest_limit
  pub sited : Sited (shapes_from mode [] table) v

pub entry-sound : (text : List ℕ) (table : List Definition) (mode : ℕ) (v : Visit) → RegisterSeen text table mode v → SoundEntry (entry_of text table v)
entry-sound text table mode v s =
    let r : Register = s.type.register in
    let k : widths_of (definition_of table v.type).component ≡ r = ap widths_of s.type.known_as in
    let width : (widths_of (definition_of table v.type).component).width ≡ r.width = ap (λ (x : Register). x.width) k in
    let access : (widths_of (definition_of table v.type).component).access ≡ r.access = ap (λ (x : Register). x.access) k in
    let long : length (steps_of text v.path) ≡ length v.path = path_length text v.path in
    record {
      path = path_sound text s.seen.steps;
      some = omega (arith, long, s.seen.deeper);
      deep = omega (arith, long, s.shallow);
      width = ap is_width width ∙ s.type.width;
      access = ap is_width access ∙ s.type.access;
      order = omega (arith, width, access, s.type.order);
      part = ap (λ (n : ℕ). v.address.0 % (n / 8)) access ∙ ap (λ (n : ℕ). v.address.0 % n) (sym s.type.parts) ∙ s.sited.aligned;
      end = omega (arith, ap (λ (n : ℕ). n / 8) width, s.type.size, s.sited.within);
      held = s.type.held;
      fields = rw width s.type.fields;
    }

pub entry-within : (text : List ℕ) (table : List Definition) (mode : ℕ) (v : Visit) → RegisterSeen text table mode v → WithinParts (entry_of text table v)
unfolding breaks
entry-within text table mode v s = rw (ap widths_of s.type.known_as) s.type.within

pub entries_within : (text : List ℕ) (table : List Definition) (mode : ℕ) {vs : List Visit} → All (RegisterSeen text table mode) vs → All WithinParts (entries_of text table vs)
unfolding entries_of
entries_within text table mode all_none = all_none
entries_within text table mode (all_more {x = v} p a) = all_more (entry-within text table mode v p) (entries_within text table mode a)

pub entries_sound : (text : List ℕ) (table : List Definition) (mode : ℕ) {vs : List Visit} → All (RegisterSeen text table mode) vs → All SoundEntry (entries_of text table vs)
unfolding entries_of
entries_sound text table mode all_none = all_none
entries_sound text table mode (all_more {x = v} p a) = all_more (entry-sound text table mode v p) (entries_sound text table mode a)
