-- The fields of a register that keeps the rules 12 to 17.
use mathlib.Core.Path.{◌≡◌, refl, ap, ◌∙◌}
use mathlib.Core.Bool.{true, false, not}
use mathlib.Core.List.{List, [], ◌∷◌}
use Prim.Native.Nat.{ℕ, ◌<◌, ◌≤◌}
use native.Mathlib.Omega.{arith}
use lib.Dec.{leb}
use lib.ListN.{length}
use borrow.Author.Tests.{le-leb}
use Rattle.chars.proofs.Laws.{or_left, or_right, and_both}
use Rattle.parts.specs.declared.Kind.TheVariants as kind
use Rattle.parts.specs.declared.Array.{Array}
use Rattle.parts.specs.declared.Array.TheVariants as array
use Rattle.parts.specs.declared.Instance.{Instance}
use Rattle.suffixes.specs.Suffixes.{instance_fault}
use Rattle.components.specs.Components.{kind_of}
use Rattle.fields.specs.Fields.{is_readable, is_writable, has_unusable_effect, is_reset_wide, is_outside, breaks}
use Rattle.components.specs.Fields.{width_in, low_bit, high_bit, field_at}
use Rattle.fields.specs.declared.BitPlace.{BitPlace}
use Rattle.fields.specs.declared.FieldAt.{FieldAt}
use Rattle.fields.specs.declared.FieldType.{FieldType}
use Rattle.components.specs.declared.Component.{Component}
use Rattle.components.specs.declared.Component.TheVariants as component
use Rattle.fields.specs.declared.Probe.{Probe}
use Rattle.fields.specs.declared.Probe.TheVariants.{Wide, Outside}
use Rattle.components.proofs.Laws.{sound_width}
use Rattle.cells.specs.Definitions.{Child, Definition, definition_of}
use Rattle.closing_rules.specs.Registers.{placement, bit_above, with_placed, fields_from, some, closing_fault}
use Rattle.scopes.specs.Places.{may_hold}
use Rattle.definition_laws.specs.Sensible.{Sensible, ValuesFit, field_fits, ChildrenFit, children_none, children_more}
use Rattle.sizes.proofs.Rows.{RowFits, row_fits}
use Rattle.rows.specs.Rows.{Field}
use Rattle.rows.specs.Lawful.{is_ranged, is_sound_field}
use Rattle.basics.specs.All.{All, all_none, all_more}
use Rattle.row_laws.specs.Sound.{SoundField}
use Rattle.compile_laws.specs.Named.{ChildNamed}
use Rattle.row_writer.specs.Entries.{bytes_in, with_field, row_fields}
use Rattle.basics.proofs.All.{all_both, all_map}
use Rattle.compile_laws.proofs.Lists.{all_first, all_rest, not_of, none_test}
use Rattle.basics.specs.Judged.{Accepted}
use Rattle.std.specs.Prelude.{Option, Some, None}

-- the ranges of a field's values
field_ranges : {f : FieldType} → ValuesFit (component.Field f) → (f.sw ≤ 3) × ((f.hw ≤ 3) × ((f.onread ≤ 2) × (f.onwrite ≤ 8)))
field_ranges (field_fits a b c d) = (a, (b, (c, d)))

module _ (next : BitPlace) (i : Instance) (f : FieldType) where
  values_ranged : ValuesFit (component.Field f) → is_ranged (field_at next i f) ≡ true
  unfolding is_ranged field_at
  values_ranged h =
      let r = field_ranges {f = f} h in
      and_both (leb f.sw 3) _ (le-leb f.sw 3 r.0)
      (and_both (leb f.hw 3) _ (le-leb f.hw 3 r.1.0)
      (and_both (leb f.onread 2) _ (le-leb f.onread 2 r.1.1.0) (le-leb f.onwrite 8 r.1.1.1)))

  -- 12
  effect_usable : (table : List Definition) (cs : List Child) → closing_fault table (component.Field f) cs ≡ 0 → has_unusable_effect (field_at next i f).values ≡ false
  unfolding closing_fault field_at has_unusable_effect is_readable is_writable
  effect_usable table cs e = none_test 11 0 (has_unusable_effect f) e

-- "left not below right"
bits_order : (next : BitPlace) (a : Array) → 1 ≤ width_in a → (low_bit next a).0 ≤ (high_bit next a).0
bits_order next array.Missing h = omega arith
bits_order next (array.Size mark n) h = omega arith
bits_order next (array.Range mark left right) h = omega (arith, h)

module _ (next : BitPlace) (i : Instance) (f : FieldType) where
  bits_rise : instance_fault kind.Field i ≡ Accepted → leb (field_at next i f).low.0 (field_at next i f).high.0 ≡ true
  unfolding field_at
  bits_rise e = le-leb (low_bit next i.array).0 (high_bit next i.array).0 (bits_order next i.array (sound_width i e).0)

-- what is asked of a field, by the rules' numbers
field_holds : (width : ℕ) (g : FieldAt) → leb g.low.0 g.high.0 ≡ true → is_outside width g ≡ false → has_unusable_effect g.values ≡ false → is_reset_wide g ≡ false → is_sound_field width g ≡ true
unfolding is_sound_field
field_holds width g a b c d =
    and_both (leb g.low.0 g.high.0) _ a
    (and_both (not (is_outside width g)) _ (not_of (is_outside width g) b)
    (and_both (not (has_unusable_effect g.values)) _ (not_of (has_unusable_effect g.values) c) (not_of (is_reset_wide g) d)))

-- none of some fields breaks a rule
module _ (p : Probe) (f : FieldAt) (fs : List FieldAt) (e : some p (f ∷ fs) ≡ false) where
  none_first : breaks p f ≡ false
  unfolding some
  none_first = or_left (breaks p f) (some p fs) e

  none_later : some p fs ≡ false
  unfolding some
  none_later = or_right (breaks p f) (some p fs) e

-- a rule that no field of a register breaks, no field row breaks
abbrev pub Unbroken : Probe → Field → Type 0
Unbroken p f = breaks p f.at ≡ false

module _ (p : Probe) (rest : List FieldAt) (rows : List Field) where
  child_keeps : (name : List ℕ) (q : Option FieldAt) → some p (with_placed q rest) ≡ false → (some p rest ≡ false → All (Unbroken p) rows)
      → All (Unbroken p) (with_field name q rows)
  child_keeps name (Some f) e later = all_more (none_first p f rest e) (later (none_later p f rest e))
  child_keeps name None e later = later e

pub rows_keep : (text : List ℕ) (table : List Definition) (p : Probe) (next : BitPlace) (cs : List Child) → some p (fields_from table next cs) ≡ false
    → All (Unbroken p) (row_fields text table next cs)
unfolding fields_from row_fields
rows_keep text table p next [] e = all_none
rows_keep text table p next (c ∷ cs) e =
    let q : Option FieldAt = placement (definition_of table c.type).component next c.instance in
    let above : BitPlace = bit_above q next in
    child_keeps p (fields_from table above cs) (row_fields text table above cs) (bytes_in text c.instance.name) q e (λ r. rows_keep text table p above cs r)

-- 13 and 15 of a field row
record Keeps (width : ℕ) (f : Field) : Type 0 where
  narrow : Unbroken Wide f
  inside : Unbroken (Outside width) f

-- an instance in a register
field_sound : (text : List ℕ) (width : ℕ) (f : FieldType) (next : BitPlace) (c : Child) (table : List Definition) (cs : List Child)
    → ValuesFit (component.Field f) → closing_fault table (component.Field f) cs ≡ 0 → instance_fault kind.Field c.instance ≡ Accepted → ChildNamed text c
    → Keeps width (record { name = bytes_in text c.instance.name; at = field_at next c.instance f })
    → SoundField width (record { name = bytes_in text c.instance.name; at = field_at next c.instance f })
unfolding breaks
field_sound text width f next c table cs h e s n k =
    let g : FieldAt = field_at next c.instance f in
    record {
      name = n;
      ranged = values_ranged next c.instance f h;
      sound = field_holds width g (bits_rise next c.instance f s) k.inside (effect_usable next c.instance f table cs e) k.narrow;
    }

child_sound : (text : List ℕ) (width : ℕ) (d : Component) (next : BitPlace) (c : Child) (table : List Definition) (cs : List Child) (rows : List Field)
    → may_hold (Some kind.Reg) (kind_of d) ≡ true → ValuesFit d → closing_fault table d cs ≡ 0 → instance_fault (kind_of d) c.instance ≡ Accepted → ChildNamed text c
    → All (Keeps width) (with_field (bytes_in text c.instance.name) (placement d next c.instance) rows) → (All (Keeps width) rows → All (SoundField width) rows)
    → All (SoundField width) (with_field (bytes_in text c.instance.name) (placement d next c.instance) rows)
unfolding may_hold
child_sound text width (component.Field f) next c table cs rows m h e s n k later =
    all_more (field_sound text width f next c table cs h e s n (all_first k)) (later (all_rest k))
child_sound text width (component.Register r) next c table cs rows m h e s n k later = cc
child_sound text width (component.Regfile a) next c table cs rows m h e s n k later = cc
child_sound text width (component.Addrmap a b) next c table cs rows m h e s n k later = cc

-- the fields of a register behind others
rows_sound : (text : List ℕ) (before : List Definition) (width : ℕ) (h : Component) (next : BitPlace) {cs : List Child} → Sensible before → kind_of h ≡ kind.Reg
    → ChildrenFit before h cs → All (ChildNamed text) cs → All (Keeps width) (row_fields text before next cs) → All (SoundField width) (row_fields text before next cs)
unfolding row_fields
rows_sound text before width h next s q children_none all_none k = all_none
rows_sound text before width h next s q (children_more {c = c} {cs = cs} x xs) (all_more n ns) k =
    let d : Definition = definition_of before c.type in
    let f : RowFits 0 before c.type = row_fits 0 s c.type x.before in
    let above : BitPlace = bit_above (placement d.component next c.instance) next in
    child_sound text width d.component next c f.before d.instances (row_fields text before above cs)
    (rw q at x.held) f.fits.values f.fits.sound x.sound n k (λ r. rows_sound text before width h above s q xs ns r)

-- the rows are the same in a later table
pub rows_same : (text : List ℕ) (before table : List Definition) (h : Component) (next : BitPlace) {cs : List Child}
    → ((r : ℕ) → r < length before → definition_of before r ≡ definition_of table r) → ChildrenFit before h cs → row_fields text before next cs ≡ row_fields text table next cs
unfolding row_fields
rows_same text before table h next same children_none = refl
rows_same text before table h next same (children_more {c = c} {cs = cs} x xs) =
    let row : Definition → List Field = λ d.
    let p = placement d.component next c.instance in
    with_field (bytes_in text c.instance.name) p (row_fields text before (bit_above p next) cs) in
    let p = placement (definition_of table c.type).component next c.instance in
    ap row (same c.type x.before)
    ∙ ap (λ (fs : List Field). with_field (bytes_in text c.instance.name) p fs) (rows_same text before table h (bit_above p next) same xs)

pub fields_sound : (text : List ℕ) (before : List Definition) (width : ℕ) (h : Component) (next : BitPlace) {cs : List Child} → Sensible before → kind_of h ≡ kind.Reg
    → ChildrenFit before h cs → All (ChildNamed text) cs → some Wide (fields_from before next cs) ≡ false → some (Outside width) (fields_from before next cs) ≡ false
    → All (SoundField width) (row_fields text before next cs)
fields_sound text before width h next {cs = cs} s q x n a b =
    rows_sound text before width h next s q x n
    (all_map (λ f p. record { narrow = p.0; inside = p.1 }) (all_both (rows_keep text before Wide next cs a) (rows_keep text before (Outside width) next cs b)))
