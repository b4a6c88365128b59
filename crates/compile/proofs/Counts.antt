-- The rows of a map, counted: every instance of a register is a field.
use mathlib.Core.Path.{◌≡◌, refl, sym, ap, ◌∙◌}
use mathlib.Core.Bool.{Bool, true, false}
use mathlib.Core.List.{List, [], ◌∷◌}
use Prim.Native.Nat.{ℕ, zero, suc, ◌+◌, ◌<◌}
use native.Mathlib.Omega.{arith}
use lib.ListN.{length}
use Rattle.std.specs.Prelude.{if◌then◌else◌, Some}
use Rattle.components.specs.Components.{kind_of}
use Rattle.fields.specs.declared.BitPlace.{BitPlace}
use Rattle.components.specs.declared.Component.{Component}
use Rattle.components.specs.declared.Component.TheVariants as component
use Rattle.cells.specs.Definitions.{Child, Definition, definition_of}
use Rattle.closing_rules.specs.Registers.{placement, bit_above, first_bit}
use Rattle.scopes.specs.Places.{may_hold}
use Rattle.definition_laws.specs.Sensible.{Sensible, ChildrenFit, children_none, children_more}
use Rattle.sizes.proofs.Rows.{row_fits}
use Rattle.row_laws.specs.Sound.{fields_in}
use Rattle.rows.specs.Rows.{Field}
use Rattle.map_rules.specs.Visits.{Visit}
use Rattle.map_rules.specs.Whole.{is_register, is_register_visit, registers_among, fields_among}
use Rattle.row_writer.specs.Entries.{bytes_in, with_field, row_fields, entries_of}

-- a definition that is a register is one of the table's
register_low : (table : List Definition) (n : ℕ) → is_register (definition_of table n).component ≡ true → n < length table
register_low [] n e = cc
register_low (d ∷ table) zero e = omega arith
register_low (d ∷ table) (suc n) e = omega (arith, register_low table n e)

-- what stands in a register is a field
field_placed : (h k : Component) → is_register h ≡ true → may_hold (Some (kind_of h)) (kind_of k) ≡ true → (name : List ℕ) (next : BitPlace) (c : Child) (rest : List Field)
    → length (with_field name (placement k next c.instance) rest) ≡ suc (length rest)
unfolding may_hold
field_placed (component.Register g) (component.Field f) r e name next c rest = refl
field_placed (component.Register g) (component.Register k) r e name next c rest = cc
field_placed (component.Register g) (component.Regfile k) r e name next c rest = cc
field_placed (component.Register g) (component.Addrmap k m) r e name next c rest = cc
field_placed (component.Field g) k r e name next c rest = cc
field_placed (component.Regfile g) k r e name next c rest = cc
field_placed (component.Addrmap g n) k r e name next c rest = cc

-- one field a row
fields_counted : (text : List ℕ) (table before : List Definition) (h : Component) → is_register h ≡ true
    → ((r : ℕ) → r < length before → definition_of before r ≡ definition_of table r) → (next : BitPlace) {cs : List Child} → ChildrenFit before h cs
    → length (row_fields text table next cs) ≡ length cs
unfolding row_fields
fields_counted text table before h r same next children_none = refl
fields_counted text table before h r same next (children_more {c} {cs} f fs) =
    let k : may_hold (Some (kind_of h)) (kind_of (definition_of table c.type).component) ≡ true
    = ap (λ (d : Definition). may_hold (Some (kind_of h)) (kind_of d.component)) (sym (same c.type f.before)) ∙ f.held in
    let p = placement (definition_of table c.type).component next c.instance in
    field_placed h (definition_of table c.type).component r k (bytes_in text c.instance.name) next c (row_fields text table (bit_above p next) cs)
    ∙ ap (λ (n : ℕ). suc n) (fields_counted text table before h r same (bit_above p next) fs)

pub register_counted : (text : List ℕ) (table : List Definition) → Sensible table → (n : ℕ) → is_register (definition_of table n).component ≡ true
    → length (row_fields text table first_bit (definition_of table n).instances) ≡ length (definition_of table n).instances
register_counted text table s n e =
    let low = register_low table n e in
    let f = row_fits 0 s n low in
    fields_counted text table f.before (definition_of table n).component e (λ r l. f.rows r (omega (arith, l, f.count))) first_bit f.fits.children

-- a register row for each register, and as many field rows as they have instances
pub entries_counted : (text : List ℕ) (table : List Definition) (vs : List Visit) → length (entries_of text table vs) ≡ length vs
unfolding entries_of
entries_counted text table [] = refl
entries_counted text table (v ∷ vs) = ap (λ (n : ℕ). suc n) (entries_counted text table vs)

pub fields_among_lem : (text : List ℕ) (table : List Definition) → Sensible table → (vs : List Visit) → fields_among table vs ≡ fields_in (entries_of text table (registers_among table vs))
unfolding entries_of registers_among fields_among fields_in
fields_among_lem text table s [] = refl
fields_among_lem text table s (v ∷ vs) = by (is_register_visit table v) refl (fields_among_lem text table s vs)
  where
    by : (b : Bool) → is_register_visit table v ≡ b → fields_among table vs ≡ fields_in (entries_of text table (registers_among table vs))
        → (if b then length (definition_of table v.type).instances + fields_among table vs else fields_among table vs)
        ≡ fields_in (entries_of text table (if b then v ∷ registers_among table vs else registers_among table vs))
    by true e h = rw (register_counted text table s v.type e, h)
    by false e h = h
