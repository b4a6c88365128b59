-- What the cells of a body's instances decode to at its closing brace, whatever they hold: the fields of a register, and what is judged.
use Rattle.std.specs.Prelude.{Bool, true, false, ◌||◌, List, [], ℕ, zero, suc, ◌-◌, eqb, Option, Some, None}
use Rattle.std.specs.Prelude.{if◌then◌else◌}
use Rattle.parts.specs.declared.Kind.TheVariants as kind
use Rattle.parts.specs.declared.Instance.{Instance}
use Rattle.suffixes.specs.Suffixes.{instance_fault}
use Rattle.fields.specs.Fields.{breaks}
use Rattle.components.specs.Fields.{field_at}
use Rattle.fields.specs.declared.FieldAt.{FieldAt}
use Rattle.fields.specs.declared.BitPlace.{BitPlace}
use Rattle.components.specs.declared.Component.{Component}
use Rattle.components.specs.declared.Component.TheVariants as component
use Rattle.fields.specs.declared.Probe.{Probe}
use Rattle.fields.specs.declared.Probe.TheVariants.{Wide, Outside, Overlap, Span}
use Rattle.fields.specs.declared.Register.{Register}
use Rattle.cover.specs.Covers.{is_narrow, meets_in, cover_with}
use Rattle.cover.specs.declared.Cover.{Cover}
use Rattle.basics.specs.Slices.{cell_of}
use Rattle.cells.specs.Cells.{component_in}
use Rattle.cells.specs.Decoded.{child_in}
use Rattle.closing_rules.specs.declared.Broken.{Broken}
use Rattle.closing_rules.specs.Registers.{bit_above, with_placed, first_bit, some, register_fault, effect_fault}
use Rattle.basics.specs.Judged.{Verdict, Accepted, Refused, Judged, fine, fault}

-- a field, unless its instance has a fault
abbrev pub unless_broken : Verdict → FieldAt → Option FieldAt
unless_broken Accepted f = Some f
unless_broken (Refused n p) f = None

-- an instance of a component as a field of a register, if it is one and its suffixes are sound; `next` is the bit above the field before it
unfoldable pub placed_as : Component → BitPlace → Instance → Option FieldAt
placed_as (component.Field f) next i = unless_broken (instance_fault kind.Field i) (field_at next i f)
placed_as (component.Register r) next i = None
placed_as (component.Regfile a) next i = None
placed_as (component.Addrmap a m) next i = None

-- the same of what a cell gives: its type is the component of its row
abbrev pub placed_read : List ℕ → BitPlace → Judged (ℕ × Instance) → Option FieldAt
placed_read t next (fine (row, i)) = placed_as (component_in t row) next i
placed_read t next (fault n p) = None

-- the instance of a cell as a field
unfoldable pub placed_in : List ℕ → List ℕ → BitPlace → ℕ → Option FieldAt
placed_in text t next x = placed_read t next (child_in text x)

-- the fields of the `count` cells from the index `i` on, the first from the bit `next` on
unfoldable pub fields_in_cells : List ℕ → List ℕ → BitPlace → ℕ → ℕ → List FieldAt
fields_in_cells text t next i zero = []
fields_in_cells text t next i (suc count) =
    let p = placed_in text t next (cell_of t i) in
    with_placed p (fields_in_cells text t (bit_above p next) (suc i) count)

-- the fields of a register whose instances stand in the cells from one up to another
abbrev pub fields_between : List ℕ → List ℕ → ℕ → ℕ → List FieldAt
fields_between text t from to = fields_in_cells text t first_bit from (to - from)

-- the top bit of a field
abbrev pub top_of : Option FieldAt → ℕ
top_of (Some f) = f.high.0
top_of None = 0

abbrev pub breaks_in : Probe → Option FieldAt → Bool
breaks_in probe (Some f) = breaks probe f
breaks_in probe None = false

-- which of 13, 15 and 17 some field of a register breaks; and with one more
abbrev pub broken_by : Register → List FieldAt → Broken
broken_by r fs = record { wide = some Wide fs; outside = some (Outside r.width) fs; split = some (Span r.access) fs }

abbrev pub broken_with : Broken → Register → Option FieldAt → Broken
broken_with b r p =
    record {
      wide = b.wide || breaks_in Wide p;
      outside = b.outside || breaks_in (Outside r.width) p;
      split = b.split || breaks_in (Span r.access) p;
    }

-- whether a field overlaps one of these, which stand before it
abbrev pub overlaps_earlier : Option FieldAt → List FieldAt → Bool
overlaps_earlier (Some f) fs = some (Overlap f) fs
overlaps_earlier None fs = false

-- whether a cover can hold a field's bits
abbrev pub is_narrow_in : Option FieldAt → Bool
is_narrow_in (Some f) = is_narrow f
is_narrow_in None = true

-- whether some bit of a field is closed to it
abbrev pub meets_placed : Cover → Option FieldAt → Bool
meets_placed c (Some f) = meets_in c f
meets_placed c None = false

-- with the bits that a field closes to later ones
abbrev pub cover_with_placed : Cover → Option FieldAt → Cover
cover_with_placed c (Some f) = cover_with c f
cover_with_placed c None = c

-- 10 where there is no instance
abbrev pub missing_fault : ℕ → ℕ → ℕ
missing_fault from to = if eqb from to then 10 else 0

-- the smallest number that a body breaks at its closing brace, and 0 for none: its instances stand in the cells from one up to another
unfoldable pub closing_in : List ℕ → List ℕ → ℕ → ℕ → Component → ℕ
closing_in text t from to (component.Field f) = effect_fault f
closing_in text t from to (component.Register r) = if eqb from to then 10 else register_fault r (fields_between text t from to)
closing_in text t from to (component.Regfile a) = missing_fault from to
closing_in text t from to (component.Addrmap a m) = missing_fault from to
