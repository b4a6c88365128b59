-- Addresses (document 01, "Addresses"): where the instances of a body lie, and how large a definition is, in whole numbers.
use Rattle.std.specs.Prelude.{◌&&◌, List, [], ◌∷◌, ◌++◌, ℕ, ◌+◌, ◌-◌, ◌*◌, ◌/◌, eqb, get_or, Option, Some, None}
use Rattle.std.specs.Prelude.{if◌then◌else◌}
use Rattle.parts.specs.declared.Array.{Array}
use Rattle.parts.specs.declared.Array.TheVariants as array
use Rattle.parts.specs.declared.Instance.{Instance}
use Rattle.fields.specs.Codes.{mode_code}
use Rattle.fields.specs.declared.Mode.TheVariants as mode
use Rattle.suffixes.specs.Suffixes.{is_array}
use Rattle.basics.specs.Given.{or_else}
use Rattle.components.specs.Components.{start_of}
use Rattle.components.specs.declared.Component.{Component}
use Rattle.components.specs.declared.Component.TheVariants as component
use Rattle.fields.specs.declared.Offset.{Offset}
use Rattle.capped.specs.Offsets.{cut, larger, raised, common_multiple, power_above}
use Rattle.cells.specs.Definitions.{Child, Definition}
use Rattle.layout.specs.declared.Shape.{Shape}
use Rattle.layout.specs.declared.Laid.{Laid}
use Rattle.expressions.specs.declared.Number.{Number}

-- how many elements an instance has; one that is no array has one
abbrev pub elements : Array → ℕ
elements array.Missing = 1
elements (array.Size mark n) = n.value
elements (array.Range mark left right) = 1

-- "The default stride is the element size, raised to a multiple of the body's own `alignment`"
abbrev pub stride_or : Option (ℕ × Number) → ℕ → ℕ
stride_or None standard = standard
stride_or (Some (mark, n)) standard = n.value

unfoldable pub stride_of : Option ℕ → Shape → Instance → ℕ
stride_of alignment s i = stride_or i.stride (raised s.size (or_else 1 alignment))

-- "An array's span is stride times (n-1), plus the size"
unfoldable pub span_of : Option ℕ → Shape → Instance → ℕ
span_of alignment s i = stride_of alignment s i * (elements i.array - 1) + s.size

-- "compact, the access width in bytes ..; regalign (the default), the element size; fullalign, as regalign, but for an array its span
-- rounded up to a power of two"
unfoldable pub mode_step : ℕ → Option ℕ → Shape → Instance → ℕ
mode_step m alignment s i =
    if eqb m (mode_code mode.Compact) then s.access else
    if eqb m (mode_code mode.Fullalign) && is_array i.array then power_above (span_of alignment s i) else
    s.size

-- "`%=` gives the step. Without it the step is the least common multiple of the enclosing body's own `alignment`, if set, and that of
-- the map's mode"
abbrev pub step_or : Option (ℕ × Number) → ℕ → ℕ
step_or None standard = standard
step_or (Some (mark, n)) standard = n.value

unfoldable pub step_of : ℕ → Option ℕ → Shape → Instance → ℕ
step_of m alignment s i = step_or i.alignment (common_multiple (or_else 1 alignment) (mode_step m alignment s i))

-- "An instance with `@` starts there. Otherwise it takes the smallest offset not below the end of the previous instance (0 for the
-- first) that is a multiple of its step"
abbrev pub start_after : Option Offset → Offset → ℕ → Offset
start_after (Some o) end step = o
start_after None end step = record { 0 = raised end.0 step }

-- where an instance lies in its body: its first element's offset, its stride, and its end
unfoldable pub laid : ℕ → Option ℕ → Shape → Instance → Offset → Laid
laid m alignment s i end =
    let from = start_after (start_of i.address) end (step_of m alignment s i) in
    record { start = from; stride = stride_of alignment s i; end = record { 0 = from.0 + span_of alignment s i } }

-- the offset of a body's first byte
abbrev pub bottom : Offset
bottom = record { 0 = 0 }

abbrev pub no_shape : Shape
no_shape = record { size = 0; access = 0 }

abbrev pub shape_at : List Shape → ℕ → Shape
shape_at shapes n = get_or shapes n no_shape

-- the instances of a body, one after another, the first behind the offset `end`
unfoldable pub laid_from : ℕ → Option ℕ → List Shape → Offset → List Child → List Laid
laid_from m alignment shapes end [] = []
laid_from m alignment shapes end (c ∷ cs) =
    let l = laid m alignment (shape_at shapes c.type) c.instance end in
    l ∷ laid_from m alignment shapes l.end cs

-- "A regfile's size is its highest end"
unfoldable pub highest_end : List Laid → Offset
highest_end [] = bottom
highest_end (l ∷ ls) = record { 0 = larger l.end.0 (highest_end ls).0 }

unfoldable pub largest_access : List Shape → List Child → ℕ
largest_access shapes [] = 0
largest_access shapes (c ∷ cs) = larger (shape_at shapes c.type).access (largest_access shapes cs)

-- a definition's shape, from those of the definitions before it
abbrev pub group_shape : ℕ → Option ℕ → List Shape → List Child → Shape
group_shape m alignment shapes cs = record { size = (highest_end (laid_from m alignment shapes bottom cs)).0; access = largest_access shapes cs }

abbrev pub shape_of : ℕ → List Shape → Component → List Child → Shape
shape_of m shapes (component.Field f) cs = no_shape
shape_of m shapes (component.Register r) cs = record { size = r.width / 8; access = r.access / 8 }
shape_of m shapes (component.Regfile a) cs = group_shape m a shapes cs
shape_of m shapes (component.Addrmap a mode) cs = group_shape m a shapes cs

-- the shapes of all definitions, in the map's mode, "which rules in regfiles too"
unfoldable pub shapes_from : ℕ → List Shape → List Definition → List Shape
shapes_from m shapes [] = shapes
shapes_from m shapes (d ∷ ds) = shapes_from m (shapes ++ (shape_of m shapes d.component d.instances ∷ [])) ds

abbrev pub alignment_of : Component → Option ℕ
alignment_of (component.Field f) = None
alignment_of (component.Register r) = None
alignment_of (component.Regfile a) = a
alignment_of (component.Addrmap a m) = a

-- "regalign (the default)"
abbrev pub mode_of : Component → ℕ
mode_of (component.Field f) = mode_code mode.Regalign
mode_of (component.Register r) = mode_code mode.Regalign
mode_of (component.Regfile a) = mode_code mode.Regalign
mode_of (component.Addrmap a m) = or_else (mode_code mode.Regalign) m

-- numbers cut at the cap, as the code keeps them
abbrev pub cut_shape : Shape → Shape
cut_shape s = record { size = cut s.size; access = cut s.access }

abbrev pub cut_offset : Offset → Offset
cut_offset o = record { 0 = cut o.0 }

abbrev pub cut_laid : Laid → Laid
cut_laid l = record { start = cut_offset l.start; stride = cut l.stride; end = cut_offset l.end }
