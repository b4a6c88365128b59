-- What the layout of an instance is asked for: numbers in the ranges that the rules give.
use Rattle.std.specs.Prelude.{◌≡◌, ℕ, ◌<◌, ◌≤◌, true, false, Option, Some, None}
use Rattle.parts.specs.declared.Kind.{Kind}
use Rattle.parts.specs.declared.Instance.{Instance}
use Rattle.property_values.specs.Settings.{is_field, is_alignment}
use Rattle.suffixes.specs.Suffixes.{instance_fault}
use Rattle.basics.specs.Given.{or_else}
use Rattle.fields.specs.declared.Offset.{Offset}
use Rattle.capped.specs.Offsets.{cap}
use Rattle.layout.specs.Layout.{start_after, cut_offset}
use Rattle.layout.specs.declared.Shape.{Shape}
use Rattle.basics.specs.Judged.{Accepted}

-- a body's alignment, an element's shape and an instance of a register or regfile whose suffixes are sound
pub record Layable (alignment : Option ℕ) (s : Shape) (i : Instance) : Type 0 where
  pub aligned : is_alignment (or_else 1 alignment) ≡ true
  pub sized : (1 ≤ s.size) × (s.size ≤ cap)
  pub accessed : (1 ≤ s.access) × (s.access ≤ cap)
  pub kind : Kind
  pub addressed : is_field kind ≡ false
  pub sound : instance_fault kind i ≡ Accepted

-- an address that is given lies below the cap
pub data StartBelow : Option Offset → Type 0 where
  start_free : StartBelow None
  start_at : {o : Offset} → o.0 < cap → StartBelow (Some o)

-- where an instance starts, cut at the cap: an address that is given is below the cap
pub record StartsAt (start : Option Offset) (end : Offset) (step : ℕ) (r : Offset) : Type 0 where
  pub each : StartBelow start → r ≡ cut_offset (start_after start end step)
  pub low : StartBelow start → r.0 ≤ cap
