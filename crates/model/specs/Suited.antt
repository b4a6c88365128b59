-- What the laws ask of a device.
use Rattle.std.specs.Prelude.{◌≡◌, true, List, ℕ, ◌<◌, ◌≤◌, length, get_or}
use Rattle.model.specs.declared.View.{View}
use Rattle.fields.specs.Fields.{is_readable}
use Rattle.model.specs.Model.{Device, size, view_in}
use Rattle.model.specs.Repeats.{changed_by_reading}

-- of a view of a store with so many bits in each number; lawful rows keep it
pub record SuitedView (m : List ℕ) (c : View) : Type 0 where
  -- the number is there, and has the field's bits
  pub row : c.index < length m
  pub same : get_or m c.index 0 ≡ size c
  -- 12: "`onread` without reading"
  pub usable : changed_by_reading c.field.values ≡ true → is_readable c.field.values ≡ true

pub record Suited (d : Device) : Type 0 where
  pub narrow : (f : ℕ) → f < length d.sizes → get_or d.sizes f 0 ≤ 64
  pub each : (k : ℕ) → k < length d.views → SuitedView d.sizes (view_in d.views k)
