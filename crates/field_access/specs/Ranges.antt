-- What the functions of one stored field ask of an access and of the field: lawful rows keep it.
use Rattle.std.specs.Prelude.{ℕ, ◌<◌, ◌≤◌}
use Rattle.model.specs.declared.View.{View}

pub record ViewInRange (w : ℕ) (c : View) : Type 0 where
  pub least : 8 ≤ w
  pub most : w ≤ 64
  pub register : c.register.width ≤ 64
  pub order : c.field.low.0 ≤ c.field.high.0
  pub top : c.field.high.0 < 64
