-- Half a count (document 02, item 2): what an access reaches of a field that software changes.
use Rattle.std.specs.Prelude.{◌≡◌, true, ℕ, ◌<◌, ◌≤◌}
use Rattle.fields.specs.Codes.{is_width}
use Rattle.fields.specs.Fields.{is_changed_by_access}
use Rattle.fields.specs.declared.Offset.{Offset}
use Rattle.model.specs.declared.View.{View}
use Rattle.model.specs.Model.{size, reaches_bit}

-- of a field that is writable or has an effect on reading, an access that reaches a bit reaches them all
pub record NeverHalved (c : View) : Type 0 where
  pub whole : is_changed_by_access c.field.values ≡ true → (a : Offset) (w i j : ℕ) → i < size c → j < size c → reaches_bit a w c i ≡ true → reaches_bit a w c j ≡ true

-- a field in its register, as in lawful rows: the widths, and 15
pub record InRegister (c : View) : Type 0 where
  pub width : is_width c.register.width ≡ true
  pub access : is_width c.register.access ≡ true
  pub bits : c.field.low.0 ≤ c.field.high.0
  pub inside : c.field.high.0 < c.register.width
