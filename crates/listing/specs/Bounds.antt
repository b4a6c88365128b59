-- The bounds of the rows that a listing is made of.
use Rattle.std.specs.Prelude.{List, ℕ, ◌+◌, ◌/◌, ◌<◌, ◌≤◌, length}
use Rattle.basics.specs.Limits.{nest_limit, register_limit, field_limit, register_row_width}
use Rattle.rows.specs.Lawful.{register_row}

-- a register's row whose numbers the walk over the rows can bear: every lawful row is one
pub record Bounded (registers : List ℕ) (i : ℕ) : Type 0 where
  pub depth : (register_row registers i).depth ≤ nest_limit
  pub run : (register_row registers i).first + (register_row registers i).count ≤ field_limit

pub record AllBounded (registers : List ℕ) : Type 0 where
  pub few : length registers / register_row_width ≤ register_limit
  pub each : (i : ℕ) → i < length registers / register_row_width → Bounded registers i
