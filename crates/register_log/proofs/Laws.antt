-- What a register's numbers hold is what was put there, where it is below its bound; 0, where there is no step, holds none.
use mathlib.Core.Path.{◌≡◌, refl}
use Prim.Native.Nat.{ℕ, ◌<◌}
use native.Mathlib.Omega.{arith}
use Rattle.basics.specs.Limits.{definition_limit}
use Rattle.register_log.specs.Log.{address_bound, depth_bound, place_bound, step_index_bound, head_of, head_address, head_row, head_depth, step_of, step_start, step_end, step_index}

module _ (a r d : ℕ) (h : a < address_bound) (k : r < definition_limit) (l : d < depth_bound) where
  pub head_address_lem : head_address (head_of a r d) ≡ a
  unfolding head_address head_of
  head_address_lem = omega arith

  pub head_row_lem : head_row (head_of a r d) ≡ r
  unfolding head_row head_of
  head_row_lem = omega arith

  pub head_depth_lem : head_depth (head_of a r d) ≡ d
  unfolding head_depth head_of
  head_depth_lem = omega arith

module _ (s e i : ℕ) where
  pub step_start_lem : s < place_bound → step_start (step_of s e i) ≡ s
  unfolding step_start step_of
  step_start_lem h = omega arith

  pub step_end_lem : e < place_bound → step_end (step_of s e i) ≡ e
  unfolding step_end step_of
  step_end_lem h = omega arith

  pub step_index_lem : i < step_index_bound → step_index (step_of s e i) ≡ i
  unfolding step_index step_of
  step_index_lem h = omega arith

pub no_step_lem : (step_start 0 ≡ 0) × (step_end 0 ≡ 0) × (step_index 0 ≡ 0)
unfolding step_start step_end step_index
no_step_lem = (refl, refl, refl)
