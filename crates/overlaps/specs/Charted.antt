-- What the pass for 21 is asked for: a map that breaks neither 18 nor 19 nor 20, and its registers in the log.
use Rattle.std.specs.Prelude.{◌≡◌, Bool, true, List, ℕ, ◌+◌, ◌*◌, ◌<◌, ◌≤◌, eqb, length}
use Rattle.components.specs.declared.Component.{Component}
use Rattle.components.specs.declared.Component.TheVariants as component
use Rattle.basics.specs.Slices.{cell_of}
use Rattle.basics.specs.Limits.{register_limit}
use Rattle.sizes.specs.declared.Extent.{Extent}
use Rattle.sizes.specs.Ready.{known}
use Rattle.sizes.specs.Shapes.{shape_in, all_shapes}
use Rattle.register_log.specs.Log.{log_width, head_address, head_row, head_depth, step_start}
use Rattle.map_walk.specs.Walks.{Shaped, Logs, elements_of, registers_of, survey_fault}
use Rattle.overlaps.specs.declared.Plot.{Plot}
use Rattle.basics.specs.Judged.{Accepted}

pub record Charted (text t s log : List ℕ) (e : Extent) (row : ℕ) : Type 0 where
  pub shaped : Shaped text t s e
  pub low : row < e.rows
  pub logs : Logs log (registers_of text t e row)
  pub few : length (registers_of text t e row) ≤ register_limit
  pub sound : survey_fault (known text t e) (all_shapes text t e) (elements_of text t e row) ≡ Accepted

-- whether a field has this access; what is no field has each
abbrev pub has_in : ℕ → Component → Bool
has_in a (component.Field f) = eqb f.sw a
has_in a (component.Register r) = true
has_in a (component.Regfile l) = true
has_in a (component.Addrmap l m) = true

-- a register of the log
unfoldable pub plot_in : List ℕ → List ℕ → ℕ → Plot
plot_in s log i =
    let head = cell_of log (i * log_width) in
    record {
      row = head_row head;
      address = record { 0 = head_address head };
      size = (shape_in s (head_row head)).size;
    }

-- where its name stands: that of its path's last step
unfoldable pub last_place : List ℕ → ℕ → ℕ
last_place log i = step_start (cell_of log (i * log_width + head_depth (cell_of log (i * log_width))))
