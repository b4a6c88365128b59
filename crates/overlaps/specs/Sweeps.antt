-- What the pass in the order of the addresses is asked for, and what it keeps.
use Rattle.std.specs.Prelude.{◌≡◌, Bool, true, false, ◌||◌, ◌&&◌, not, List, ℕ, ◌+◌, ◌*◌, ◌<◌, ◌≤◌, ltb, length}
use Rattle.std.specs.Prelude.{if◌then◌else◌}
use Rattle.basics.specs.Slices.{cell_of}
use Rattle.basics.specs.Limits.{register_limit, address_end}
use Rattle.fields.specs.Codes.{access_code}
use Rattle.fields.specs.declared.AccessRight.TheVariants as access
use Rattle.orders.specs.Keys.{InOrder}
use Rattle.cells.specs.Definitions.{Definition}
use Rattle.sizes.specs.declared.Extent.{Extent}
use Rattle.sizes.specs.Ready.{known}
use Rattle.map_rules.specs.Whole.{has_access}
use Rattle.register_log.specs.Log.{log_width, head_address}
use Rattle.map_walk.specs.Walks.{registers_of}
use Rattle.overlaps.specs.declared.Stretch.{Stretch}
use Rattle.overlaps.specs.declared.Side.{Side}
use Rattle.overlaps.specs.Charted.{Charted, plot_in}

-- how many registers a map has
abbrev pub register_count : List ℕ → List ℕ → Extent → ℕ
register_count text t e = length (registers_of text t e e.map)

-- where a register of the log starts
abbrev pub start_in : List ℕ → ℕ → ℕ
start_in log i = head_address (cell_of log (i * log_width))

-- the bytes and the access of a register of the log
unfoldable pub stretch_in : List Definition → List ℕ → List ℕ → ℕ → Stretch
stretch_in table s log i =
    record {
      start = (plot_in s log i).address.0;
      end = (plot_in s log i).address.0 + (plot_in s log i).size;
      readable = not (has_access table (access_code access.W) (plot_in s log i).row);
      writable = not (has_access table (access_code access.R) (plot_in s log i).row);
    }

-- two registers by their numbers share a byte, and both are readable or both writable
unfoldable pub clash : (ℕ → Stretch) → ℕ → ℕ → Bool
clash at i j =
    (ltb (at j).start (at i).end && ltb (at i).start (at j).end) &&
    (((at i).readable && (at j).readable) || ((at i).writable && (at j).writable))

abbrev pub clash_in : List ℕ → List ℕ → List ℕ → List ℕ → Extent → ℕ → ℕ → Bool
clash_in text t s log e = clash (stretch_in (known text t e) s log)

-- addresses that make keys
pub record LowStarts (log : List ℕ) (n : ℕ) : Type 0 where
  pub each : (i : ℕ) → i < n → start_in log i ≤ address_end

-- a map's registers in the log, and their keys in order
pub record Sweepable (text t s log : List ℕ) (e : Extent) (order : List ℕ) : Type 0 where
  pub charted : Charted text t s log e e.map
  pub ordered : InOrder (start_in log) register_limit (register_count text t e) order

-- a side with one register more
unfoldable pub side_of : Side → Bool → ℕ → ℕ → Side
side_of side belongs end number =
    if belongs then (if ltb side.end end then record { end = end; who = number } else side) else side

pub record Reaches (side : Side) (belongs : Bool) (start : ℕ) (answer : Bool) : Type 0 where
  pub free : answer ≡ false → belongs ≡ true → side.end ≤ start
  pub over : answer ≡ true → start < side.end
  pub counts : answer ≡ true → belongs ≡ true
