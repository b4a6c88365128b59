-- What the cells say of a text: its definitions, its instances and its types.
use Rattle.std.specs.Prelude.{◌≡◌, List, [], ◌∷◌, ℕ, suc, ◌+◌, ◌<◌, ◌≤◌, length, get_or}
use Rattle.parts.specs.Reading.{ok}
use Rattle.parts.specs.Parts.{instance_at}
use Rattle.basics.specs.Slices.{cell_of}
use Rattle.cells.specs.Cells.{instance_room, entries_at, component_in, first_in, count_in, name_in, below_in, place_in, row_in}
use Rattle.cells.specs.Definitions.{Child, Definition, VisibleType, no_definition}

-- a cell holds an instance, which stands where its name does
pub record IsEntry (text : List ℕ) (x : ℕ) (c : Child) : Type 0 where
  pub next : ℕ
  pub reads : instance_at text (place_in x) ≡ ok c.instance next
  pub starts : place_in x ≡ c.instance.name.start
  pub type : row_in x ≡ c.type

-- the cells from an index on hold these instances
pub data Block (text t : List ℕ) : ℕ → List Child → Type 0 where
  block_end : {i : ℕ} → Block text t i []
  block_on : {i : ℕ} {c : Child} {cs : List Child} → IsEntry text (cell_of t i) c → Block text t (suc i) cs → Block text t i (c ∷ cs)

-- a row holds a definition whose instances stand among the last `filed`
pub record IsRow (text t : List ℕ) (filed row : ℕ) (d : Definition) : Type 0 where
  pub name : name_in t row ≡ d.name
  pub component : component_in t row ≡ d.component
  pub instances : Block text t (entries_at + first_in t row) d.instances
  pub count : count_in t row ≡ length d.instances
  pub behind : instance_room ≤ filed + first_in t row
  pub within : first_in t row + length d.instances ≤ instance_room

-- the first rows hold the definitions that are closed
pub record Holds (text t : List ℕ) (closed filed : ℕ) (table : List Definition) : Type 0 where
  pub count : length table ≡ closed
  pub each : (r : ℕ) → r < closed → IsRow text t filed r (get_or table r no_definition)

-- the types from one row's number (and one more) down to another's are these
pub data Chain (t : List ℕ) (stop : ℕ) : ℕ → List VisibleType → Type 0 where
  chain_stop : Chain t stop stop []
  chain_on : {e : VisibleType} {es : List VisibleType} → stop ≤ e.row → name_in t e.row ≡ e.name → stop ≤ below_in t e.row → Chain t stop (below_in t e.row) es → Chain t stop (suc e.row) (e ∷ es)
