-- What `seek` says of a body: whether one of its instances has the name, and where the name comes to.
use mathlib.Core.Path.{◌≡◌}
use mathlib.Core.Bool.{Bool, true, false, ◌||◌}
use mathlib.Core.List.{List}
use Prim.Native.Nat.{ℕ, zero, suc, ◌+◌, ◌<◌}
use Rattle.basics.specs.Slices.{cell_of}
use Rattle.name_tree.specs.declared.Spot.{Spot}
use Rattle.name_tree.specs.Tree.{goes_right, is_entry_named, below, Linked}

-- whether one of the `count` cells from the index `i` on has this name
unfoldable pub some_named : List ℕ → List ℕ → ℕ → ℕ → List ℕ → Bool
some_named text t i zero name = false
some_named text t i (suc count) name = is_entry_named text (cell_of t i) name || some_named text t (suc i) count name

-- the instance to which a name comes from the root, at this depth
pub data Leads (t : List ℕ) (from count : ℕ) (name : List ℕ) : ℕ → ℕ → Type 0 where
  leads_root : Leads t from count name 0 0
  leads_below : {node depth number : ℕ} → Leads t from count name node depth → number ≡ below (cell_of t (from + node)) (goes_right name depth) node count → 0 < number
      → Leads t from count name number (suc depth)

-- a name comes to an instance that has another, and none is below on its side
pub record Hangs (t : List ℕ) (from count : ℕ) (name : List ℕ) (node : ℕ) (right : Bool) : Type 0 where
  pub low : node < count
  pub depth : ℕ
  pub leads : Leads t from count name node depth
  pub side : right ≡ goes_right name depth
  pub none : below (cell_of t (from + node)) right node count ≡ 0

-- what a spot says of the body
pub record Finds (text t : List ℕ) (from count : ℕ) (name : List ℕ) (spot : Spot) : Type 0 where
  pub taken : spot.taken ≡ true → some_named text t from count name ≡ true
  pub free : spot.taken ≡ false → Linked text t from count → some_named text t from count name ≡ false
  pub hangs : spot.taken ≡ false → 0 < count → Hangs t from count name spot.node spot.right
