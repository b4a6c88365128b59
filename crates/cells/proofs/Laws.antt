-- Laws of the cells, in the form that the proofs use.
use mathlib.Core.Bool.{Bool, true, false}
use mathlib.Core.Path.{◌≡◌, refl, sym, ap, ◌∙◌}
use mathlib.Core.List.{List, [], ◌∷◌}
use Prim.Native.Nat.{ℕ, zero, suc, ◌+◌, ◌-◌, ◌*◌, ◌<◌, ◌≤◌}
use native.Mathlib.Omega.{arith}
use lib.ListN.{length, set, get_or, length-set}
use lib.Seq.{get_or-set_same, get_or-set_other}
use lib.Dec.{ltb}
use borrow.Author.Tests.{lt-ltb, le-ltb, ltb-true, ltb-false}
use Rattle.std.specs.Prelude.{if◌then◌else◌, Option, Some, None}
use Rattle.basics.specs.Limits.{definition_limit}
use Rattle.parts.specs.Reading.{Parsed, ok, stop as refused}
use Rattle.parts.specs.Parts.{instance_at}
use Rattle.parts.specs.declared.Name.{Name}
use Rattle.parts.specs.declared.Instance.{Instance}
use Rattle.identifiers.specs.Names.{same_name}
use Rattle.components.specs.declared.Component.{Component}
use Rattle.components.specs.declared.Component.TheVariants as component
use Rattle.basics.specs.Slices.{cell_of, written}
use Rattle.basics.specs.Given.{given_from, flag_of, number_of}
use Rattle.cells.specs.Cells.{entry_places, component_from, values_of, name_in, below_in, link_bound, entry_of, place_in, row_in, left_in, right_in, moved}
use Rattle.cells.specs.Definitions.{Child, VisibleType, lookup}
use Rattle.cells.specs.Decoded.{types_from, types_in, child_read, child_in}
use Rattle.cells.specs.Relation.{IsEntry, Chain, chain_stop, chain_on}
use Rattle.basics.specs.Judged.{Judged, fine}

-- an instance in a cell
module _ (p r l q : ℕ) (h : p < entry_places) (k : r < definition_limit) where
  pub entry_place : place_in (entry_of p r l q) ≡ p
  unfolding place_in entry_of
  entry_place = omega arith

  pub entry_row : row_in (entry_of p r l q) ≡ r
  unfolding row_in entry_of
  entry_row = omega arith

  module _ (m : l < link_bound) where
    pub entry_left : left_in (entry_of p r l q) ≡ l
    unfolding left_in entry_of
    entry_left = omega arith

    pub entry_right : right_in (entry_of p r l q) ≡ q
    unfolding right_in entry_of
    entry_right = omega arith

pub place_low : (x : ℕ) → place_in x < entry_places
unfolding place_in
place_low x = omega arith

pub row_low : (x : ℕ) → row_in x < definition_limit
unfolding row_in
row_low x = omega arith

-- the instance of a cell
module _ (text : List ℕ) (x : ℕ) where
  -- a cell that holds an instance gives it
  pub child_entry : {c : Child} → IsEntry text x c → child_in text x ≡ fine (c.type, c.instance)
  unfolding child_in
  child_entry k = rw (k.reads, k.type)

  module _ {y : Judged (ℕ × Instance)} (a : y ≡ child_in text x) where
    pub child_low : {row : ℕ} {i : Instance} → y ≡ fine (row, i) → row < definition_limit
    unfolding child_in
    child_low {row} {i} b = by (instance_at text (place_in x)) (sym b ∙ a)
      where
        by : (r : Parsed Instance) → fine (row, i) ≡ child_read (row_in x) r → row < definition_limit
        by (ok j n) e =
            let p : ◌≡◌ {A = ℕ × Instance} (row, i) (row_in x, j) = cc in
            let z : row ≡ row_in x = ap (λ (q : ℕ × Instance). q.0) p in
            rw z (row_low x)
        by (refused n q) e = cc

-- a component in cells
given_back : (g : Option ℕ) → given_from (flag_of g) (number_of g) ≡ g
given_back None = refl
given_back (Some n) = refl

pub values_component : (c : Component) → component_from (values_of c) ≡ c
unfolding component_from
values_component (component.Field f) = rw (given_back f.reset)
values_component (component.Register r) = refl
values_component (component.Regfile l) = rw (given_back l)
values_component (component.Addrmap l m) = rw (given_back l, given_back m)

-- the type declared before
below_low : (t : List ℕ) (row : ℕ) → below_in t row ≤ row
unfolding below_in
below_low t row = by (ltb row (cell_of t (row * 16 + 11))) refl
  where
    by : (b : Bool) → ltb row (cell_of t (row * 16 + 11)) ≡ b → (if b then row else cell_of t (row * 16 + 11)) ≤ row
    by true q = omega arith
    by false q = ltb-false row (cell_of t (row * 16 + 11)) q

-- cells in a row, written
pub written-length : (t : List ℕ) (i : ℕ) (xs : List ℕ) → length (written t i xs) ≡ length t
unfolding written
written-length t i [] = refl
written-length t i (x ∷ xs) = written-length (set t i x) (i + 1) xs ∙ length-set t i x

pub written_other : (t : List ℕ) (i : ℕ) (xs : List ℕ) (j : ℕ) → (i ≤ j → i + length xs ≤ j) → cell_of (written t i xs) j ≡ cell_of t j
unfolding written
written_other t i [] j h = refl
written_other t i (x ∷ xs) j h =
    written_other (set t i x) (i + 1) xs j (λ l. let w : i + suc (length xs) ≤ j = h (omega arith) in omega arith)
    ∙ get_or-set_other t i j x 0 (λ e. let w : i + suc (length xs) ≤ j = h (omega arith) in omega arith)

pub written_same : (t : List ℕ) (i : ℕ) (xs : List ℕ) (k : ℕ) → i + length xs ≤ length t → k < length xs → cell_of (written t i xs) (i + k) ≡ get_or xs k 0
unfolding written
written_same t i [] k h l = absurd (omega arith)
written_same t i (x ∷ xs) zero h l =
    let n : i + 0 ≡ i = omega arith in
    rw n (written_other (set t i x) (i + 1) xs i (λ m. absurd (omega arith)) ∙ get_or-set_same t i x 0 (omega arith))
written_same t i (x ∷ xs) (suc k) h l =
    let n : i + suc k ≡ i + 1 + k = omega arith in
    let m : i + 1 + length xs ≤ length (set t i x) = rw (length-set t i x) (omega arith) in
    rw n (written_same (set t i x) (i + 1) xs k m (omega arith))

-- cells moved
pub moved_length : (t : List ℕ) (from to count : ℕ) → length (moved t from to count) ≡ length t
unfolding moved
moved_length t from to zero = refl
moved_length t from to (suc count) =
    let x : ℕ = cell_of t (from + count) in
    moved_length (set t (to + count) x) from to count ∙ length-set t (to + count) x

pub moved_other : (t : List ℕ) (from to count j : ℕ) → (to ≤ j → to + count ≤ j) → cell_of (moved t from to count) j ≡ cell_of t j
unfolding moved
moved_other t from to zero j h = refl
moved_other t from to (suc count) j h =
    let x : ℕ = cell_of t (from + count) in
    moved_other (set t (to + count) x) from to count j (λ l. let w : to + suc count ≤ j = h l in omega arith)
    ∙ get_or-set_other t (to + count) j x 0 (λ e. let w : to + suc count ≤ j = h (omega arith) in omega arith)

pub moved_same : (t : List ℕ) (from to count k : ℕ) → from ≤ to → to + count ≤ length t → k < count → cell_of (moved t from to count) (to + k) ≡ cell_of t (from + k)
unfolding moved
moved_same t from to zero k h l m = absurd (omega arith)
moved_same t from to (suc count) k h l m =
    by (ltb k count) refl (λ n. moved_same (set t (to + count) (cell_of t (from + count))) from to count k h (rw (length-set t (to + count) (cell_of t (from + count))) (omega arith)) n)
  where
    by : (b : Bool) → ltb k count ≡ b → (k < count → cell_of (moved (set t (to + count) (cell_of t (from + count))) from to count) (to + k) ≡ cell_of (set t (to + count) (cell_of t (from + count))) (from + k))
        → cell_of (moved (set t (to + count) (cell_of t (from + count))) from to count) (to + k) ≡ cell_of t (from + k)
    by true q earlier =
        let n : k < count = ltb-true k count q in
        earlier n ∙ get_or-set_other t (to + count) (from + k) (cell_of t (from + count)) 0 (λ e. omega (arith, n))
    by false q earlier =
        let n : k ≡ count = omega (arith, m, ltb-false k count q) in
        rw n (moved_other (set t (to + count) (cell_of t (from + count))) from to count (to + count) (λ l. omega arith)
        ∙ get_or-set_same t (to + count) (cell_of t (from + count)) 0 (omega (arith, l)))

-- the types that a chain has are those that the cells decode to
pub chain_types : (fuel : ℕ) {t : List ℕ} {stop head : ℕ} {es : List VisibleType} → head ≤ fuel → Chain t stop head es → types_from fuel t stop head ≡ es
unfolding types_from
chain_types zero l chain_stop = refl
chain_types (suc fuel) {stop = stop} l chain_stop = rw (le-ltb stop stop (omega arith))
chain_types zero l (chain_on h n b c) = absurd (omega arith)
chain_types (suc fuel) {t = t} {stop = stop} l (chain_on {e = e} h n b c) =
    let m : suc e.row - 1 ≡ e.row = omega arith in
    rw (lt-ltb stop (suc e.row) (omega arith), m, chain_types fuel {t = t} (omega (arith, l, below_low t e.row)) c, n)

-- a name means a type of a row below
pub type_low : (fuel : ℕ) (text t : List ℕ) (stop head : ℕ) (name : Name) {d : ℕ} → lookup text name (types_from fuel t stop head) ≡ Some d → d < head
unfolding types_from lookup
type_low zero text t stop head name e = cc
type_low (suc fuel) text t stop head name {d} e = by (ltb stop head) refl (λ x. type_low fuel text t stop (below_in t (head - 1)) name x) e
  where
    named : (c : Bool) {x : Option ℕ} → stop < head → (x ≡ Some d → d < below_in t (head - 1)) → (if c then Some (head - 1) else x) ≡ Some d → d < head
    named true h l e = let z : head - 1 ≡ d = cc in omega arith
    named false h l e = omega (arith, l e, below_low t (head - 1))

    by : (b : Bool) → ltb stop head ≡ b → (lookup text name (types_from fuel t stop (below_in t (head - 1))) ≡ Some d → d < below_in t (head - 1))
        → lookup text name (if b then record { name = name_in t (head - 1); row = head - 1 } ∷ types_from fuel t stop (below_in t (head - 1)) else []) ≡ Some d → d < head
    by true q l e = named (same_name text name (name_in t (head - 1))) (ltb-true stop head q) l e
    by false q l e = cc

-- what a name means among the types that are left to look at is what it means among all
pub record Seeking (text t : List ℕ) (head stop : ℕ) (name : Name) (at : ℕ) : Type 0 where
  pub low : at ≤ definition_limit
  pub fuel : ℕ
  pub enough : at ≤ fuel
  pub same : lookup text name (types_from fuel t stop at) ≡ lookup text name (types_in t stop head)

module _ (text t : List ℕ) (stop : ℕ) (name : Name) where
  types_end : (fuel : ℕ) {at : ℕ} {x : Option ℕ} → at ≤ stop → lookup text name (types_from fuel t stop at) ≡ x → None ≡ x
  unfolding lookup types_from
  types_end zero h e = e
  types_end (suc fuel) {at} h e = rw (le-ltb stop at h) at e

  types_here : (fuel : ℕ) {at : ℕ} {x : Option ℕ} → at ≤ fuel → stop < at → same_name text name (name_in t (at - 1)) ≡ true → lookup text name (types_from fuel t stop at) ≡ x → Some (at - 1) ≡ x
  unfolding lookup types_from
  types_here zero l h s e = absurd (omega arith)
  types_here (suc fuel) {at} l h s e = rw (lt-ltb stop at h, s) at e

  types_next : (fuel : ℕ) {at : ℕ} {x : Option ℕ} → at ≤ fuel → stop < at → same_name text name (name_in t (at - 1)) ≡ false → lookup text name (types_from fuel t stop at) ≡ x
      → lookup text name (types_from (fuel - 1) t stop (below_in t (at - 1))) ≡ x
  unfolding lookup types_from
  types_next zero l h s e = absurd (omega arith)
  types_next (suc fuel) {at} l h s e = let n : suc fuel - 1 ≡ fuel = omega arith in rw n (rw (lt-ltb stop at h, s) at e)

  module _ (head : ℕ) where
    pub seek_start : head ≤ definition_limit → Seeking text t head stop name head
    seek_start h = record { low = h; fuel = head; enough = omega arith; same = refl }

    module _ {at : ℕ} (s : Seeking text t head stop name at) where
      pub seek_end : at ≤ stop → None ≡ lookup text name (types_in t stop head)
      seek_end h = types_end s.fuel h s.same

      module _ {row : ℕ} {other : Name} {b : Bool} (h : stop < at) (e : row ≡ at - 1) (f : other ≡ name_in t row) (g : b ≡ same_name text name other) where
        same_here : same_name text name (name_in t (at - 1)) ≡ b
        same_here = rw (← e, ← f) (sym g)

        pub seek_here : b ≡ true → Some row ≡ lookup text name (types_in t stop head)
        seek_here y = rw e (types_here s.fuel s.enough h (same_here ∙ y) s.same)

        pub seek_on : {below : ℕ} → b ≡ false → (below ≡ below_in t row) × (below ≤ row) → Seeking text t head stop name below
        seek_on y z =
            let l = s.low in
            let m = s.enough in
            record { low = omega (arith, z.1); fuel = s.fuel - 1; enough = omega (arith, z.1); same = rw (z.0, e) (types_next s.fuel m h (same_here ∙ y) s.same) }
