-- Laws of the shelves: what is kept is what the text gives, and the shapes stay.
use mathlib.Core.Bool.{Bool, true, false}
use mathlib.Core.Path.{◌≡◌, refl, sym, ap, ◌∙◌}
use mathlib.Core.List.{List, ◌∷◌}
use Prim.Native.Nat.{ℕ, suc, ◌+◌, ◌-◌, ◌*◌, ◌<◌, ◌≤◌}
use native.Mathlib.Omega.{arith}
use lib.Dec.{eqb, ltb}
use lib.ListN.{length, set, get_or}
use borrow.Author.Tests.{eqb-true, eqb-false, ltb-true, ltb-false, eq-eqb, ne_eqb}
use Rattle.basics.specs.Limits.{definition_limit}
use Rattle.basics.specs.Slices.{cell_of, written}
use Rattle.parts.specs.Reading.{ok}
use Rattle.parts.specs.Parts.{instance_at}
use Rattle.parts.specs.declared.Instance.{Instance}
use Rattle.cells.specs.Cells.{place_in, row_in}
use Rattle.cells.specs.Decoded.{child_in}
use Rattle.cells.proofs.Laws.{written-length, written_other, written_same}
use Rattle.layout.specs.declared.Shape.{Shape}
use Rattle.sizes.specs.Shapes.{shapes_size, shape_width, shape_in, ShapesIn}
use Rattle.recall.specs.Encoded.{instance_cells, instance_in}
use Rattle.recall.specs.Shelves.{shelf_count, shelf_width, recall_size, shelf_at, GivenAt, Shelved}
use Rattle.recall.proofs.Encoding.{instance_back, cells_count, instance_same}
use Rattle.basics.specs.Judged.{fine}

-- the shapes stay, and the length
pub record ShapesStay (s u : List ℕ) : Type 0 where
  pub same : length u ≡ length s
  pub cells : (j : ℕ) → j < shapes_size → cell_of u j ≡ cell_of s j

-- what a pass that keeps instances leaves
pub record Shelving (text s u : List ℕ) : Type 0 where
  pub shelved : Shelved text u
  pub stay : ShapesStay s u

-- whether a shelf holds a place
module _ (s : List ℕ) (at place : ℕ) {key : ℕ} (e : key ≡ cell_of s at) where
  pub shelf_empty : key ≡ 0 → false ≡ eqb (cell_of s at) (place + 1)
  shelf_empty z = sym (ne_eqb (cell_of s at) (place + 1) (λ f. omega arith))

  pub shelf_full : (key ≡ 0 → ⊥) → eqb (key - 1) place ≡ eqb (cell_of s at) (place + 1)
  shelf_full n = by (eqb (key - 1) place) refl
    where
      by : (b : Bool) → eqb (key - 1) place ≡ b → b ≡ eqb (cell_of s at) (place + 1)
      by true x = sym (eq-eqb (cell_of s at) (place + 1) (omega (arith, eqb-true (key - 1) place x)))
      by false x = sym (ne_eqb (cell_of s at) (place + 1) (λ f. eqb-false (key - 1) place x (omega arith)))

-- the shapes stay
pub stay_all : (s : List ℕ) → ShapesStay s s
stay_all s = record { same = refl; cells = λ j l. refl }

pub stay_more : {s t u : List ℕ} → ShapesStay s t → ShapesStay t u → ShapesStay s u
stay_more a b = record { same = b.same ∙ a.same; cells = λ j l. b.cells j l ∙ a.cells j l }

shape_stays : (s u : List ℕ) (r : ℕ) → ShapesStay s u → r < definition_limit → shape_in u r ≡ shape_in s r
unfolding shape_in
shape_stays s u r h l = rw (h.cells (r * shape_width) (omega arith), h.cells (r * shape_width + 1) (omega arith))

pub shapes_stay : {s u : List ℕ} {rows : ℕ} {shapes : List Shape} → rows ≤ definition_limit → ShapesStay s u → ShapesIn s rows shapes
    → ShapesIn u rows shapes
shapes_stay {s} {u} l h i = record { count = i.count; each = λ r m. shape_stays s u r h (omega arith) ∙ i.each r m }

-- an instance from its shelf
pub shelf_child : (text t s : List ℕ) (i : ℕ) {x place k at row : ℕ} {b : Bool} {y : Instance} → Shelved text s → x ≡ cell_of t i
    → place ≡ place_in x → k < shelf_count → at ≡ shelf_at k → b ≡ eqb (cell_of s at) (place + 1) → b ≡ true
    → (row ≡ row_in x) × (row < definition_limit)
    → y ≡ instance_in s (at + 1) → fine (row, y) ≡ child_in text (cell_of t i)
unfolding child_in
shelf_child text t s i {x} {place} {k} {at} {row} {b} {y} h e1 e2 l e3 e4 e5 (e6, m) e7 =
    let held : cell_of s (shelf_at k) ≡ place + 1 = rw e3 at (eqb-true (cell_of s at) (place + 1) (sym e4 ∙ e5)) in
    let g : GivenAt text place (instance_in s (shelf_at k + 1)) = h.each k place l held in
    let same : y ≡ instance_in s (shelf_at k + 1) = e7 ∙ ap (λ (n : ℕ). instance_in s (n + 1)) e3 in
    rw (← e1, ← e2, g.reads, e6, same)

-- an instance put on its shelf
module _ (text s : List ℕ) (k place : ℕ) (i : Instance) {next at : ℕ} {t u : List ℕ} (h : Shelved text s) (long : recall_size ≤ length s)
    (l : k < shelf_count) (e : at ≡ shelf_at k) (p : t ≡ set s at (place + 1)) (q : u ≡ written t (at + 1) (instance_cells i))
    (r : instance_at text place ≡ ok i next) where
  abbrev slab : List ℕ
  slab = (place + 1) ∷ instance_cells i

  slab_count : length slab ≡ shelf_width
  slab_count = let z = cells_count i in omega arith

  whole : u ≡ written s (shelf_at k) slab
  unfolding written
  whole = rw (q, p, e)

  cell_other : (j : ℕ) → (shelf_at k ≤ j → shelf_at k + shelf_width ≤ j) → cell_of u j ≡ cell_of s j
  cell_other j f = rw whole (written_other s (shelf_at k) slab j (λ m. let z = slab_count in let w = f m in omega arith))

  cell_own : (j : ℕ) → j < shelf_width → cell_of u (shelf_at k + j) ≡ get_or slab j 0
  cell_own j m = rw whole (written_same s (shelf_at k) slab j (let z = slab_count in omega arith) (let z = slab_count in omega arith))

  own_place : {other : ℕ} → cell_of u (shelf_at k) ≡ other + 1 → other ≡ place
  own_place f =
      let n : shelf_at k + 0 ≡ shelf_at k = omega arith in
      let z : cell_of u (shelf_at k) ≡ place + 1 = rw n at (cell_own 0 (omega arith)) in
      omega arith

  own_instance : instance_in u (shelf_at k + 1) ≡ i
  own_instance =
      instance_same u (instance_cells i) (shelf_at k + 1) 0
      (λ j m.
      let n : shelf_at k + 1 + j ≡ shelf_at k + suc j = omega arith in
      let z : 0 + j ≡ j = omega arith in
      rw (n, z) (cell_own (suc j) (omega arith)))
      ∙ instance_back i

  own_given : {other : ℕ} → cell_of u (shelf_at k) ≡ other + 1 → GivenAt text other (instance_in u (shelf_at k + 1))
  own_given f = record { next = next; reads = rw (own_place f, own_instance) r }

  other_given : (m other : ℕ) → m < shelf_count → ((j : ℕ) → j < shelf_width → shelf_at k ≤ shelf_at m + j → shelf_at k + shelf_width ≤ shelf_at m + j)
      → cell_of u (shelf_at m) ≡ other + 1 → GivenAt text other (instance_in u (shelf_at m + 1))
  other_given m other n apart f =
      let z : shelf_at m + 0 ≡ shelf_at m = omega arith in
      let first : cell_of u (shelf_at m) ≡ cell_of s (shelf_at m) = rw z at (cell_other (shelf_at m + 0) (apart 0 (omega arith))) in
      let g : GivenAt text other (instance_in s (shelf_at m + 1)) = h.each m other n (sym first ∙ f) in
      let same : instance_in u (shelf_at m + 1) ≡ instance_in s (shelf_at m + 1) =
      instance_same u s (shelf_at m + 1) (shelf_at m + 1)
      (λ j w.
      let y : shelf_at m + 1 + j ≡ shelf_at m + (1 + j) = omega arith in
      rw y (cell_other (shelf_at m + (1 + j)) (apart (1 + j) (omega arith)))) in
      rw same g

  each_given : (m other : ℕ) → m < shelf_count → cell_of u (shelf_at m) ≡ other + 1 → GivenAt text other (instance_in u (shelf_at m + 1))
  each_given m other n = by (ltb m k) (ltb k m) refl refl
    where
      by : (a b : Bool) → ltb m k ≡ a → ltb k m ≡ b → cell_of u (shelf_at m) ≡ other + 1 → GivenAt text other (instance_in u (shelf_at m + 1))
      by true b x y = let w : m < k = ltb-true m k x in other_given m other n (λ j c d. omega arith)
      by false true x y = let w : k < m = ltb-true k m y in other_given m other n (λ j c d. omega arith)
      by false false x y = let w : m ≡ k = omega (arith, ltb-false m k x, ltb-false k m y) in rw w (λ f. own_given f)

  pub shelf_put : Shelving text s u
  shelf_put =
      record {
        shelved = record { each = λ m other n f. each_given m other n f };
        stay = record { same = rw whole (written-length s (shelf_at k) slab); cells = λ j m. cell_other j (λ w. absurd (omega arith)) };
      }

-- nothing kept, and one pass after another
pub keeps_none : (text s : List ℕ) → Shelved text s → Shelving text s s
keeps_none text s h = record { shelved = h; stay = stay_all s }

pub keeps_more : {text s t u : List ℕ} → Shelving text s t → Shelving text t u → Shelving text s u
keeps_more a b = record { shelved = b.shelved; stay = stay_more a.stay b.stay }
