-- Laws of what is kept: each way through the code comes to its definition, and what is kept is what the text gives.
use mathlib.Core.Bool.{Bool, true, false}
use mathlib.Core.Path.{◌≡◌, refl, sym, ap, ◌∙◌}
use mathlib.Core.List.{List}
use Prim.Native.Nat.{ℕ, zero, suc, ◌+◌, ◌-◌, ◌/◌, ◌%◌, ◌<◌, ◌≤◌}
use native.Mathlib.Omega.{arith}
use native.Mathlib.Nat.{mod-lt}
use lib.Dec.{eqb, leb, ltb}
use lib.ListN.{length, set, length-set, get_or-eq_default}
use lib.Seq.{get_or-set_same, get_or-set_other}
use borrow.Author.Tests.{lt-ltb, le-ltb, ltb-true, ltb-false, le-leb, lt-leb, eqb-true, eqb-false, eq-eqb, ne_eqb}
use Rattle.std.specs.Prelude.{if◌then◌else◌, Result, Ok, Err}
use Rattle.basics.specs.Slices.{cell_of, written}
use Rattle.lex.specs.Token.{token_at}
use Rattle.lex.specs.declared.Token.{Token}
use Rattle.basics.specs.declared.Refusal.{Refusal}
use Rattle.parts.specs.Reading.{Parsed, ok, stop, parsed}
use Rattle.parts.specs.Parts.{instance_at}
use Rattle.parts.specs.declared.Instance.{Instance}
use Rattle.cells.specs.Cells.{entry_places, entries_at, first_in, count_in, place_in}
use Rattle.cells.specs.declared.Span.{Span}
use Rattle.sizes.specs.declared.Extent.{Extent}
use Rattle.recall.specs.Encoded.{instance_cells}
use Rattle.recall.specs.Shelves.{shelf_count, recall_size, shelf_at, Shelved}
use Rattle.recall.specs.Kept.{reach_of, shelf_of, is_surely_short, kept_one, kept_read, kept_at, each_from, kept_row, emptied_at, emptied, kept_long}
use Rattle.recall.proofs.Keeping.{ShapesStay, Shelving, stay_all, stay_more, shelf_put, keeps_none, keeps_more}

-- a text's share for a shelf, and the shelf of a place
pub reach_some : (bytes : ℕ) {r : ℕ} → r ≡ reach_of bytes → 1 ≤ r
unfolding reach_of
reach_some bytes e = omega (arith, e)

pub shelf_made : (bytes place : ℕ) {r : ℕ} → r ≡ reach_of bytes
    → (place / r % shelf_count ≡ shelf_of bytes place) × (place / r % shelf_count < shelf_count)
unfolding shelf_of
shelf_made bytes place {r} e = (ap (λ (n : ℕ). place / n % shelf_count) e, mod-lt (place / r) (omega arith))

-- whether an instance is surely short
near_same : (place next r : ℕ) → place < next → ltb (next - place) r ≡ ltb next (place + r)
near_same place next r h = by (ltb (next - place) r) refl
  where
    by : (b : Bool) → ltb (next - place) r ≡ b → b ≡ ltb next (place + r)
    by true e = sym (lt-ltb next (place + r) (omega (arith, ltb-true (next - place) r e)))
    by false e = sym (le-ltb next (place + r) (omega (arith, ltb-false (next - place) r e)))

module _ (bytes : ℕ) (t : List ℕ) (i : ℕ) where
  pub short_past : length t ≤ i → false ≡ is_surely_short bytes t i
  unfolding is_surely_short
  short_past h = rw (get_or-eq_default t 0 {n = i} h, get_or-eq_default t 0 {n = i + 1} (omega arith), le-ltb (place_in 0) (place_in 0) (omega arith))

  module _ {place next x : ℕ} (p : (place ≡ place_in (cell_of t i)) × (place < entry_places)) (y : x ≡ cell_of t (i + 1))
      (q : (next ≡ place_in x) × (next < entry_places)) where
    next_is : next ≡ place_in (cell_of t (i + 1))
    next_is = q.0 ∙ ap place_in y

    pub short_behind : next ≤ place → false ≡ is_surely_short bytes t i
    unfolding is_surely_short
    short_behind l = rw (← p.0, ← next_is, le-ltb place next l)

    pub short_near : {r : ℕ} → place < next → r ≡ reach_of bytes → ltb (next - place) r ≡ is_surely_short bytes t i
    unfolding is_surely_short
    short_near {r} l e = rw (← p.0, ← next_is, ← e, lt-ltb place next l) (near_same place next r l)

-- one instance
module _ (text s : List ℕ) (place : ℕ) (i : Instance) (next : ℕ) {k : Token} (e : k ≡ token_at text next) where
  end_is : k.start ≡ (token_at text next).start
  end_is = ap (λ (x : Token). x.start) e

  near : (token_at text next).start < place + reach_of (length text) → s ≡ kept_one text s place i next
  unfolding kept_one
  near h = rw (lt-leb (place + reach_of (length text)) (token_at text next).start h)

  pub one_behind : k.start ≤ place → s ≡ kept_one text s place i next
  one_behind h = near (omega (arith, h, end_is, reach_some (length text) refl))

  module _ {r : ℕ} (h : place < k.start) (f : r ≡ reach_of (length text)) where
    pub one_short : k.start - place < r → s ≡ kept_one text s place i next
    one_short l = near (omega (arith, h, l, f, end_is))

    pub one_long : {x at : ℕ} {t u : List ℕ} → r ≤ k.start - place → (x ≡ shelf_of (length text) place) × (x < shelf_count) → at ≡ shelf_at x
        → t ≡ set s at (place + 1) → u ≡ written t (at + 1) (instance_cells i) → u ≡ kept_one text s place i next
    unfolding kept_one
    one_long l p q e1 e2 =
        rw (le-leb (place + reach_of (length text)) (token_at text next).start (omega (arith, h, l, f, end_is)), e2, e1, q, p.0)

-- the instance of a cell
module _ (text t s : List ℕ) (i : ℕ) {b : Bool} (e : b ≡ is_surely_short (length text) t i) where
  pub at_short : b ≡ true → s ≡ kept_at text t s i
  unfolding kept_at
  at_short h = rw (sym e ∙ h)

  module _ {x place : ℕ} (h : b ≡ false) (f : x ≡ cell_of t i) (p : (place ≡ place_in x) × (place < entry_places)) where
    place_is : place ≡ place_in (cell_of t i)
    place_is = p.0 ∙ ap place_in f

    kept_as : {z : Parsed Instance} → z ≡ instance_at text place → kept_at text t s i ≡ kept_read text s place z
    unfolding kept_at
    kept_as g = rw (sym e ∙ h, ← place_is, g)

    module _ {y : Result (Instance × ℕ) Refusal} (g : parsed y ≡ instance_at text place) where
      pub at_read : {instance : Instance} {next : ℕ} {u : List ℕ} → y ≡ Ok (instance, next) → u ≡ kept_one text s place instance next
          → u ≡ kept_at text t s i
      at_read q r = r ∙ sym (kept_as (ap parsed (sym q) ∙ g))

      pub at_refused : {r : Refusal} → y ≡ Err r → s ≡ kept_at text t s i
      at_refused q = sym (kept_as (ap parsed (sym q) ∙ g))

-- one after another: what is left to do from here comes to the same as all of it
pub record Left (f : List ℕ → ℕ → List ℕ) (s u : List ℕ) (from i to : ℕ) : Type 0 where
  pub low : i ≤ to
  pub even : length u ≡ length s
  pub same : each_from f u i (to - i) ≡ each_from f s from (to - from)

module _ (f : List ℕ → ℕ → List ℕ) where
  each_none : (u : List ℕ) (i : ℕ) → each_from f u i 0 ≡ u
  unfolding each_from
  each_none u i = refl

  each_next : (u : List ℕ) (i n : ℕ) → each_from f u i (suc n) ≡ each_from f (f u i) (i + 1) n
  unfolding each_from
  each_next u i n = refl

  pub left_start : (s : List ℕ) (from to : ℕ) → from ≤ to → Left f s s from from to
  left_start s from to h = record { low = h; even = refl; same = refl }

  module _ {s u : List ℕ} {from i to : ℕ} (c : Left f s u from i to) where
    pub left_next : {v : List ℕ} → i < to → v ≡ f u i → length v ≡ length u → Left f s v from (i + 1) to
    left_next h e l =
        let n : to - i ≡ suc (to - (i + 1)) = omega arith in
        record { low = omega arith; even = l ∙ c.even; same = rw (e, ← each_next u i (to - (i + 1)), ← n) c.same }

    left_done : to ≤ i → u ≡ each_from f s from (to - from)
    left_done h = let n : to - i ≡ 0 = omega arith in sym (each_none u i) ∙ ap (each_from f u i) (sym n) ∙ c.same

-- a definition's instances
module _ (text t s : List ℕ) (row : ℕ) {x : Span} (p : (x.from ≡ entries_at + first_in t row) × (x.to ≡ x.from + count_in t row)) where
  pub cells_start : Left (kept_at text t) s s (entries_at + first_in t row) x.from x.to
  cells_start = rw (← p.0) (left_start (kept_at text t) s x.from x.to (omega (arith, p.1)))

  pub cells_end : (map : ℕ) {u : List ℕ} {i : ℕ} → (row ≡ map → ⊥) → Left (kept_at text t) s u (entries_at + first_in t row) i x.to → x.to ≤ i
      → u ≡ kept_row text t map s row
  unfolding kept_row
  cells_end map e c h =
      let n : x.to - (entries_at + first_in t row) ≡ count_in t row = omega (arith, p.0, p.1) in
      rw (ne_eqb row map e, ← n) (left_done (kept_at text t) c h)

pub cells_none : (text t s : List ℕ) (map row : ℕ) → row ≡ map → s ≡ kept_row text t map s row
unfolding kept_row
cells_none text t s map row e = rw (eq-eqb row map e)

-- all definitions
module _ (text t : List ℕ) (e : Extent) where
  pub rows_start : (s : List ℕ) → Left (kept_row text t e.map) s s 0 0 e.rows
  rows_start s = left_start (kept_row text t e.map) s 0 e.rows (omega arith)

  pub rows_end_lem : (s : List ℕ) {v u : List ℕ} {row : ℕ} → v ≡ emptied s → Left (kept_row text t e.map) v u 0 row e.rows → e.rows ≤ row
      → u ≡ kept_long text t s e
  unfolding kept_long
  rows_end_lem s {v} f c h =
      let n : e.rows - 0 ≡ e.rows = omega arith in
      left_done (kept_row text t e.map) c h ∙ ap (each_from (kept_row text t e.map) v 0) n ∙ ap (λ (w : List ℕ). each_from (kept_row text t e.map) w 0 e.rows) f

-- the shelves that are emptied
pub shelves_start : (s : List ℕ) → Left emptied_at s s 0 0 shelf_count
shelves_start s = left_start emptied_at s 0 shelf_count (omega arith)

module _ {s u : List ℕ} {shelf : ℕ} (c : Left emptied_at s u 0 shelf shelf_count) where
  pub shelves_next : {at : ℕ} {v : List ℕ} → shelf < shelf_count → at ≡ shelf_at shelf → v ≡ set u at 0 → length v ≡ length u
      → Left emptied_at s v 0 (shelf + 1) shelf_count
  unfolding emptied_at
  shelves_next h p q l = left_next emptied_at c h (q ∙ ap (λ (k : ℕ). set u k 0) p) l

  pub shelves_end : shelf_count ≤ shelf → u ≡ emptied s
  shelves_end h = left_done emptied_at c h

-- empty shelves: the shapes stay, and no shelf holds a place
emptied_stay : (s : List ℕ) (shelf count : ℕ) → ShapesStay s (each_from emptied_at s shelf count)
unfolding each_from emptied_at
emptied_stay s shelf zero = stay_all s
emptied_stay s shelf (suc count) =
    stay_more
    (record { same = length-set s (shelf_at shelf) 0; cells = λ j l. get_or-set_other s (shelf_at shelf) j 0 0 (λ z. omega arith) })
    (emptied_stay (set s (shelf_at shelf) 0) (shelf + 1) count)

emptied_before : (s : List ℕ) (shelf count k : ℕ) → k < shelf → cell_of (each_from emptied_at s shelf count) (shelf_at k) ≡ cell_of s (shelf_at k)
unfolding each_from emptied_at
emptied_before s shelf zero k h = refl
emptied_before s shelf (suc count) k h =
    emptied_before (set s (shelf_at shelf) 0) (shelf + 1) count k (omega arith)
    ∙ get_or-set_other s (shelf_at shelf) (shelf_at k) 0 0 (λ z. omega arith)

emptied_at_lem : (s : List ℕ) (shelf count k : ℕ) → recall_size ≤ length s → shelf + count ≤ shelf_count → shelf ≤ k → k < shelf + count
    → cell_of (each_from emptied_at s shelf count) (shelf_at k) ≡ 0
unfolding each_from emptied_at
emptied_at_lem s shelf zero k l m a b = absurd (omega arith)
emptied_at_lem s shelf (suc count) k l m a b =
    by (eqb shelf k) refl
    (λ n. emptied_at_lem (set s (shelf_at shelf) 0) (shelf + 1) count k (rw (length-set s (shelf_at shelf) 0) l) (omega arith) n (omega arith))
  where
    by : (c : Bool) → eqb shelf k ≡ c → (shelf + 1 ≤ k → cell_of (each_from emptied_at (set s (shelf_at shelf) 0) (shelf + 1) count) (shelf_at k) ≡ 0)
        → cell_of (each_from emptied_at (set s (shelf_at shelf) 0) (shelf + 1) count) (shelf_at k) ≡ 0
    by true x later =
        let w : k ≡ shelf = omega (arith, eqb-true shelf k x) in
        emptied_before (set s (shelf_at shelf) 0) (shelf + 1) count k (omega arith)
        ∙ rw w (get_or-set_same s (shelf_at shelf) 0 0 (omega arith))
    by false x later = let w : shelf ≡ k → ⊥ = eqb-false shelf k x in later (omega arith)

emptied_all : (s : List ℕ) (k : ℕ) → recall_size ≤ length s → k < shelf_count → cell_of (emptied s) (shelf_at k) ≡ 0
emptied_all s k l m = emptied_at_lem s 0 shelf_count k l (omega arith) (omega arith) (omega arith)

emptied_kept : (text s : List ℕ) → recall_size ≤ length s → Shelving text s (emptied s)
emptied_kept text s l =
    record {
      shelved = record { each = λ k place m e. absurd (omega (arith, emptied_all s k l m, e)) };
      stay = emptied_stay s 0 shelf_count;
    }

-- what is kept is what the text gives
shelf_low : (bytes place : ℕ) → shelf_of bytes place < shelf_count
unfolding shelf_of
shelf_low bytes place = mod-lt (place / reach_of bytes) (omega arith)

one_kept : (text s : List ℕ) (place : ℕ) (i : Instance) (next : ℕ) → Shelved text s → recall_size ≤ length s
    → instance_at text place ≡ ok i next → Shelving text s (kept_one text s place i next)
unfolding kept_one
one_kept text s place i next h l r =
    by (leb (place + reach_of (length text)) (token_at text next).start)
    (shelf_put text s (shelf_of (length text) place) place i h l (shelf_low (length text) place) refl refl refl r)
  where
    by : {u : List ℕ} (b : Bool) → Shelving text s u → Shelving text s (if b then u else s)
    by true k = k
    by false k = keeps_none text s h

at_kept : (text t s : List ℕ) (i : ℕ) → Shelved text s → recall_size ≤ length s → Shelving text s (kept_at text t s i)
unfolding kept_at
at_kept text t s i h l = by (is_surely_short (length text) t i)
  where
    read : (x : Parsed Instance) → instance_at text (place_in (cell_of t i)) ≡ x → Shelving text s (kept_read text s (place_in (cell_of t i)) x)
    read (ok y next) e = one_kept text s (place_in (cell_of t i)) y next h l e
    read (stop n p) e = keeps_none text s h

    by : (b : Bool) → Shelving text s (if b then s else kept_read text s (place_in (cell_of t i)) (instance_at text (place_in (cell_of t i))))
    by true = keeps_none text s h
    by false = read (instance_at text (place_in (cell_of t i))) refl

each_kept : (text : List ℕ) (f : List ℕ → ℕ → List ℕ) → ((s : List ℕ) (i : ℕ) → Shelved text s → recall_size ≤ length s → Shelving text s (f s i))
    → (s : List ℕ) (i count : ℕ) → Shelved text s → recall_size ≤ length s → Shelving text s (each_from f s i count)
unfolding each_from
each_kept text f one s i zero h l = keeps_none text s h
each_kept text f one s i (suc count) h l =
    let k = one s i h l in
    keeps_more k (each_kept text f one (f s i) (i + 1) count k.shelved (omega (arith, k.stay.same, l)))

row_kept : (text t : List ℕ) (map : ℕ) (s : List ℕ) (row : ℕ) → Shelved text s → recall_size ≤ length s → Shelving text s (kept_row text t map s row)
unfolding kept_row
row_kept text t map s row h l = by (eqb row map)
  where
    by : (b : Bool) → Shelving text s (if b then s else each_from (kept_at text t) s (entries_at + first_in t row) (count_in t row))
    by true = keeps_none text s h
    by false = each_kept text (kept_at text t) (at_kept text t) s (entries_at + first_in t row) (count_in t row) h l

pub long_kept : (text t s : List ℕ) (e : Extent) → recall_size ≤ length s → Shelving text s (kept_long text t s e)
unfolding kept_long
long_kept text t s e l =
    let k = emptied_kept text s l in
    keeps_more k (each_kept text (kept_row text t e.map) (row_kept text t e.map) (emptied s) 0 e.rows k.shelved (omega (arith, k.stay.same, l)))
