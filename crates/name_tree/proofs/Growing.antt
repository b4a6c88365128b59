-- The tree with one instance more: every name of the body is still met from the root, and so is the new one.
use mathlib.Core.Bool.{Bool, true, false}
use mathlib.Core.Path.{◌≡◌, refl, sym, ap, ◌∙◌}
use mathlib.Core.List.{List}
use Prim.Native.Nat.{ℕ, zero, suc, ◌+◌, ◌<◌, ◌≤◌}
use native.Mathlib.Omega.{arith}
use lib.Dec.{ltb, eqb}
use lib.ListN.{length, set, length-set}
use lib.Seq.{get_or-set_same, get_or-set_other}
use borrow.Author.Tests.{ltb-true, ltb-false, lt-ltb, eqb-true, eqb-false}
use Rattle.std.specs.Prelude.{if◌then◌else◌}
use Rattle.basics.specs.Slices.{cell_of}
use Rattle.cells.specs.Cells.{link_bound, entry_of, place_in, row_in, left_in, right_in}
use Rattle.cells.proofs.Laws.{entry_place, entry_row, entry_left, entry_right, place_low, row_low}
use Rattle.name_tree.specs.declared.Spot.{Spot}
use Rattle.name_tree.specs.Tree.{goes_right, is_entry_named, link_in, below, Meets, meets_here, meets-below, Linked, with_link, linked, grown}
use Rattle.name_tree.proofs.Found.{Leads, leads_root, leads_below, Hangs}
use Rattle.name_tree.proofs.Laws.{below_at, below-some}

left_low : (x : ℕ) → left_in x < link_bound
unfolding left_in
left_low x = omega arith

-- a link made changes that link alone
module _ (number x : ℕ) (h : number < link_bound) where
  pub with_place : (right : Bool) → place_in (with_link right number x) ≡ place_in x
  unfolding with_link
  with_place true = entry_place (place_in x) (row_in x) (left_in x) number (place_low x) (row_low x)
  with_place false = entry_place (place_in x) (row_in x) number (right_in x) (place_low x) (row_low x)

  pub with_row : (right : Bool) → row_in (with_link right number x) ≡ row_in x
  unfolding with_link
  with_row true = entry_row (place_in x) (row_in x) (left_in x) number (place_low x) (row_low x)
  with_row false = entry_row (place_in x) (row_in x) number (right_in x) (place_low x) (row_low x)

  with_same : (right : Bool) → link_in right (with_link right number x) ≡ number
  unfolding with_link
  with_same true = entry_right (place_in x) (row_in x) (left_in x) number (place_low x) (row_low x) (left_low x)
  with_same false = entry_left (place_in x) (row_in x) number (right_in x) (place_low x) (row_low x) h

  with_other : (right side : Bool) → (side ≡ right → ⊥) → link_in side (with_link right number x) ≡ link_in side x
  unfolding with_link
  with_other true true n = absurd (n refl)
  with_other true false n = entry_left (place_in x) (row_in x) (left_in x) number (place_low x) (row_low x) (left_low x)
  with_other false true n = entry_right (place_in x) (row_in x) number (right_in x) (place_low x) (row_low x) h
  with_other false false n = absurd (n refl)

-- the cells with one instance more, linked below `node`, and its name
pub record Grows (text t u : List ℕ) (from count : ℕ) (name : List ℕ) (node : ℕ) (right : Bool) : Type 0 where
  pub places : (j : ℕ) → j < count → place_in (cell_of u (from + j)) ≡ place_in (cell_of t (from + j))
  pub links : (j : ℕ) (side : Bool) → j < count → (j ≡ node → side ≡ right → ⊥) → link_in side (cell_of u (from + j)) ≡ link_in side (cell_of t (from + j))
  pub made : 0 < count → link_in right (cell_of u (from + node)) ≡ count
  pub last : is_entry_named text (cell_of u (from + count)) name ≡ true
  pub only : (other : List ℕ) → is_entry_named text (cell_of u (from + count)) other ≡ true → other ≡ name

-- only the place tells a cell's name
pub named_alike : (text : List ℕ) (x y : ℕ) (name : List ℕ) → place_in x ≡ place_in y → is_entry_named text x name ≡ is_entry_named text y name
unfolding is_entry_named
named_alike text x y name e = rw e

module _ {text t u : List ℕ} {from count : ℕ} {name : List ℕ} {node : ℕ} {right : Bool} (g : Grows text t u from count name node right)
    (h : 0 < count → Hangs t from count name node right) where
  -- the links that were followed are there
  follows : (j : ℕ) (side : Bool) {number : ℕ} → j < count → number ≡ below (cell_of t (from + j)) side j count → 0 < number → number ≡ below (cell_of u (from + j)) side j (suc count)
  follows j side {number} l e p =
      let w = below_at (cell_of t (from + j)) side j count e p in
      below-some (cell_of u (from + j)) side j (suc count) (w.is ∙ sym (g.links j side l other)) w.later (omega (arith, w.within))
    where
      other : j ≡ node → side ≡ right → ⊥
      other a b =
          let z : below (cell_of t (from + j)) side j count ≡ 0 = rw (a, b) (h (omega (arith, l))).none in
          omega (arith, e, p, z)

  still_met : {other : List ℕ} {j depth : ℕ} → j < count → Meets text t from count other j depth → Meets text u from (suc count) other j depth
  still_met {other} {j} l (meets_here e) = meets_here (named_alike text (cell_of u (from + j)) (cell_of t (from + j)) other (g.places j l) ∙ e)
  still_met {other} {j} {depth} l (meets-below e p m) =
      let w = below_at (cell_of t (from + j)) (goes_right other depth) j count e p in
      meets-below (follows j (goes_right other depth) l e p) p (still_met w.within m)

  still_leads : {other : List ℕ} {j depth : ℕ} → 0 < count → Leads t from count other j depth → (j < count) × Leads u from (suc count) other j depth
  still_leads z leads_root = (z, leads_root)
  still_leads {other} z (leads_below {node = k} {depth = d} l e p) =
      let w = still_leads z l in
      let b = below_at (cell_of t (from + k)) (goes_right other d) k count e p in
      (b.within, leads_below w.1 (follows k (goes_right other d) w.0 e p) p)

  -- what is met where a name comes to is met from the root
  from_root : {other : List ℕ} {j depth : ℕ} → Leads u from (suc count) other j depth → Meets text u from (suc count) other j depth → Meets text u from (suc count) other 0 0
  from_root leads_root m = m
  from_root (leads_below l e p) m = from_root l (meets-below e p m)

  new_met : (z : ℕ) → count ≡ z → Meets text u from (suc count) name 0 0
  new_met zero e = meets_here (let n : is_entry_named text (cell_of u (from + count)) name ≡ true = g.last in rw e at n)
  new_met (suc z) e =
      let p : 0 < count = omega (arith, e) in
      let k = h p in
      let w = still_leads p k.leads in
      let b : count ≡ below (cell_of u (from + node)) (goes_right name k.depth) node (suc count) =
      rw (← k.side) (below-some (cell_of u (from + node)) right node (suc count) (sym (g.made p)) k.low (omega arith)) in
      from_root w.1 (meets-below b p (meets_here g.last))

  pub grows_linked : Linked text t from count → Linked text u from (suc count)
  grows_linked l = record { each = λ j k other e. by j (ltb j count) refl k other e }
    where
      by : (j : ℕ) (b : Bool) → ltb j count ≡ b → j < suc count → (other : List ℕ) → is_entry_named text (cell_of u (from + j)) other ≡ true → Meets text u from (suc count) other 0 0
      by j true q k other e =
          let i : j < count = ltb-true j count q in
          still_met (omega (arith, i)) (l.each j i other (sym (named_alike text (cell_of u (from + j)) (cell_of t (from + j)) other (g.places j i)) ∙ e))
      by j false q k other e =
          let i : j ≡ count = omega (arith, k, ltb-false j count q) in
          let o : other ≡ name = g.only other (rw i at e) in
          rw o (new_met count refl)

-- no instance is a tree; and cells that are kept keep it
pub linked_nothing : {text t : List ℕ} {from : ℕ} → Linked text t from 0
linked_nothing = record { each = λ j h name e. absurd (omega (arith, h)) }

module _ {text t u : List ℕ} {from count : ℕ} (same : (j : ℕ) → j < count → cell_of u (from + j) ≡ cell_of t (from + j)) where
  met_kept : {name : List ℕ} {j depth : ℕ} → j < count → Meets text t from count name j depth → Meets text u from count name j depth
  met_kept {name} {j} l (meets_here e) = meets_here {node = j} (rw (same j l) e)
  met_kept {name} {j} {depth} l (meets-below {number = n} e p m) =
      let w = below_at (cell_of t (from + j)) (goes_right name depth) j count e p in
      meets-below {node = j} {depth = depth} {number = n} (rw (same j l) e) p (met_kept w.within m)

  pub linked_kept : Linked text t from count → Linked text u from count
  linked_kept l = record { each = λ j h name e. met_kept (omega (arith, h)) (l.each j h name (rw (same j h) at e)) }

-- what `add` writes
module _ (t : List ℕ) (from count : ℕ) (spot : Spot) where
  linked-length : length (linked t from count spot) ≡ length t
  unfolding linked
  linked-length = by (ltb spot.node count)
    where
      by : (b : Bool) → length (if b then set t (from + spot.node) (with_link spot.right count (cell_of t (from + spot.node))) else t) ≡ length t
      by true = length-set t (from + spot.node) (with_link spot.right count (cell_of t (from + spot.node)))
      by false = refl

  linked_other : (i : ℕ) → (i ≡ from + spot.node → ⊥) → cell_of (linked t from count spot) i ≡ cell_of t i
  unfolding linked
  linked_other i n = by (ltb spot.node count)
    where
      by : (b : Bool) → cell_of (if b then set t (from + spot.node) (with_link spot.right count (cell_of t (from + spot.node))) else t) i ≡ cell_of t i
      by true = get_or-set_other t (from + spot.node) i (with_link spot.right count (cell_of t (from + spot.node))) 0 n
      by false = refl

  linked_not : ltb spot.node count ≡ false → linked t from count spot ≡ t
  unfolding linked
  linked_not q = rw q

  linked_here : spot.node < count → from + spot.node < length t → cell_of (linked t from count spot) (from + spot.node) ≡ with_link spot.right count (cell_of t (from + spot.node))
  unfolding linked
  linked_here h l = rw (lt-ltb spot.node count h) (get_or-set_same t (from + spot.node) (with_link spot.right count (cell_of t (from + spot.node))) 0 l)

  module _ (place row : ℕ) where
    pub grown-length : length (grown t from count spot place row) ≡ length t
    unfolding grown
    grown-length = length-set (linked t from count spot) (from + count) (entry_of place row 0 0) ∙ linked-length

    pub grown_last : from + count < length t → cell_of (grown t from count spot place row) (from + count) ≡ entry_of place row 0 0
    unfolding grown
    grown_last l = get_or-set_same (linked t from count spot) (from + count) (entry_of place row 0 0) 0 (rw linked-length l)

    grown-linked : (i : ℕ) → (i ≡ from + count → ⊥) → cell_of (grown t from count spot place row) i ≡ cell_of (linked t from count spot) i
    unfolding grown
    grown-linked i n = get_or-set_other (linked t from count spot) (from + count) i (entry_of place row 0 0) 0 n

    -- cells before the body and behind its new instance
    pub grown_other : (i : ℕ) → (from ≤ i → from + count < i) → cell_of (grown t from count spot place row) i ≡ cell_of t i
    grown_other i n = grown-linked i (λ e. let w : from + count < i = n (omega arith) in omega arith) ∙ by (ltb spot.node count) refl
      where
        by : (b : Bool) → ltb spot.node count ≡ b → cell_of (linked t from count spot) i ≡ cell_of t i
        by true q = linked_other i (λ e. let w : from + count < i = n (omega (arith, e)) in omega (arith, ltb-true spot.node count q))
        by false q = ap (λ (u : List ℕ). cell_of u i) (linked_not q)

    module _ (h : count < link_bound) (k : 0 < count → spot.node < count) (l : from + count < length t) where
      at_node : 0 < count → cell_of (grown t from count spot place row) (from + spot.node) ≡ with_link spot.right count (cell_of t (from + spot.node))
      at_node p = let n = k p in grown-linked (from + spot.node) (λ e. omega arith) ∙ linked_here n (omega arith)

      elsewhere : (j : ℕ) → j < count → (j ≡ spot.node → ⊥) → cell_of (grown t from count spot place row) (from + j) ≡ cell_of t (from + j)
      elsewhere j i n = grown-linked (from + j) (λ e. omega arith) ∙ linked_other (from + j) (λ e. n (omega arith))

      pub grown_place : (j : ℕ) → j < count → place_in (cell_of (grown t from count spot place row) (from + j)) ≡ place_in (cell_of t (from + j))
      grown_place j i = by (eqb j spot.node) refl
        where
          by : (b : Bool) → eqb j spot.node ≡ b → place_in (cell_of (grown t from count spot place row) (from + j)) ≡ place_in (cell_of t (from + j))
          by true q = let e : j ≡ spot.node = eqb-true j spot.node q in rw (e, at_node (omega (arith, i))) (with_place count (cell_of t (from + spot.node)) h spot.right)
          by false q = ap place_in (elsewhere j i (eqb-false j spot.node q))

      pub grown_row : (j : ℕ) → j < count → row_in (cell_of (grown t from count spot place row) (from + j)) ≡ row_in (cell_of t (from + j))
      grown_row j i = by (eqb j spot.node) refl
        where
          by : (b : Bool) → eqb j spot.node ≡ b → row_in (cell_of (grown t from count spot place row) (from + j)) ≡ row_in (cell_of t (from + j))
          by true q = let e : j ≡ spot.node = eqb-true j spot.node q in rw (e, at_node (omega (arith, i))) (with_row count (cell_of t (from + spot.node)) h spot.right)
          by false q = ap row_in (elsewhere j i (eqb-false j spot.node q))

      grown_links : (j : ℕ) (side : Bool) → j < count → (j ≡ spot.node → side ≡ spot.right → ⊥) → link_in side (cell_of (grown t from count spot place row) (from + j)) ≡ link_in side (cell_of t (from + j))
      grown_links j side i n = by (eqb j spot.node) refl
        where
          by : (b : Bool) → eqb j spot.node ≡ b → link_in side (cell_of (grown t from count spot place row) (from + j)) ≡ link_in side (cell_of t (from + j))
          by true q = let e : j ≡ spot.node = eqb-true j spot.node q in rw (e, at_node (omega (arith, i))) (with_other count (cell_of t (from + spot.node)) h spot.right side (n e))
          by false q = ap (link_in side) (elsewhere j i (eqb-false j spot.node q))

      -- the tree with the new instance, which has this name and no other
      pub grown_grows : (text : List ℕ) (name : List ℕ) → is_entry_named text (entry_of place row 0 0) name ≡ true
          → ((other : List ℕ) → is_entry_named text (entry_of place row 0 0) other ≡ true → other ≡ name)
          → Grows text t (grown t from count spot place row) from count name spot.node spot.right
      grown_grows text name e f =
          record {
            places = grown_place;
            links = grown_links;
            made = λ p. rw (at_node p) (with_same count (cell_of t (from + spot.node)) h spot.right);
            last = rw (grown_last l) e;
            only = λ other q. f other (rw (grown_last l) at q);
          }
