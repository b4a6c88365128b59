-- A name that stands in a body is found in its tree; where it is not found it comes to an instance with none below on its side.
use mathlib.Core.Bool.{Bool, true, false}
use mathlib.Core.Path.{◌≡◌, refl, sym, ◌∙◌}
use mathlib.Core.List.{List}
use Prim.Native.Nat.{ℕ, zero, suc, ◌+◌, ◌<◌, ◌≤◌}
use native.Mathlib.Omega.{arith}
use lib.Dec.{eqb, leb}
use borrow.Author.Tests.{eqb-true, eqb-false, leb-true, leb-false}
use Rattle.std.specs.Prelude.{if◌then◌else◌}
use Rattle.basics.specs.Slices.{cell_of}
use Rattle.chars.proofs.Laws.{differ}
use Rattle.name_tree.specs.Tree.{goes_right, is_entry_named, below, Meets, meets_here, meets-below, seek_from, seek}
use Rattle.name_tree.proofs.Found.{Leads, leads_root, leads_below, Finds}
use Rattle.name_tree.proofs.Laws.{below_at, some_here, some_none}

module _ (text t : List ℕ) (from count : ℕ) (name : List ℕ) where
  -- how far a name has gone down: to this instance it comes, and what it meets it meets from here
  record Comes (node depth : ℕ) : Type 0 where
    pub inside : 0 < count → node < count
    pub leads : Leads t from count name node depth
    pub same : Meets text t from count name 0 0 → Meets text t from count name node depth

  nothing : {node depth : ℕ} → Comes node depth → count ≤ node → Finds text t from count name (record { taken = false; node = node; right = false })
  nothing {node} s h =
      let empty : 0 < count → ⊥ = λ p. omega (arith, h, s.inside p) in
      record {
        taken = λ e. differ (sym e);
        free = λ e l. some_none text t name from count (λ j k q. empty (omega (arith, k)));
        hangs = λ e p. absurd (empty p);
      }

  module _ {node depth : ℕ} (s : Comes node depth) (h : node < count) where
    here : is_entry_named text (cell_of t (from + node)) name ≡ true → Finds text t from count name (record { taken = true; node = node; right = false })
    here e = record { taken = λ _. some_here text t name from count node h e; free = λ p l. differ p; hangs = λ p q. differ p }

    module _ (e : is_entry_named text (cell_of t (from + node)) name ≡ false) where
      stuck : below (cell_of t (from + node)) (goes_right name depth) node count ≡ 0 → Meets text t from count name node depth → ⊥
      stuck z (meets_here a) = differ (sym a ∙ e)
      stuck z (meets-below p q m) = omega (arith, q, p, z)

      stays : below (cell_of t (from + node)) (goes_right name depth) node count ≡ 0 → Finds text t from count name (record { taken = false; node = node; right = goes_right name depth })
      stays z =
          record {
            taken = λ p. differ (sym p);
            free = λ p l. some_none text t name from count (λ j q r. stuck z (s.same (l.each j q name r)));
            hangs = λ p q. record { low = h; depth = depth; leads = s.leads; side = refl; none = z };
          }

      met : Meets text t from count name node depth → Meets text t from count name (below (cell_of t (from + node)) (goes_right name depth) node count) (suc depth)
      met (meets_here a) = differ (sym a ∙ e)
      met (meets-below p q m) = rw (← p) m

      goes : (below (cell_of t (from + node)) (goes_right name depth) node count ≡ 0 → ⊥) → Comes (below (cell_of t (from + node)) (goes_right name depth) node count) (suc depth)
      goes z =
          let w = below_at (cell_of t (from + node)) (goes_right name depth) node count refl (omega (arith, z)) in
          record { inside = λ _. w.within; leads = leads_below s.leads refl (omega (arith, z)); same = λ m. met (s.same m) }

  finds_from : (steps node depth : ℕ) → suc count ≤ steps + node → Comes node depth → Finds text t from count name (seek_from steps text t from count name node depth)
  unfolding seek_from
  finds_from zero node depth l s = nothing s (omega (arith, l))
  finds_from (suc steps) node depth l s =
      by (leb count node) (is_entry_named text (cell_of t (from + node)) name) (eqb (below (cell_of t (from + node)) (goes_right name depth) node count) 0) refl refl refl
      (λ m c. finds_from steps (below (cell_of t (from + node)) (goes_right name depth) node count) (suc depth) m c)
    where
      by : (a b c : Bool) → leb count node ≡ a → is_entry_named text (cell_of t (from + node)) name ≡ b → eqb (below (cell_of t (from + node)) (goes_right name depth) node count) 0 ≡ c
          → (suc count ≤ steps + (below (cell_of t (from + node)) (goes_right name depth) node count) → Comes (below (cell_of t (from + node)) (goes_right name depth) node count) (suc depth)
          → Finds text t from count name (seek_from steps text t from count name (below (cell_of t (from + node)) (goes_right name depth) node count) (suc depth)))
          → Finds text t from count name
          (if a then record { taken = false; node = node; right = false } else
          if b then record { taken = true; node = node; right = false } else
          if c then record { taken = false; node = node; right = goes_right name depth } else
          seek_from steps text t from count name (below (cell_of t (from + node)) (goes_right name depth) node count) (suc depth))
      by true b c p q r on = nothing s (leb-true count node p)
      by false true c p q r on = here s (leb-false count node p) q
      by false false true p q r on = stays s (leb-false count node p) q (eqb-true (below (cell_of t (from + node)) (goes_right name depth) node count) 0 r)
      by false false false p q r on =
          let z : (below (cell_of t (from + node)) (goes_right name depth) node count) ≡ 0 → ⊥ = eqb-false (below (cell_of t (from + node)) (goes_right name depth) node count) 0 r in
          let h = leb-false count node p in
          let w = below_at (cell_of t (from + node)) (goes_right name depth) node count refl (omega (arith, z)) in
          on (omega (arith, l, w.later)) (goes s h q z)

  pub seek_finds : Finds text t from count name (seek text t from count name)
  unfolding seek
  seek_finds = finds_from (suc count) 0 0 (omega arith) (record { inside = λ h. h; leads = leads_root; same = λ m. m })
