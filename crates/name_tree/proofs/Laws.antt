-- How a name goes down the tree, in the form that the proofs use.
use mathlib.Core.Bool.{Bool, true, false, ◌||◌}
use mathlib.Core.Path.{◌≡◌, refl, sym, ◌∙◌}
use mathlib.Core.List.{List}
use Prim.Native.Nat.{ℕ, zero, suc, ◌+◌, ◌-◌, ◌<◌, ◌≤◌}
use native.Mathlib.Omega.{arith}
use lib.Dec.{leb}
use borrow.Author.Tests.{eq-eqb, ne_eqb, le-leb, lt-leb, leb-false}
use Rattle.std.specs.Prelude.{if◌then◌else◌}
use Rattle.basics.specs.Slices.{cell_of}
use Rattle.name_tree.specs.Tree.{goes_right, is_entry_named, link_in, below, seek_from, seek}
use Rattle.name_tree.proofs.Found.{some_named}

-- the instance below another
module _ (x : ℕ) (right : Bool) (node count : ℕ) {number : ℕ} (e : number ≡ link_in right x) where
  pub below-some : node < number → number < count → number ≡ below x right node count
  unfolding below
  below-some h k = rw (← e, lt-leb number node h, lt-leb count number k)

pub record BelowAt (x : ℕ) (right : Bool) (node count number : ℕ) : Type 0 where
  pub is : number ≡ link_in right x
  pub later : node < number
  pub within : number < count

pub below_at : (x : ℕ) (right : Bool) (node count : ℕ) {number : ℕ} → number ≡ below x right node count → 0 < number → BelowAt x right node count number
unfolding below
below_at x right node count {number} e h = by (leb (link_in right x) node) (leb count (link_in right x)) refl refl e
  where
    by : (a b : Bool) → leb (link_in right x) node ≡ a → leb count (link_in right x) ≡ b → number ≡ (if a then 0 else if b then 0 else link_in right x) → BelowAt x right node count number
    by true b p q f = absurd (omega (arith, f, h))
    by false true p q f = absurd (omega (arith, f, h))
    by false false p q f = record { is = f; later = omega (arith, f, leb-false (link_in right x) node p); within = omega (arith, f, leb-false count (link_in right x) q) }

pub below_falls : (x : ℕ) (right : Bool) (node count : ℕ) {number : ℕ} → number ≡ below x right node count → (number ≡ 0 → ⊥) → count - number < count - node
below_falls x right node count {number} e z = let w = below_at x right node count e (omega (arith, z)) in omega (arith, w.later, w.within)

-- whether some instance has the name
pub some_here : (text t : List ℕ) (name : List ℕ) (from count j : ℕ) → j < count → is_entry_named text (cell_of t (from + j)) name ≡ true → some_named text t from count name ≡ true
unfolding some_named
some_here text t name from zero j h e = absurd (omega arith)
some_here text t name from (suc count) zero h e = let n : from + 0 ≡ from = omega arith in rw (rw n at e)
some_here text t name from (suc count) (suc j) h e =
    let n : from + suc j ≡ suc from + j = omega arith in
    or_right (is_entry_named text (cell_of t from) name) (some_here text t name (suc from) count j (omega arith) (rw n at e))
  where
    or_right : (a : Bool) {b : Bool} → b ≡ true → (a || b) ≡ true
    or_right true e = refl
    or_right false e = e

pub some_none : (text t : List ℕ) (name : List ℕ) (from count : ℕ) → ((j : ℕ) → j < count → is_entry_named text (cell_of t (from + j)) name ≡ true → ⊥) → some_named text t from count name ≡ false
unfolding some_named
some_none text t name from zero none = refl
some_none text t name from (suc count) none =
    by (is_entry_named text (cell_of t from) name) refl
    (some_none text t name (suc from) count (λ j h e. let n : from + suc j ≡ suc from + j = omega arith in none (suc j) (omega (arith, h)) (rw n e)))
  where
    by : (a : Bool) {b : Bool} → is_entry_named text (cell_of t from) name ≡ a → b ≡ false → (a || b) ≡ false
    by true p q = absurd (none 0 (omega arith) (let n : from + 0 ≡ from = omega arith in rw n p))
    by false p q = q

-- what a name comes to from the instance that the loop is at is what it comes to from the root
pub record Seeking (text t : List ℕ) (from count : ℕ) (name : List ℕ) (node depth : ℕ) : Type 0 where
  pub deep : depth ≤ node
  pub steps : ℕ
  pub enough : suc count ≤ steps + node
  pub same : seek_from steps text t from count name node depth ≡ seek text t from count name

module _ (text t : List ℕ) (from count : ℕ) (name : List ℕ) where
  pub seek_start : Seeking text t from count name 0 0
  unfolding seek
  seek_start = record { deep = omega arith; steps = suc count; enough = omega arith; same = refl }

  past_end : (steps node depth : ℕ) → count ≤ node → seek_from steps text t from count name node depth ≡ record { taken = false; node = node; right = false }
  unfolding seek_from
  past_end zero node depth h = refl
  past_end (suc steps) node depth h = rw (le-leb count node h)

  pub seek_none : {node depth : ℕ} → Seeking text t from count name node depth → count ≤ node → record { taken = false; node = node; right = false } ≡ seek text t from count name
  seek_none {node} {depth} s h = sym (past_end s.steps node depth h) ∙ s.same

  module _ {node depth x : ℕ} {b : Bool} (s : Seeking text t from count name node depth) (h : node < count) (e : x ≡ cell_of t (from + node)) (f : b ≡ is_entry_named text x name) where
    named : is_entry_named text (cell_of t (from + node)) name ≡ b
    named = rw (← e) (sym f)

    here : (steps : ℕ) → suc count ≤ steps + node → b ≡ true → seek_from steps text t from count name node depth ≡ record { taken = true; node = node; right = false }
    unfolding seek_from
    here zero l y = absurd (omega (arith, l))
    here (suc steps) l y = rw (lt-leb count node h, named, y)

    pub seek_taken : b ≡ true → record { taken = true; node = node; right = false } ≡ seek text t from count name
    seek_taken y = sym (here s.steps s.enough y) ∙ s.same

    module _ (y : b ≡ false) {right : Bool} {number : ℕ} (g : right ≡ goes_right name depth) (k : number ≡ below x right node count) where
      below_here : below (cell_of t (from + node)) (goes_right name depth) node count ≡ number
      below_here = rw (← e, ← g) (sym k)

      stays : (steps : ℕ) → suc count ≤ steps + node → number ≡ 0 → seek_from steps text t from count name node depth ≡ record { taken = false; node = node; right = right }
      unfolding seek_from
      stays zero l z = absurd (omega (arith, l))
      stays (suc steps) l z = rw (lt-leb count node h, named, y, below_here, eq-eqb number 0 z, ← g)

      goes : (steps : ℕ) → suc count ≤ steps + node → (number ≡ 0 → ⊥) → seek_from steps text t from count name node depth ≡ seek_from (steps - 1) text t from count name number (suc depth)
      unfolding seek_from
      goes zero l z = absurd (omega (arith, l))
      goes (suc steps) l z = let n : suc steps - 1 ≡ steps = omega arith in rw (n, lt-leb count node h, named, y, below_here, ne_eqb number 0 z)

      pub seek_free : number ≡ 0 → record { taken = false; node = node; right = right } ≡ seek text t from count name
      seek_free z = sym (stays s.steps s.enough z) ∙ s.same

      pub seek_on : (number ≡ 0 → ⊥) → Seeking text t from count name number (depth + 1)
      seek_on z =
          let w = below_at x right node count k (omega (arith, z)) in
          let n : depth + 1 ≡ suc depth = omega arith in
          record {
            deep = omega (arith, s.deep, w.later);
            steps = s.steps - 1;
            enough = omega (arith, s.enough, w.later, h);
            same = rw n (sym (goes s.steps s.enough z) ∙ s.same);
          }
