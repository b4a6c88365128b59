-- Runs over elements: one after another, and what a walk over some says of a walk over more.
use mathlib.Core.Path.{◌≡◌, refl, sym, ap, ◌∙◌}
use mathlib.Core.Bool.{Bool, true, false}
use mathlib.Core.List.{List, [], ◌∷◌, ◌++◌}
use Prim.Native.Nat.{ℕ}
use lib.Dec.{ltb}
use lib.ListN.{length}
use borrow.Author.Tests.{ltb-false}
use Rattle.std.specs.Prelude.{if◌then◌else◌}
use Rattle.chars.proofs.Laws.{or_left, or_right}
use Rattle.basics.specs.Judged.{Judged, fault, fine, onward, unless}
use Rattle.cells.specs.Definitions.{Definition}
use Rattle.layout.specs.declared.Shape.{Shape}
use Rattle.basics.specs.Limits.{nest_limit, register_limit, field_limit}
use Rattle.map_rules.specs.Visits.{Visit}
use Rattle.map_walk.specs.Runs.{Total, registers_with, fields_with, is_too_many, tallied, run, logged_one, logged}
use Rattle.map_walk.specs.Walks.{Small, Walks}

-- a test that failed
unless_fine : {A : Type 0} (b : Bool) (n p : ℕ) {rest : Judged A} {u : A} → unless b n p rest ≡ fine u → (b ≡ false) × (rest ≡ fine u)
unfolding unless
unless_fine true n p e = absurd cc
unless_fine false n p e = (refl, e)

module _ (table : List Definition) (shapes : List Shape) where
  pub run-append : (t : Total) (xs ys : List Visit) → run table shapes t (xs ++ ys) ≡ onward (run table shapes t xs) (λ u. run table shapes u ys)
  unfolding run onward unless
  run-append t [] ys = refl
  run-append t (v ∷ xs) ys = by (is_too_many table t v) v.name.start (run table shapes (tallied table shapes t v) (xs ++ ys)) (run table shapes (tallied table shapes t v) xs) (run-append (tallied table shapes t v) xs ys)
    where
      by : (b : Bool) (p : ℕ) (one two : Judged Total) → one ≡ onward two (λ u. run table shapes u ys) → unless b 18 p one ≡ onward (unless b 18 p two) (λ u. run table shapes u ys)
      by true p one two e = refl
      by false p one two e = e

  -- a run that is fine
  pub run_step : (t : Total) (v : Visit) (vs : List Visit) {u : Total} → run table shapes t (v ∷ vs) ≡ fine u → (is_too_many table t v ≡ false) × (run table shapes (tallied table shapes t v) vs ≡ fine u)
  unfolding run
  run_step t v vs e = unless_fine (is_too_many table t v) 18 v.name.start e

  pub run_none : (t : Total) {u : Total} → run table shapes t [] ≡ fine u → t ≡ u
  unfolding run
  run_none t e = cc

  -- the log with an element that is not too many
  pub logged_step : (log : List ℕ) (t : Total) (v : Visit) (vs : List Visit) → is_too_many table t v ≡ false
      → logged table shapes log t (v ∷ vs) ≡ logged table shapes (logged_one table log t v) (tallied table shapes t v) vs
  unfolding logged
  logged_step log t v vs e = rw e

  pub logged-append : (log : List ℕ) (t : Total) (xs ys : List Visit) {u : Total} → run table shapes t xs ≡ fine u
      → logged table shapes log t (xs ++ ys) ≡ logged table shapes (logged table shapes log t xs) u ys
  unfolding logged
  logged-append log t [] ys e = ap (λ (u : Total). logged table shapes log u ys) (run_none t e)
  logged-append log t (v ∷ xs) ys {u = u} e =
      let (f, g) = run_step t v xs e in
      logged_step log t v (xs ++ ys) f ∙ logged-append (logged_one table log t v) (tallied table shapes t v) xs ys g
      ∙ ap (λ (l : List ℕ). logged table shapes l u ys) (sym (logged_step log t v xs f))

  -- nothing is logged behind a fault
  pub logged_fault : (log : List ℕ) (t : Total) (xs ys : List Visit) {n p : ℕ} → run table shapes t xs ≡ fault n p → logged table shapes log t (xs ++ ys) ≡ logged table shapes log t xs
  unfolding run logged unless
  logged_fault log t [] ys e = absurd cc
  logged_fault log t (v ∷ xs) ys {n} {p} e = by (is_too_many table t v) (λ f. logged_fault (logged_one table log t v) (tallied table shapes t v) xs ys f) e
    where
      by : (b : Bool) {one two : List ℕ} → (run table shapes (tallied table shapes t v) xs ≡ fault n p → one ≡ two)
          → unless b 18 v.name.start (run table shapes (tallied table shapes t v) xs) ≡ fault n p → (if b then log else one) ≡ (if b then log else two)
      by true f e = refl
      by false f e = f e

  pub run_small : (t : Total) (vs : List Visit) {u : Total} → Small t → run table shapes t vs ≡ fine u → Small u
  unfolding is_too_many tallied
  run_small t [] s e = rw (← run_none t e) s
  run_small t (v ∷ vs) s e = run_small (tallied table shapes t v) vs (kept (run_step t v vs e).0) (run_step t v vs e).1
    where
      kept : is_too_many table t v ≡ false → Small (tallied table shapes t v)
      kept f =
          let g = or_right (ltb nest_limit (length v.path)) _ f in
          record {
            registers = ltb-false register_limit (registers_with table t v) (or_left (ltb register_limit (registers_with table t v)) _ g);
            fields = ltb-false field_limit (fields_with table t v) (or_right (ltb register_limit (registers_with table t v)) _ g);
          }

-- a walk from the start over all elements is a walk from here over those that are left
pub record Onto (table : List Definition) (shapes : List Shape) (before : List ℕ) (start : Total) (vs : List Visit) (log : List ℕ) (t : Total) (ws : List Visit) : Type 0 where
  pub runs : run table shapes start vs ≡ run table shapes t ws
  pub logs : logged table shapes before start vs ≡ logged table shapes log t ws

module _ {table : List Definition} {shapes : List Shape} {before : List ℕ} {start : Total} {vs : List Visit} where
  pub onto_start : Onto table shapes before start vs before start vs
  onto_start = record { runs = refl; logs = refl }

  module _ {log : List ℕ} {t : Total} where
    pub onto_end : Onto table shapes before start vs log t [] → Walks table shapes before log start vs (fine t)
    unfolding run logged
    onto_end o = record { runs = o.runs; logs = sym o.logs }

    module _ (xs ys : List Visit) {after : List ℕ} {r : Judged Total} (o : Onto table shapes before start vs log t (xs ++ ys)) (w : Walks table shapes log after t xs r) where
      onto_runs : {j : Judged Total} → r ≡ j → run table shapes start vs ≡ onward j (λ u. run table shapes u ys)
      onto_runs e = o.runs ∙ run-append table shapes t xs ys ∙ ap (λ (j : Judged Total). onward j (λ u. run table shapes u ys)) (w.runs ∙ e)

      pub onto_on : {u : Total} → r ≡ fine u → Onto table shapes before start vs after u ys
      unfolding onward
      onto_on {u = u} e =
          record {
            runs = onto_runs e;
            logs = o.logs ∙ logged-append table shapes log t xs ys (w.runs ∙ e) ∙ ap (λ (l : List ℕ). logged table shapes l u ys) (sym w.logs);
          }

      pub onto_fault : {n p : ℕ} → r ≡ fault n p → Walks table shapes before after start vs (fault n p)
      unfolding onward
      onto_fault e = record { runs = onto_runs e; logs = w.logs ∙ sym (logged_fault table shapes log t xs ys (w.runs ∙ e)) ∙ sym o.logs }

      -- the last elements
      pub onto_then : {u : Total} {last : List ℕ} {q : Judged Total} → r ≡ fine u → Walks table shapes after last u ys q → Walks table shapes before last start vs q
      onto_then e k = record { runs = (onto_on e).runs ∙ k.runs; logs = k.logs ∙ sym (onto_on e).logs }
