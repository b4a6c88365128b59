-- Demand 3 as one claim on the whole list.
use mathlib.Core.Path.{◌≡◌, refl, sym, ap, ap₂, ◌∙◌}
use mathlib.Core.Bool.{true}
use mathlib.Core.List.{List, [], ◌∷◌, ◌++◌}
use Prim.Native.Nat.{ℕ}
use Rattle.actions.specs.Actions.{apply}
use Rattle.model.specs.declared.Access.{Access}
use Rattle.model.specs.Model.{Device, fits, after, bits_of}
use Rattle.model.specs.Lists.{table, run, answers, answers_under, WholeList}
use Rattle.model.specs.Suited.{Suited}
use Rattle.model.proofs.Demand.{run-bit, run_fits, run_past}
use Rattle.model.proofs.Words.{answer_ext}
use Rattle.basics.specs.Judged.{Outcome}

run_snoc : (d : Device) (xs : List Access) (x : Access) (s : List ℕ) → run d (xs ++ (x ∷ [])) s ≡ after d x (run d xs s)
unfolding run
run_snoc d [] x s = refl
run_snoc d (y ∷ xs) x s = run_snoc d xs x (after d y s)

module _ (d : Device) (ok : Suited d) where
  answers_from : (done xs : List Access) (s : List ℕ) → fits d.sizes s ≡ true → answers d xs (run d done s) ≡ answers_under d done xs (bits_of s)
  unfolding answers answers_under
  answers_from done [] s h = refl
  answers_from done (x ∷ xs) s h =
      ap₂ (λ (y : Outcome ℕ) (l : List (Outcome ℕ)). y ∷ l)
      (answer_ext d ok x (bits_of (run d done s)) (λ f i. apply (table d done f i) (bits_of s f i)) (run-bit d ok done s h))
      (ap (answers d xs) (sym (run_snoc d done x s)) ∙ answers_from (done ++ (x ∷ [])) xs s h)

  pub whole_list : (xs : List Access) (s : List ℕ) → fits d.sizes s ≡ true → WholeList d xs s (run d xs s) (answers d xs s)
  unfolding run
  whole_list xs s h =
      record { fitting = run_fits d ok xs s h; bits = run-bit d ok xs s h; past = run_past d ok xs s h; answering = answers_from [] xs s h }
