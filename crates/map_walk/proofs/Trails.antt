-- Paths in cells: a trail with one more step.
use mathlib.Core.Path.{◌≡◌, refl, sym, ap, ◌∙◌}
use mathlib.Core.List.{List, [], ◌∷◌, ◌++◌}
use Prim.Native.Nat.{ℕ, zero, suc, ◌+◌, ◌<◌}
use native.Mathlib.Omega.{arith}
use lib.ListN.{length, set, length-append, length-map}
use Rattle.parts.specs.declared.Name.{Name}
use Rattle.basics.specs.Limits.{nest_limit}
use Rattle.register_log.specs.Log.{step_of}
use Rattle.map_rules.specs.Visits.{PathStep}
use Rattle.map_walk.specs.declared.Trail.{Trail}
use Rattle.rows.specs.Rows.{index_code, padded}
use Rattle.map_walk.specs.Runs.{step_number, step_numbers}
use Rattle.map_walk.specs.Walks.{Trails}
use Rattle.std.specs.Prelude.{Option}

set-padded : (n : ℕ) (xs : List ℕ) (y : ℕ) → length xs < n → set (padded n xs) (length xs) y ≡ padded n (xs ++ (y ∷ []))
unfolding padded
set-padded zero xs y h = absurd (omega arith)
set-padded (suc n) [] y h = refl
set-padded (suc n) (x ∷ xs) y h = ap (λ (l : List ℕ). x ∷ l) (set-padded n xs y (omega arith))

numbers_more : (path : List PathStep) (s : PathStep) → step_numbers (path ++ (s ∷ [])) ≡ step_numbers path ++ (step_number s ∷ [])
numbers_more [] s = refl
numbers_more (p ∷ path) s = ap (λ (l : List ℕ). step_number p ∷ l) (numbers_more path s)

pub trails_none : {trail : Trail} → trail.depth ≡ 0 → trail.steps ≡ padded nest_limit [] → Trails trail []
trails_none e f = record { depth = e; steps = f }

pub trails_more : {trail r : Trail} (path : List PathStep) (name : Name) (g : Option ℕ) {index : ℕ} → Trails trail path → trail.depth < nest_limit → index ≡ index_code g
    → (r.depth ≡ trail.depth + 1) × (r.steps ≡ set trail.steps trail.depth (step_of name.start name.end index)) → Trails r (path ++ (record { name = name; index = g } ∷ []))
trails_more {trail} path name g {index} t h e (f, s) =
    let n : length (step_numbers path) ≡ trail.depth = length-map path step_number ∙ sym t.depth in
    let step : PathStep = record { name = name; index = g } in
    record {
      depth = f ∙ ap (λ (n : ℕ). n + 1) t.depth ∙ sym (length-append path (step ∷ []));
      steps =
          s ∙ ap (λ (i : ℕ). set trail.steps trail.depth (step_of name.start name.end i)) e
          ∙ ap (λ (l : List ℕ). set l trail.depth (step_number step)) t.steps
          ∙ ap (λ (i : ℕ). set (padded nest_limit (step_numbers path)) i (step_number step)) (sym n)
          ∙ set-padded nest_limit (step_numbers path) (step_number step) (omega (arith, n, h))
          ∙ ap (padded nest_limit) (sym (numbers_more path step));
    }
