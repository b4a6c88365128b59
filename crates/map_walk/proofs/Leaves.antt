-- The functions that look at one element only.
use mathlib.Core.Path.{◌≡◌, refl}
use mathlib.Core.List.{List, ◌∷◌}
use Prim.Native.Nat.{ℕ, ◌+◌, ◌≤◌, ◌<◌}
use native.Mathlib.Omega.{arith}
use lib.ListN.{length, set, get_or, drop, drop_of_length-le}
use Rattle.chars.proofs.Laws.{drop_next}
use Rattle.std.specs.Prelude.{Result, Ok, Err}
use Rattle.std.specs.Result.{result_and}
use Rattle.basics.specs.declared.Refusal.{Refusal}
use Rattle.basics.specs.Judged.{first_of, Verdict, fine, verdict}
use Rattle.basics.specs.Slices.{written}
use Rattle.map_walk.specs.Runs.{Total}
use Rattle.map_walk.specs.declared.Element.{Element}
use Rattle.map_walk.specs.Walks.{close_fault, GroupVisited}

-- a step's number, put behind the path
pub step_put : (t : List ℕ) (i : ℕ) {a b : ℕ} → b ≡ a → set t i b ≡ set t i a
step_put t i e = rw e

-- a path's cells, put one after another
pub put_start : (log : List ℕ) (at : ℕ) (xs : List ℕ) → written log (at + 0) (drop 0 xs) ≡ written log at xs
put_start log at xs = let z : at + 0 ≡ at = omega arith in rw z

module _ (log : List ℕ) (at : ℕ) (xs : List ℕ) (k : ℕ) {x : List ℕ} (e : written log (at + k) (drop k xs) ≡ x) where
  pub put_next : {u : List ℕ} → k < length xs → u ≡ set log (at + k) (get_or xs k 0) → written u (at + (k + 1)) (drop (k + 1) xs) ≡ x
  unfolding written
  put_next h f =
      let z : at + (k + 1) ≡ at + k + 1 = omega arith in
      rw (f, z) (rw (drop_next xs k h) at e)

  pub put_end : length xs ≤ k → log ≡ x
  unfolding written
  put_end h = rw (drop_of_length-le xs h) at e

pub register_put : (t : List ℕ) (i : ℕ) (xs : List ℕ) {a b : ℕ} {t1 t2 : List ℕ} → b ≡ a → t1 ≡ set t i b → t2 ≡ written t1 (i + 1) xs → t2 ≡ written t i (a ∷ xs)
unfolding written
register_put t i xs e f g = rw (← e, g, f)

-- the first of two faults
pub and_first : (a b : Result Unit Refusal) → verdict (result_and a b) ≡ first_of (verdict a) (verdict b)
and_first (Ok u) b = refl
and_first (Err r) b = refl

-- `visit_group`
pub group_visited : (t : Total) (x : Element) {f g : Verdict} → g ≡ close_fault x → f ≡ first_of t.close g
    → GroupVisited t x (fine (record { registers = t.registers; fields = t.fields; close = f; misplaced = t.misplaced }))
group_visited t x e h = rw (h, e)
