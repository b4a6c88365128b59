-- The invariant of every loop that follows a definition with turns: what is left to do from here, with turns to spare, gives the whole
-- answer.
use mathlib.Core.Path.{◌≡◌, ap, ◌∙◌}
use Prim.Native.Nat.{ℕ, suc, ◌+◌, ◌-◌, ◌≤◌, ◌<◌}
use native.Mathlib.Omega.{arith}

pub record Rest {A : Type 0} (len at : ℕ) (rest : ℕ → A) (whole : A) : Type 0 where
  pub turns : ℕ
  pub enough : len ≤ at + turns
  pub same : rest (suc turns) ≡ whole

-- a turn moves the cursor on, within the text
pub rest_on : {A : Type 0} {len at at' : ℕ} {rest rest' : ℕ → A} {whole : A} → Rest len at rest whole → at < len → at < at'
    → ((k : ℕ) → rest' k ≡ rest (suc k)) → Rest len at' rest' whole
rest_on {len = len} {at = at} {at' = at'} {rest' = rest'} r inside ahead step =
    let k : ℕ = r.turns in
    let some : suc (k - 1) ≡ k = omega (arith, r.enough) in
    record { turns = k - 1; enough = omega (arith, r.enough); same = ap rest' some ∙ step k ∙ r.same }
