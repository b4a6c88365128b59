-- "the next token depends on nothing before the cursor": two texts that are alike from the cursor on have the same token there.
use mathlib.Core.Path.{◌≡◌, ap, ◌∙◌}
use mathlib.Core.List.{List}
use Prim.Native.Nat.{ℕ, ◌+◌, ◌-◌, ◌≤◌}
use native.Mathlib.Omega.{arith}
use lib.ListN.{length, drop, length-drop}
use lib.Seq.{drop-drop}
use Rattle.lex.specs.Blank.{blanks, next_from}
use Rattle.lex.specs.Token.{token_from, token_past, token_at}
use Rattle.lex.proofs.Bounds.{Found, next_found}
use Rattle.std.specs.Prelude.{Result, Ok, Err}

module _ (t u : List ℕ) (at : ℕ) (h : at ≤ length t) (g : at ≤ length u) (e : drop at t ≡ drop at u) where
  same_length : length t ≡ length u
  same_length =
      let l : length t - at ≡ length u - at = simp length-drop at (ap length e) in
      omega arith

  same_drop : (i : ℕ) → at ≤ i → drop i t ≡ drop i u
  same_drop i l =
      let s : at + (i - at) ≡ i = omega arith in
      let d : drop (at + (i - at)) t ≡ drop (at + (i - at)) u = rw (← drop-drop (i - at) at t, ← drop-drop (i - at) at u) (ap (drop (i - at)) e) in
      rw s at d

  same_past : (x : Result ℕ ℕ) → Found at at (length t) x → token_past t x ≡ token_past u x
  same_past (Ok i) f = ap (token_from i) (same_drop i f.0)
  same_past (Err o) f = rw same_length

  pub token_suffix : token_at t at ≡ token_at u at
  unfolding token_at next_from
  token_suffix = same_past (next_from t at) (next_found t at h) ∙ ap (λ (s : List ℕ). token_past u (blanks at s)) e
