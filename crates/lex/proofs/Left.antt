-- The walk over a text's tokens: what is left of it comes to the same answer.
use mathlib.Core.Path.{◌≡◌, refl, sym, ap, ◌∙◌}
use mathlib.Core.List.{List}
use Prim.Native.Nat.{ℕ, zero, suc, ◌+◌, ◌<◌, ◌≤◌}
use native.Mathlib.Omega.{arith}
use lib.ListN.{length}
use Rattle.lex.specs.declared.Token.{Token}
use Rattle.lex.specs.declared.Word.{Word}
use Rattle.lex.specs.declared.Word.TheVariants as word
use Rattle.std.specs.Prelude.{Option, Some, None}
use Rattle.lex.specs.Token.{token_at}
use Rattle.lex.specs.Words.{judged_word, judged, stepped, first_bad}
use Rattle.lex.proofs.Bounds.{token-within, token_moves}
use Rattle.basics.specs.Judged.{Verdict, Accepted}

-- a token at which the walk goes on is not the end
go_moves : (w : Word) (p : ℕ) → judged_word w p ≡ None → w ≡ word.End → ⊥
go_moves w p g e =
    let s : ◌≡◌ {A = Option Verdict} (Some Accepted) None = rw e at g in
    let z : ◌≡◌ {A = ℕ} 0 1 = cc in
    omega arith

-- the tokens from `at` on come to `x`, with tokens enough to reach the end
pub record Left (t : List ℕ) (at : ℕ) (x : Verdict) : Type 0 where
  pub tokens : ℕ
  pub enough : length t < tokens + at
  pub inside : at ≤ length t
  pub meaning : first_bad tokens t at ≡ x

go_on : (t : List ℕ) (at : ℕ) → at ≤ length t → judged (token_at t at) ≡ None → (at < (token_at t at).end) × ((token_at t at).end ≤ length t)
go_on t at h g = (token_moves t at (go_moves (token_at t at).word (token_at t at).start g), (token-within t at h).inside)

stop_at : (f : ℕ) (t : List ℕ) (at : ℕ) {x a : Verdict} → length t < f + at → at ≤ length t → first_bad f t at ≡ x → judged (token_at t at) ≡ Some a → a ≡ x
unfolding first_bad
stop_at zero t at e i m j = absurd (omega arith)
stop_at (suc f) t at e i m j = rw j at m

more_at : (f : ℕ) (t : List ℕ) (at : ℕ) {x : Verdict} → length t < f + at → at ≤ length t → first_bad f t at ≡ x → judged (token_at t at) ≡ None → Left t (token_at t at).end x
unfolding first_bad
more_at zero t at e i m g = absurd (omega arith)
more_at (suc f) t at e i m g =
    let p : (at < (token_at t at).end) × ((token_at t at).end ≤ length t) = go_on t at i g in
    record { tokens = f; enough = omega arith; inside = p.1; meaning = rw g at m }

module _ (t : List ℕ) (at : ℕ) {x : Verdict} {k : Token} {s : Option Verdict} (l : Left t at x) (q : k ≡ token_at t at) (j : s ≡ judged k) where
  pub left_stop : {a : Verdict} → s ≡ Some a → a ≡ x
  left_stop z =
      let e : judged k ≡ Some _ = sym j ∙ z in
      stop_at l.tokens t at l.enough l.inside l.meaning (rw q at e)

  pub left_more : s ≡ None → Left t k.end x
  left_more z =
      let e : judged k ≡ None = sym j ∙ z in
      rw q (more_at l.tokens t at l.enough l.inside l.meaning (rw q at e))

  pub left_past : s ≡ None → (at < k.end) × (k.end ≤ length t)
  left_past z =
      let e : judged k ≡ None = sym j ∙ z in
      rw q (go_on t at l.inside (rw q at e))

-- any number of tokens that is enough gives the same answer
more_tokens : (f : ℕ) (t : List ℕ) (at : ℕ) → length t < f + at → at ≤ length t → first_bad f t at ≡ first_bad (suc f) t at
unfolding first_bad
more_tokens zero t at e i = absurd (omega arith)
more_tokens (suc f) t at e i = by (judged (token_at t at)) refl (more_tokens f t (token_at t at).end)
  where
    by : (s : Option Verdict) → judged (token_at t at) ≡ s
        → (length t < f + (token_at t at).end → (token_at t at).end ≤ length t → first_bad f t (token_at t at).end ≡ first_bad (suc f) t (token_at t at).end)
        → stepped s (first_bad f t (token_at t at).end) ≡ stepped s (first_bad (suc f) t (token_at t at).end)
    by (Some v) g rec = refl
    by None g rec =
        let p : (at < (token_at t at).end) × ((token_at t at).end ≤ length t) = go_on t at i g in
        rec (omega arith) p.1

pub tokens_enough : (k : ℕ) (t : List ℕ) → first_bad (length t + 1) t 0 ≡ first_bad (k + (length t + 1)) t 0
tokens_enough zero t = ap (λ (n : ℕ). first_bad n t 0) (omega arith)
tokens_enough (suc k) t =
    let n : suc (k + (length t + 1)) ≡ suc k + (length t + 1) = omega arith in
    tokens_enough k t ∙ more_tokens (k + (length t + 1)) t 0 (omega arith) (omega arith) ∙ ap (λ (m : ℕ). first_bad m t 0) n
