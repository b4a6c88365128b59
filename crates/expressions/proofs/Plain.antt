-- "Texts without operators or parentheses keep the answer they had": a number with no operator behind it is read as document 01 reads it.
use mathlib.Core.Bool.{Bool, false}
use mathlib.Core.Path.{◌≡◌, refl, sym, ap, ◌∙◌}
use mathlib.Core.List.{List}
use Prim.Native.Nat.{ℕ, zero, suc}
use native.Mathlib.Omega.{arith}
use Rattle.lex.specs.Token.{token_at}
use Rattle.lex.specs.declared.Token.{Token}
use Rattle.lex.specs.declared.Word.TheVariants as word
use Rattle.operators.specs.Operators.{row_count}
use Rattle.basics.specs.Limits.{parenthesis_limit}
use Rattle.expressions.specs.Reading.{Parsed, ok, stop, mapped}
use Rattle.expressions.specs.Words.{part_of, operator_in, is_operator}
use Rattle.expressions.specs.Tree.{Expr, literal}
use Rattle.expressions.specs.Value.{sound, evaluated}
use Rattle.expressions.specs.Grammar.{joined_from, row_at, operand_with, operand_at, expression_at, number_at, plain_of, plain_at}
use Rattle.expressions.specs.declared.ExpressionWord.{ExpressionWord}
use Rattle.expressions.specs.declared.ExpressionWord.TheVariants as part
use Rattle.expressions.specs.declared.Number.{Number}
use Rattle.expressions.proofs.Readings.{then_ok, then_stop}
use Rattle.std.specs.Prelude.{None}

pub no_operator : (q : ExpressionWord) (row : ℕ) → is_operator q ≡ false → operator_in row q ≡ None
unfolding operator_in
no_operator (part.Literal n) row e = refl
no_operator part.Open row e = refl
no_operator part.Close row e = refl
no_operator (part.Binary o) row e = absurd (let z : ◌≡◌ {A = ℕ} 0 1 = cc in omega arith)
no_operator part.Other row e = refl

module _ (t : List ℕ) (d : ℕ → Parsed Expr) (at : ℕ) where
  -- an operand with no operator behind it is all that is read, in every row
  row_alone : {e : Expr} {n : ℕ} → d at ≡ ok e n → is_operator (part_of (token_at t n).word) ≡ false → (row : ℕ) → row_at d row t at ≡ ok e n
  unfolding row_at joined_from
  row_alone q h zero = q
  row_alone {n = n} q h (suc row) = then_ok _ (row_alone q h row) ∙ rw (no_operator (part_of (token_at t n).word) (suc row) h)

  row_stopped : {n p : ℕ} → d at ≡ stop n p → (row : ℕ) → row_at d row t at ≡ stop n p
  unfolding row_at
  row_stopped q zero = q
  row_stopped q (suc row) = then_stop _ (row_stopped q row)

module _ (t : List ℕ) (at : ℕ) where
  pub number_plain : {v : ℕ} → part_of (token_at t at).word ≡ part.Literal v → is_operator (part_of (token_at t (token_at t at).end).word) ≡ false
      → number_at t at ≡ ok (sound v (token_at t at).start) (token_at t at).end
  unfolding number_at expression_at mapped evaluated operand_at operand_with
  number_plain {v} e h = ap (mapped evaluated) (row_alone t (operand_at parenthesis_limit t) at {e = literal v (token_at t at).start} (rw e) h row_count)

  number_stopped : {n p : ℕ} → operand_at parenthesis_limit t at ≡ stop n p → number_at t at ≡ stop n p
  unfolding number_at expression_at mapped
  number_stopped e = ap (mapped evaluated) (row_stopped t (operand_at parenthesis_limit t) at e row_count)

  pub number_kept : (part_of (token_at t at).word ≡ part.Open → ⊥) → is_operator (part_of (token_at t (token_at t at).end).word) ≡ false → number_at t at ≡ plain_at t at
  unfolding plain_at operand_at operand_with
  number_kept n h = by (part_of (token_at t at).word) refl
    where
      by : (q : ExpressionWord) → part_of (token_at t at).word ≡ q → number_at t at ≡ plain_of (token_at t at) q
      by (part.Literal v) e = number_plain e h
      by part.Open e = absurd (n e)
      by part.Close e = number_stopped (rw e)
      by (part.Binary o) e = number_stopped (rw e)
      by part.Other e = number_stopped (rw e)

-- the ways of the code
module _ (t : List ℕ) (at : ℕ) where
  pub plain_read : {k b : Token} {v : ℕ} {q : ExpressionWord} {o : Bool} → k ≡ token_at t at → k.word ≡ word.Number v → b ≡ token_at t k.end → q ≡ part_of b.word
      → o ≡ is_operator q → o ≡ false → ok (sound v k.start) k.end ≡ number_at t at
  unfolding part_of
  plain_read {k} {b} {v} e w f g h i =
      let l : part_of (token_at t at).word ≡ part.Literal v = rw (← e, w) in
      let n : is_operator (part_of (token_at t (token_at t at).end).word) ≡ false = rw (← e, ← f, ← g) (sym h ∙ i) in
      rw e (sym (number_plain t at l n))

  pub row_number : {y : Parsed Number} → y ≡ mapped evaluated (row_at (operand_at 16 t) 8 t at) → y ≡ number_at t at
  unfolding number_at expression_at
  row_number e = e
