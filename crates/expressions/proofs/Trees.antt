-- What the grammar reads: a tree that is grouped, spelt by the words from the cursor to the cursor past it, which lies on and within the text.
use mathlib.Core.Bool.{Bool, true, false}
use mathlib.Core.Path.{◌≡◌, refl, sym, ap, ◌∙◌}
use mathlib.Core.List.{List}
use Prim.Native.Nat.{ℕ, zero, suc, ◌<◌, ◌≤◌}
use native.Mathlib.Omega.{arith}
use lib.Dec.{eqb}
use lib.ListN.{length}
use borrow.Author.Tests.{eqb-true, eq-eqb}
use Rattle.std.specs.Prelude.{if◌then◌else◌, Option, Some, None}
use Rattle.chars.proofs.Laws.{either}
use Rattle.lex.specs.Token.{token_at}
use Rattle.lex.specs.declared.Word.TheVariants as word
use Rattle.lex.proofs.Bounds.{token_inside}
use Rattle.operators.specs.declared.Operator.{Operator}
use Rattle.operators.specs.declared.Operator.TheVariants as operator
use Rattle.operators.specs.Operators.{row_of, row_count}
use Rattle.basics.specs.Limits.{parenthesis_limit}
use Rattle.expressions.specs.Reading.{Parsed, ok, stop, and_then}
use Rattle.expressions.specs.Words.{part_of, is_close, is_operator, in_row, operator_in}
use Rattle.expressions.specs.Tree.{Expr, inside, apply}
use Rattle.expressions.specs.Grammar.{by_lookup, joined_from, row_at, closed_at, operand_of, operand_with, operand_at, expression_at}
use Rattle.expressions.specs.Grouping.{row_on, Grouped, grouped_literal, grouped_inside, grouped_apply, Nested, nested_literal, nested_inside, nested_apply, WordsSpell, spelt_literal, spelt_inside, spelt_apply, Expression}
use Rattle.expressions.specs.declared.ExpressionWord.{ExpressionWord}
use Rattle.expressions.specs.declared.ExpressionWord.TheVariants as part
use Rattle.expressions.proofs.Readings.{HoldsRead, holds_ok, holds_stop, holds_of, holds_more, holds_then}

-- an operator that is found has that row
pub operator_found : (row : ℕ) (q : ExpressionWord) {o : Operator} → operator_in row q ≡ Some o → (q ≡ part.Binary o) × (row_of o ≡ row)
unfolding operator_in in_row
operator_found row (part.Literal n) e = absurd (let z : ◌≡◌ {A = ℕ} 0 1 = cc in omega arith)
operator_found row part.Open e = absurd (let z : ◌≡◌ {A = ℕ} 0 1 = cc in omega arith)
operator_found row part.Close e = absurd (let z : ◌≡◌ {A = ℕ} 0 1 = cc in omega arith)
operator_found row (part.Binary a) {o} e = by (eqb (row_of a) row) refl e
  where
    by : (b : Bool) → eqb (row_of a) row ≡ b → (if b then Some a else None) ≡ Some o → (part.Binary a ≡ part.Binary o) × (row_of o ≡ row)
    by true f g =
        let s : a ≡ o = cc in
        (ap part.Binary s, ap row_of (sym s) ∙ eqb-true (row_of a) row f)
    by false f g = absurd (let z : ◌≡◌ {A = ℕ} 0 1 = cc in omega arith)
operator_found row part.Other e = absurd (let z : ◌≡◌ {A = ℕ} 0 1 = cc in omega arith)

in_row_missing : (row : ℕ) (o : Operator) → in_row row o ≡ None → row_of o ≡ row → ⊥
unfolding in_row
in_row_missing row o e f = by (rw (eq-eqb (row_of o) row f) at e)
  where
    by : Some o ≡ None → ⊥
    by g = let z : ◌≡◌ {A = ℕ} 0 1 = cc in omega arith

-- the rows go from 1 to 8
pub row_bounds : (o : Operator) → (0 < row_of o) × (row_of o ≤ row_count)
row_bounds operator.Times = (omega arith, omega arith)
row_bounds operator.Over = (omega arith, omega arith)
row_bounds operator.Modulo = (omega arith, omega arith)
row_bounds operator.Plus = (omega arith, omega arith)
row_bounds operator.Minus = (omega arith, omega arith)
row_bounds operator.ShiftLeft = (omega arith, omega arith)
row_bounds operator.ShiftRight = (omega arith, omega arith)
row_bounds operator.Less = (omega arith, omega arith)
row_bounds operator.AtMost = (omega arith, omega arith)
row_bounds operator.More = (omega arith, omega arith)
row_bounds operator.AtLeast = (omega arith, omega arith)
row_bounds operator.Same = (omega arith, omega arith)
row_bounds operator.Unlike = (omega arith, omega arith)
row_bounds operator.And = (omega arith, omega arith)
row_bounds operator.Xor = (omega arith, omega arith)
row_bounds operator.Or = (omega arith, omega arith)

row_some : (o : Operator) → 0 < row_of o
row_some o = (row_bounds o).0

row_last : (o : Operator) → row_of o ≤ row_count
row_last o = (row_bounds o).1

close_found : (q : ExpressionWord) → is_close q ≡ true → q ≡ part.Close
close_found (part.Literal n) e = absurd (let z : ◌≡◌ {A = ℕ} 0 1 = cc in omega arith)
close_found part.Open e = absurd (let z : ◌≡◌ {A = ℕ} 0 1 = cc in omega arith)
close_found part.Close e = refl
close_found (part.Binary a) e = absurd (let z : ◌≡◌ {A = ℕ} 0 1 = cc in omega arith)
close_found part.Other e = absurd (let z : ◌≡◌ {A = ℕ} 0 1 = cc in omega arith)

module _ (t : List ℕ) where
  -- a word that has a part in expressions moves the cursor on, within the text
  pub part_past : (at : ℕ) {q : ExpressionWord} → part_of (token_at t at).word ≡ q → (q ≡ part.Other → ⊥) → (at < (token_at t at).end) × ((token_at t at).end ≤ length t)
  unfolding part_of
  part_past at e n = token_inside t at (λ z. n (sym e ∙ ended z))
    where
      ended : (token_at t at).word ≡ word.End → part_of (token_at t at).word ≡ part.Other
      ended z = rw z

  -- an operator that stands at the cursor binds looser than the row
  abbrev pub Looser : ℕ → ℕ → Type 0
  Looser row n = (o : Operator) → part_of (token_at t n).word ≡ part.Binary o → row < row_of o

  pub record Read (depth row at : ℕ) (e : Expr) (n : ℕ) : Type 0 where
    pub past : at < n
    pub within : n ≤ length t
    pub grouped : Grouped e
    pub binds : row_on e ≤ row
    pub nested : Nested depth e
    pub spelt : WordsSpell t at e n

  -- and what stands behind it is no operator of the row or of a tighter one
  pub record Whole (depth row at : ℕ) (e : Expr) (n : ℕ) : Type 0 where
    pub read : Read depth row at e n
    pub looser : Looser row n

  -- no operator of the row stands behind a tree of the tighter rows
  looser_row : (row n : ℕ) → Looser row n → operator_in (suc row) (part_of (token_at t n).word) ≡ None → Looser (suc row) n
  unfolding operator_in
  looser_row row n h e o f =
      let d : row_of o ≡ suc row → ⊥ = in_row_missing (suc row) o (rw f at e) in
      omega (arith, h o f)

  module _ (depth : ℕ) where
    -- behind a tree of the row, operators of the row with operands of the tighter rows
    joined_read : (d : ℕ → Parsed Expr) (row : ℕ) → ((at : ℕ) → HoldsRead (Whole depth row at) (d at)) → (turns : ℕ) (left : Expr) (from at : ℕ)
        → Read depth (suc row) from left at → Looser row at → HoldsRead (Whole depth (suc row) from) (joined_from d (suc row) turns t left at)
    unfolding joined_from
    joined_read d row reads zero left from at r h = holds_stop
    joined_read d row reads (suc turns) left from at r h =
        by (λ tree n q h. joined_read d row reads turns tree from n q h) (operator_in (suc row) (part_of (token_at t at).word)) refl
      where
        by : ((tree : Expr) (n : ℕ) → Read depth (suc row) from tree n → Looser row n → HoldsRead (Whole depth (suc row) from) (joined_from d (suc row) turns t tree n))
            → (x : Option Operator) → operator_in (suc row) (part_of (token_at t at).word) ≡ x
            → HoldsRead (Whole depth (suc row) from) (by_lookup x (ok left at) (λ o. and_then (d (token_at t at).end) (λ right next. joined_from d (suc row) turns t (apply o (token_at t at).start left right) next)))
        by more None e = holds_ok (record { read = r; looser = looser_row row at h e })
        by more (Some o) e =
            let f = operator_found (suc row) (part_of (token_at t at).word) e in
            let p = part_past at f.0 (λ z. let y : ◌≡◌ {A = ℕ} 0 1 = cc in omega arith) in
            holds_then (reads (token_at t at).end) (λ right n w.
            let q = w.read in
            more (apply o (token_at t at).start left right) n (record {
              past = omega (arith, r.past, q.past, p.0);
              within = q.within;
              grouped = grouped_apply r.grouped q.grouped (omega (arith, r.binds, f.1)) (omega (arith, q.binds, f.1));
              binds = omega (arith, f.1);
              nested = nested_apply r.nested q.nested;
              spelt = spelt_apply r.spelt f.0 q.spelt;
            }) w.looser)

    rows_read : (d : ℕ → Parsed Expr) → ((at : ℕ) → HoldsRead (Read depth 0 at) (d at)) → (row at : ℕ) → HoldsRead (Whole depth row at) (row_at d row t at)
    unfolding row_at
    rows_read d reads zero at = holds_more (λ e n r. record { read = r; looser = λ o _. row_some o }) (reads at)
    rows_read d reads (suc row) at =
        holds_then (rows_read d reads row at) (λ left n w.
        let r = w.read in
        joined_read (row_at d row t) row (rows_read d reads row) (suc (length t)) left at n
        (record { past = r.past; within = r.within; grouped = r.grouped; binds = omega (arith, r.binds); nested = r.nested; spelt = r.spelt }) w.looser)

  close_read : (depth at : ℕ) → part_of (token_at t at).word ≡ part.Open → (x : Expr) (n : ℕ) → Read depth row_count (token_at t at).end x n
      → HoldsRead (Read (suc depth) 0 at) (closed_at (inside (token_at t at).start x) t n)
  unfolding closed_at
  close_read depth at e x n r =
      either (HoldsRead (Read (suc depth) 0 at)) (is_close (part_of (token_at t n).word))
      (λ y.
      let z = close_found (part_of (token_at t n).word) y in
      let p = part_past at e (λ z. let y : ◌≡◌ {A = ℕ} 0 1 = cc in omega arith) in
      let q = part_past n z (λ z. let y : ◌≡◌ {A = ℕ} 0 1 = cc in omega arith) in
      holds_ok (record {
        past = omega (arith, p.0, q.0, r.past);
        within = q.1;
        grouped = grouped_inside r.grouped;
        binds = omega arith;
        nested = nested_inside r.nested;
        spelt = spelt_inside e r.spelt z;
      }))
      (λ _. holds_stop)

  with_read : (depth : ℕ) (f : ℕ → ℕ → Parsed Expr) → ((at : ℕ) → part_of (token_at t at).word ≡ part.Open
      → HoldsRead (Read depth 0 at) (and_then (f (token_at t at).start (token_at t at).end) (λ e next. closed_at (inside (token_at t at).start e) t next)))
      → (at : ℕ) → HoldsRead (Read depth 0 at) (operand_with f t at)
  unfolding operand_with
  with_read depth f reads at = by (part_of (token_at t at).word) refl
    where
      by : (q : ExpressionWord) → part_of (token_at t at).word ≡ q → HoldsRead (Read depth 0 at) (operand_of f t (token_at t at) q)
      by (part.Literal v) e =
          let p = part_past at e (λ z. let y : ◌≡◌ {A = ℕ} 0 1 = cc in omega arith) in
          holds_ok (record {
            past = p.0;
            within = p.1;
            grouped = grouped_literal {n = v} {p = (token_at t at).start};
            binds = omega arith;
            nested = nested_literal {n = v} {p = (token_at t at).start};
            spelt = spelt_literal e;
          })
      by part.Open e = reads at e
      by part.Close e = holds_stop
      by (part.Binary o) e = holds_stop
      by part.Other e = holds_stop

  pub operand_read : (depth at : ℕ) → HoldsRead (Read depth 0 at) (operand_at depth t at)
  unfolding operand_at and_then
  operand_read zero at = with_read zero (λ p next. stop 18 p) (λ at e. holds_stop) at
  operand_read (suc depth) at =
      with_read (suc depth) (λ p next. row_at (operand_at depth t) row_count t next)
      (λ at e. holds_then (rows_read depth (operand_at depth t) (operand_read depth) row_count (token_at t at).end) (λ x n w. close_read depth at e x n w.read)) at

  pub row_read : (depth row at : ℕ) → HoldsRead (Whole depth row at) (row_at (operand_at depth t) row t at)
  row_read depth row at = rows_read depth (operand_at depth t) (operand_read depth) row at

  looser_none : (n : ℕ) → Looser row_count n → is_operator (part_of (token_at t n).word) ≡ false
  looser_none n h = by (part_of (token_at t n).word) refl
    where
      by : (q : ExpressionWord) → part_of (token_at t n).word ≡ q → is_operator q ≡ false
      by (part.Literal v) e = refl
      by part.Open e = refl
      by part.Close e = refl
      by (part.Binary o) e = absurd (omega (arith, h o e, row_last o))
      by part.Other e = refl

-- what is read is an expression
pub expression_sound : (t : List ℕ) (at : ℕ) {e : Expr} {n : ℕ} → expression_at t at ≡ ok e n → Expression t at e n
unfolding expression_at
expression_sound t at {e} {n} q =
    let w = holds_of (row_read t parenthesis_limit row_count at) q in
    record { spelt = w.read.spelt; grouped = w.read.grouped; nested = w.read.nested; ends = looser_none t n w.looser }

pub read_grouped : (t : List ℕ) (at : ℕ) {e : Expr} {n : ℕ} → expression_at t at ≡ ok e n → Grouped e
read_grouped t at q = (expression_sound t at q).grouped

pub read_spelt : (t : List ℕ) (at : ℕ) {e : Expr} {n : ℕ} → expression_at t at ≡ ok e n → WordsSpell t at e n
read_spelt t at q = (expression_sound t at q).spelt
