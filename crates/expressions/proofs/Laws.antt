-- The readers, one law for each way that the code goes.
use mathlib.Core.Bool.{Bool, true, false}
use mathlib.Core.Path.{◌≡◌, refl, sym, ap, ◌∙◌}
use mathlib.Core.List.{List}
use Prim.Native.Nat.{ℕ, zero, suc, ◌-◌, ◌<◌, ◌≤◌}
use native.Mathlib.Omega.{arith}
use lib.ListN.{length}
use borrow.Author.Tests.{eq-eqb, ne_eqb}
use Rattle.std.specs.Prelude.{if◌then◌else◌, Option, Some, None}
use Rattle.lex.specs.Token.{token_at}
use Rattle.lex.specs.declared.Token.{Token}
use Rattle.operators.specs.declared.Operator.{Operator}
use Rattle.operators.specs.Operators.{row_of, row_count, result_of}
use Rattle.expressions.specs.Reading.{Parsed, ok, stop, and_then, mapped}
use Rattle.expressions.specs.Words.{part_of, is_close, in_row, operator_in}
use Rattle.expressions.specs.Tree.{Expr, inside, apply}
use Rattle.expressions.specs.Value.{sound, earlier, given, settled, joined, placed, evaluated}
use Rattle.expressions.specs.Grammar.{joined_from, row_at, closed_at, operand_with, operand_at}
use Rattle.expressions.specs.declared.ExpressionWord.{ExpressionWord}
use Rattle.expressions.specs.declared.ExpressionWord.TheVariants as part
use Rattle.expressions.specs.declared.Number.{Number}
use Rattle.expressions.proofs.Readings.{then_ok, then_stop, mapped_done, mapped_stopped, holds_of}
use Rattle.expressions.proofs.Rest.{Rest, rest_on}
use Rattle.expressions.proofs.Trees.{operator_found, part_past, row_read}

-- an operator of a row
module _ (o : Operator) (row : ℕ) {n : ℕ} (e : n ≡ row_of o) where
  pub row_same : n ≡ row → Some o ≡ in_row row o
  unfolding in_row
  row_same f = rw (eq-eqb (row_of o) row (sym e ∙ f))

  pub row_other : (n ≡ row → ⊥) → None ≡ in_row row o
  unfolding in_row
  row_other f = rw (ne_eqb (row_of o) row (λ z. f (e ∙ z)))

-- an operator between two numbers
pub join_numbers : (o : Operator) (p : ℕ) (l r : Number) {x : Option ℕ} {u : Option ℕ} {g s : Number} → x ≡ result_of o l.value r.value
    → u ≡ earlier l.refusal r.refusal → g ≡ given p l.place x → s ≡ settled u l.place g → s ≡ joined o p l r
unfolding joined
join_numbers o p l r e f g h = rw (← e, ← f, ← g) h

-- the closing parenthesis
module _ (t : List ℕ) (at : ℕ) {k : Token} {q : ExpressionWord} {b : Bool} (e : k ≡ token_at t at) (f : q ≡ part_of k.word) (g : b ≡ is_close q) where
  pub closed_yes : {A : Type 0} (a : A) → b ≡ true → ok a k.end ≡ closed_at a t at
  unfolding closed_at
  closed_yes a h = rw (← e, ← f, sym g ∙ h)

  pub closed_no : {A : Type 0} (a : A) → b ≡ false → stop 3 k.start ≡ closed_at a t at
  unfolding closed_at
  closed_no a h = rw (← e, ← f, sym g ∙ h)

mapped-closed : {A B : Type 0} (f : A → B) (a : A) (t : List ℕ) (at : ℕ) → mapped f (closed_at a t at) ≡ closed_at (f a) t at
unfolding closed_at mapped
mapped-closed f a t at = by (is_close (part_of (token_at t at).word))
  where
    by : (b : Bool) → mapped f (if b then ok a (token_at t at).end else stop 3 (token_at t at).start) ≡ (if b then ok (f a) (token_at t at).end else stop 3 (token_at t at).start)
    by true = refl
    by false = refl

-- an operand
module _ (t : List ℕ) (at : ℕ) {k : Token} {q : ExpressionWord} (e : k ≡ token_at t at) (f : q ≡ part_of k.word) where
  pub operand_literal : (depth : ℕ) {v : ℕ} → q ≡ part.Literal v → ok (sound v k.start) k.end ≡ mapped evaluated (operand_at depth t at)
  unfolding operand_at operand_with mapped evaluated
  operand_literal zero h = rw (← e, sym f ∙ h)
  operand_literal (suc depth) h = rw (← e, sym f ∙ h)

  pub operand_closing : (depth : ℕ) → q ≡ part.Close → stop 3 k.start ≡ mapped evaluated (operand_at depth t at)
  unfolding operand_at operand_with mapped
  operand_closing zero h = rw (← e, sym f ∙ h)
  operand_closing (suc depth) h = rw (← e, sym f ∙ h)

  pub operand_operator : (depth : ℕ) {o : Operator} → q ≡ part.Binary o → stop 3 k.start ≡ mapped evaluated (operand_at depth t at)
  unfolding operand_at operand_with mapped
  operand_operator zero h = rw (← e, sym f ∙ h)
  operand_operator (suc depth) h = rw (← e, sym f ∙ h)

  pub operand_other : (depth : ℕ) → q ≡ part.Other → stop 3 k.start ≡ mapped evaluated (operand_at depth t at)
  unfolding operand_at operand_with mapped
  operand_other zero h = rw (← e, sym f ∙ h)
  operand_other (suc depth) h = rw (← e, sym f ∙ h)

  deeper : q ≡ part.Open → (n : ℕ) → operand_at (suc n) t at ≡ and_then (row_at (operand_at n t) row_count t k.end) (λ e next. closed_at (inside k.start e) t next)
  unfolding operand_at operand_with
  deeper h n = rw (← e, sym f ∙ h)

  module _ {depth : ℕ} (h : q ≡ part.Open) where
    pub operand_deep : depth ≡ 0 → stop 18 k.start ≡ mapped evaluated (operand_at depth t at)
    unfolding operand_at operand_with mapped and_then
    operand_deep z = rw (z, ← e, sym f ∙ h)

    opened : (depth ≡ 0 → ⊥) → operand_at depth t at ≡ and_then (row_at (operand_at (depth - 1) t) row_count t k.end) (λ e next. closed_at (inside k.start e) t next)
    opened z =
        let one : depth ≡ suc (depth - 1) = omega arith in
        ap (λ (n : ℕ). operand_at n t at) one ∙ deeper h (depth - 1)

    module _ {x : Parsed Number} (z : depth ≡ 0 → ⊥) (read : x ≡ mapped evaluated (row_at (operand_at (depth - 1) t) row_count t k.end)) where
      pub operand_stop : {n p : ℕ} → x ≡ stop n p → stop n p ≡ mapped evaluated (operand_at depth t at)
      unfolding mapped
      operand_stop g = rw (opened z ∙ then_stop _ (mapped_stopped evaluated _ (rw g at read)))

      pub operand_close : {v : Number} {n : ℕ} {y : Parsed Number} → x ≡ ok v n → y ≡ closed_at (placed k.start v) t n → y ≡ mapped evaluated (operand_at depth t at)
      unfolding evaluated
      operand_close {n = n} g j =
          let d = mapped_done evaluated (row_at (operand_at (depth - 1) t) row_count t k.end) (rw g at read) in
          j ∙ ap (λ (v : Number). closed_at (placed k.start v) t n) (sym d.1.1)
          ∙ sym (ap (mapped evaluated) (opened z ∙ then_ok _ d.1.0) ∙ mapped-closed evaluated (inside k.start d.0) t n)

-- the invariant of the loop over one row's operators: `left` is the value of a tree, from which what is left comes to the whole
pub record Joining (d : ℕ → Parsed Expr) (row : ℕ) (t : List ℕ) (at : ℕ) (left : Number) (whole : Parsed Number) : Type 0 where
  pub tree : Expr
  pub value : evaluated tree ≡ left
  pub rest : Rest (length t) at (λ k. mapped evaluated (joined_from d row k t tree at)) whole

-- a row
module _ (t : List ℕ) (depth row : ℕ) where
  pub row_zero : (at : ℕ) {y : Parsed Number} → row ≡ 0 → y ≡ mapped evaluated (operand_at depth t at) → y ≡ mapped evaluated (row_at (operand_at depth t) row t at)
  unfolding row_at
  row_zero at z e = rw z e

  module _ (z : row ≡ 0 → ⊥) where
    looser_suc : (at r : ℕ) → row_at (operand_at depth t) (suc r) t at
        ≡ and_then (row_at (operand_at depth t) r t at) (λ left next. joined_from (row_at (operand_at depth t) r t) (suc r) (suc (length t)) t left next)
    unfolding row_at
    looser_suc at r = refl

    looser : (at : ℕ) → row_at (operand_at depth t) row t at
        ≡ and_then (row_at (operand_at depth t) (row - 1) t at) (λ left next. joined_from (row_at (operand_at depth t) (row - 1) t) row (suc (length t)) t left next)
    looser at =
        let one : suc (row - 1) ≡ row = omega arith in
        rw one at (looser_suc at (row - 1))

    module _ (at : ℕ) {x : Parsed Number} (read : x ≡ mapped evaluated (row_at (operand_at depth t) (row - 1) t at)) where
      pub row_stop : {n p : ℕ} → x ≡ stop n p → stop n p ≡ mapped evaluated (row_at (operand_at depth t) row t at)
      unfolding mapped
      row_stop g = rw (looser at ∙ then_stop _ (mapped_stopped evaluated _ (rw g at read)))

      pub row_begin : {v : Number} {n : ℕ} → x ≡ ok v n
          → Joining (row_at (operand_at depth t) (row - 1) t) row t n v (mapped evaluated (row_at (operand_at depth t) row t at))
      row_begin {n = n} g =
          let d = mapped_done evaluated (row_at (operand_at depth t) (row - 1) t at) (rw g at read) in
          record { tree = d.0; value = d.1.1; rest = record { turns = length t; enough = omega arith; same = sym (ap (mapped evaluated) (looser at ∙ then_ok _ d.1.0)) } }

    module _ (at : ℕ) {left : Number} {whole : Parsed Number} {k : Token} {q : ExpressionWord} {l : Option Operator}
        (r : Joining (row_at (operand_at depth t) (row - 1) t) row t at left whole) (e : k ≡ token_at t at) (f : q ≡ part_of k.word) (g : l ≡ operator_in row q) where
      pub join_done : l ≡ None → ok left at ≡ whole
      unfolding joined_from mapped
      join_done h =
          let s : mapped evaluated (joined_from (row_at (operand_at depth t) (row - 1) t) row (suc r.rest.turns) t r.tree at) ≡ ok (evaluated r.tree) at =
          rw (← e, ← f, sym g ∙ h) in
          ap (λ (v : Number). ok v at) (sym r.value) ∙ sym s ∙ r.rest.same

      turn : {o : Operator} → l ≡ Some o → (n : ℕ) → joined_from (row_at (operand_at depth t) (row - 1) t) row (suc n) t r.tree at
          ≡ and_then (row_at (operand_at depth t) (row - 1) t k.end) (λ right next. joined_from (row_at (operand_at depth t) (row - 1) t) row n t (apply o k.start r.tree right) next)
      unfolding joined_from
      turn h n = rw (← e, ← f, sym g ∙ h)

      module _ {o : Operator} {x : Parsed Number} (h : l ≡ Some o) (read : x ≡ mapped evaluated (row_at (operand_at depth t) (row - 1) t k.end)) where
        pub join_stop : {n p : ℕ} → x ≡ stop n p → stop n p ≡ whole
        unfolding mapped
        join_stop {n} {p} i =
            let s : mapped evaluated (joined_from (row_at (operand_at depth t) (row - 1) t) row (suc r.rest.turns) t r.tree at) ≡ stop n p =
            ap (mapped evaluated) (turn h r.rest.turns ∙ then_stop _ (mapped_stopped evaluated _ (rw i at read))) in
            sym s ∙ r.rest.same

        module _ {v : Number} {n : ℕ} (i : x ≡ ok v n) where
          pub join_past : (at < n) × (n ≤ length t)
          join_past =
              let d = mapped_done evaluated (row_at (operand_at depth t) (row - 1) t k.end) (rw i at read) in
              let w = (holds_of (row_read t depth (row - 1) k.end) d.1.0).read in
              let b = operator_found row q (sym g ∙ h) in
              let c : part_of (token_at t at).word ≡ part.Binary o = rw e at (sym f ∙ b.0) in
              let p = part_past t at c (λ z. let y : ◌≡◌ {A = ℕ} 0 1 = cc in omega arith) in
              let m : (token_at t at).end < n = rw e at w.past in
              (omega (arith, p.0), w.within)

          pub join_more : {new : Number} → new ≡ joined o k.start left v → Joining (row_at (operand_at depth t) (row - 1) t) row t n new whole
          unfolding evaluated
          join_more j =
              let d = mapped_done evaluated (row_at (operand_at depth t) (row - 1) t k.end) (rw i at read) in
              record {
                tree = apply o k.start r.tree d.0;
                value = rw (r.value, d.1.1) (sym j);
                rest = rest_on r.rest (omega (arith, join_past)) join_past.0 (λ m. sym (ap (mapped evaluated) (turn h m ∙ then_ok _ d.1.0)));
              }
