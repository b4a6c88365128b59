-- Every expression is read: what the words spell, grouped and not too deep, with no operator behind it, is what the grammar gives. So the
-- words have one such tree.
use mathlib.Core.Bool.{Bool, true, false}
use mathlib.Core.Path.{◌≡◌, refl, sym, ap, ◌∙◌}
use mathlib.Core.List.{List}
use Prim.Native.Nat.{ℕ, zero, suc, ◌+◌, ◌-◌, ◌<◌, ◌≤◌}
use native.Mathlib.Omega.{arith}
use lib.Dec.{leb}
use lib.ListN.{length}
use borrow.Author.Tests.{leb-true, leb-false, ne_eqb, eq-eqb}
use Rattle.lex.specs.Token.{token_at}
use Rattle.operators.specs.declared.Operator.{Operator}
use Rattle.operators.specs.Operators.{row_of, row_count}
use Rattle.expressions.specs.Reading.{ok}
use Rattle.expressions.specs.Words.{part_of, is_operator, in_row, operator_in}
use Rattle.expressions.specs.Tree.{Expr, literal, inside, apply}
use Rattle.expressions.specs.Grammar.{joined_from, row_at, closed_at, operand_with, operand_at, expression_at}
use Rattle.expressions.specs.Grouping.{row_on, Grouped, grouped_inside, grouped_apply, Nested, nested_literal, nested_inside, nested_apply, WordsSpell, spelt_literal, spelt_inside, spelt_apply, Expression}
use Rattle.expressions.specs.declared.ExpressionWord.{ExpressionWord}
use Rattle.expressions.specs.declared.ExpressionWord.TheVariants as part
use Rattle.expressions.proofs.Readings.{then_ok}
use Rattle.expressions.proofs.Trees.{Looser, part_past, row_bounds}
use Rattle.expressions.proofs.Faults.{spelt_lies}
use Rattle.std.specs.Prelude.{None}

module _ (t : List ℕ) where
  -- an operator that stands at the cursor binds looser than the row, so none of the row or of a tighter one is found
  looser_missing : (row k n : ℕ) → Looser t row n → k ≤ row → operator_in k (part_of (token_at t n).word) ≡ None
  unfolding operator_in in_row
  looser_missing row k n h l = by (part_of (token_at t n).word) refl
    where
      by : (q : ExpressionWord) → part_of (token_at t n).word ≡ q → operator_in k q ≡ None
      by (part.Literal v) e = refl
      by part.Open e = refl
      by part.Close e = refl
      by (part.Binary o) e = rw (ne_eqb (row_of o) k (λ z. omega (arith, h o e)))
      by part.Other e = refl

  looser_close : (row n : ℕ) → part_of (token_at t n).word ≡ part.Close → Looser t row n
  looser_close row n e o f = absurd (let z : ◌≡◌ {A = ℕ} 0 1 = cc in omega arith)

  -- behind an operator's left operand stands that operator
  looser_operator : (row n : ℕ) {o : Operator} → part_of (token_at t n).word ≡ part.Binary o → row < row_of o → Looser t row n
  looser_operator row n {o} e h p f =
      let z : o ≡ p = cc in
      rw z at h

  module _ (depth : ℕ) where
    row_more : (row at n : ℕ) (e : Expr) → row_at (operand_at depth t) row t at ≡ ok e n → operator_in (suc row) (part_of (token_at t n).word) ≡ None
        → row_at (operand_at depth t) (suc row) t at ≡ ok e n
    unfolding row_at joined_from
    row_more row at n e q h = then_ok _ q ∙ rw h

    -- looser rows find nothing more
    row_lift : (k at n : ℕ) (e : Expr) → row_at (operand_at depth t) k t at ≡ ok e n → (row : ℕ) → k ≤ row → Looser t row n → row_at (operand_at depth t) row t at ≡ ok e n
    row_lift k at n e q zero l h = let z : k ≡ 0 = omega arith in rw z at q
    row_lift k at n e q (suc row) l h = by (λ m. row_lift k at n e q row m (λ o f. omega (arith, h o f))) (leb k row) refl
      where
        more : row_at (operand_at depth t) row t at ≡ ok e n → row_at (operand_at depth t) (suc row) t at ≡ ok e n
        more f = row_more row at n e f (looser_missing (suc row) (suc row) n h (omega arith))

        by : (k ≤ row → row_at (operand_at depth t) row t at ≡ ok e n) → (b : Bool) → leb k row ≡ b → row_at (operand_at depth t) (suc row) t at ≡ ok e n
        by f true m = more (f (leb-true k row m))
        by f false m = let z : k ≡ suc row = omega (arith, leb-false k row m) in rw z at q

    -- how the loop of a row comes to a tree: from a tree of the tighter rows, by so many operators
    record Reaches (row at : ℕ) (e : Expr) (n : ℕ) : Type 0 where
      first : Expr
      next : ℕ
      count : ℕ
      begins : row_at (operand_at depth t) row t at ≡ ok first next
      goes : (turns : ℕ) → joined_from (row_at (operand_at depth t) row t) (suc row) (count + turns) t first next ≡ joined_from (row_at (operand_at depth t) row t) (suc row) turns t e n
      room : next + count ≤ n

    -- a tree is read in its row and in every looser one, and the loop of its row or of a looser one comes to it
    record Both (e : Expr) : Type 0 where
      reads : (at n row : ℕ) → WordsSpell t at e n → Grouped e → row_on e ≤ row → Looser t row n → row_at (operand_at depth t) row t at ≡ ok e n
      reaches : (at n row : ℕ) → WordsSpell t at e n → Grouped e → row_on e ≤ suc row → Looser t row n → Reaches row at e n

    at_once : (row at n : ℕ) (e : Expr) → row_at (operand_at depth t) row t at ≡ ok e n → Reaches row at e n
    at_once row at n e q = record { first = e; next = n; count = 0; begins = q; goes = λ turns. ap (λ (k : ℕ). joined_from (row_at (operand_at depth t) row t) (suc row) k t e n) (omega arith); room = omega arith }

    operand_both : (e : Expr) → row_on e ≡ 0 → ((at n : ℕ) → WordsSpell t at e n → Grouped e → operand_at depth t at ≡ ok e n) → Both e
    unfolding row_at
    operand_both e z f = record {
      reads = λ at n row s g l h. row_lift 0 at n e (f at n s g) row (omega arith) h;
      reaches = λ at n row s g l h. at_once row at n e (row_lift 0 at n e (f at n s g) row (omega arith) h);
    }

    joined_turn : (row turns m n : ℕ) (o : Operator) (l r : Expr) → part_of (token_at t m).word ≡ part.Binary o → row_of o ≡ suc row
        → row_at (operand_at depth t) row t (token_at t m).end ≡ ok r n
        → joined_from (row_at (operand_at depth t) row t) (suc row) (suc turns) t l m ≡ joined_from (row_at (operand_at depth t) row t) (suc row) turns t (apply o (token_at t m).start l r) n
    unfolding joined_from operator_in in_row
    joined_turn row turns m n o l r e k q = rw (e, eq-eqb (row_of o) (suc row) k) (then_ok _ q)

    joined_ends : (row turns n : ℕ) (e : Expr) → operator_in (suc row) (part_of (token_at t n).word) ≡ None
        → joined_from (row_at (operand_at depth t) row t) (suc row) (suc turns) t e n ≡ ok e n
    unfolding joined_from
    joined_ends row turns n e h = rw h

    row_begins : (row at : ℕ) (e : Expr) (n : ℕ) → row_at (operand_at depth t) row t at ≡ ok e n
        → row_at (operand_at depth t) (suc row) t at ≡ joined_from (row_at (operand_at depth t) row t) (suc row) (suc (length t)) t e n
    unfolding row_at
    row_begins row at e n q = then_ok _ q

    -- one operator more
    reaches_on : (row at m n : ℕ) (o : Operator) (l r : Expr) → Reaches row at l m → part_of (token_at t m).word ≡ part.Binary o → row_of o ≡ suc row
        → row_at (operand_at depth t) row t (token_at t m).end ≡ ok r n → m < n → Reaches row at (apply o (token_at t m).start l r) n
    reaches_on row at m n o l r x e k q h = record {
      first = x.first;
      next = x.next;
      count = suc x.count;
      begins = x.begins;
      goes = λ turns. ap (λ (c : ℕ). joined_from (row_at (operand_at depth t) row t) (suc row) c t x.first x.next) (omega arith) ∙ x.goes (suc turns) ∙ turn turns;
      room = omega (arith, x.room);
    }
      where
        turn : (turns : ℕ) → joined_from (row_at (operand_at depth t) row t) (suc row) (suc turns) t l m ≡ joined_from (row_at (operand_at depth t) row t) (suc row) turns t (apply o (token_at t m).start l r) n
        turn turns = joined_turn row turns m n o l r e k q

    -- the loop has turns enough, and ends at a tree with no operator of the row behind it
    reaches_row : (row at n : ℕ) (e : Expr) → Reaches row at e n → n ≤ length t → Looser t (suc row) n → row_at (operand_at depth t) (suc row) t at ≡ ok e n
    reaches_row row at n e x w h =
        let k : ℕ = length t - x.count in
        let c : suc (length t) ≡ x.count + suc k = omega (arith, x.room) in
        row_begins row at x.first x.next x.begins
        ∙ ap (λ (c : ℕ). joined_from (row_at (operand_at depth t) row t) (suc row) c t x.first x.next) c
        ∙ x.goes (suc k)
        ∙ joined_ends row k n e (looser_missing (suc row) (suc row) n h (omega arith))

    -- the loop of its own row
    own : (o : Operator) (p : ℕ) (l r : Expr) → Both l → Both r → (at n row : ℕ) → row_of o ≡ suc row → WordsSpell t at (apply o p l r) n → Grouped (apply o p l r) → Looser t row n
        → Reaches row at (apply o p l r) n
    own o p l r x y at n row k (spelt_apply {m = m} s e u) (grouped_apply g q a b) h =
        reaches_on row at m n o l r
        (x.reaches at m row s g (omega arith) (looser_operator row m e (omega arith)))
        e k (y.reads (token_at t m).end n row u q (omega arith) h)
        (omega (arith, (spelt_lies t u).past, (part_past t m e (λ z. let y : ◌≡◌ {A = ℕ} 0 1 = cc in omega arith)).0))

    apply_both : (o : Operator) (p : ℕ) (l r : Expr) → Both l → Both r → Both (apply o p l r)
    apply_both o p l r x y = record { reads = reads; reaches = reaches }
      where
        reads : (at n row : ℕ) → WordsSpell t at (apply o p l r) n → Grouped (apply o p l r) → row_of o ≤ row → Looser t row n → row_at (operand_at depth t) row t at ≡ ok (apply o p l r) n
        reads at n row s g k h =
            let j : ℕ = row_of o - 1 in
            let one : row_of o ≡ suc j = omega (arith, row_bounds o) in
            row_lift (suc j) at n (apply o p l r)
            (reaches_row j at n (apply o p l r) (own o p l r x y at n j one s g (λ c f. omega (arith, h c f))) (spelt_lies t s).within (λ c f. omega (arith, h c f)))
            row (omega arith) h

        reaches : (at n row : ℕ) → WordsSpell t at (apply o p l r) n → Grouped (apply o p l r) → row_of o ≤ suc row → Looser t row n → Reaches row at (apply o p l r) n
        reaches at n row s g k h = by (leb (row_of o) row) refl
          where
            by : (b : Bool) → leb (row_of o) row ≡ b → Reaches row at (apply o p l r) n
            by true e = at_once row at n (apply o p l r) (reads at n row s g (leb-true (row_of o) row e) h)
            by false e = own o p l r x y at n row (omega (arith, leb-false (row_of o) row e)) s g h

  literal_read : (depth at n v p : ℕ) → WordsSpell t at (literal v p) n → operand_at depth t at ≡ ok (literal v p) n
  unfolding operand_at operand_with
  literal_read zero at n v p (spelt_literal e) = rw e
  literal_read (suc depth) at n v p (spelt_literal e) = rw e

  inside_read : (depth at n p : ℕ) (e : Expr) → Both depth e → WordsSpell t at (inside p e) n → Grouped (inside p e) → operand_at (suc depth) t at ≡ ok (inside p e) n
  unfolding operand_at operand_with closed_at
  inside_read depth at n p e x (spelt_inside {n = m} f s h) (grouped_inside g) =
      rw f (then_ok _ (x.reads (token_at t at).end m row_count s g (binds e) (looser_close row_count m h)) ∙ rw h)
    where
      binds : (e : Expr) → row_on e ≤ row_count
      binds (literal v p) = omega arith
      binds (inside p e) = omega arith
      binds (apply o p l r) = (row_bounds o).1

  -- by recursion on the tree, the parentheses still allowed falling
  both : {depth : ℕ} {e : Expr} → Nested depth e → Both depth e
  both {depth} (nested_literal {n = v} {p = p}) = operand_both depth (literal v p) refl (λ at n s g. literal_read depth at n v p s)
  both (nested_inside {d = d} {p = p} {e = e} x) = operand_both (suc d) (inside p e) refl (λ at n s g. inside_read d at n p e (both x) s g)
  both {depth} (nested_apply {p = p} {o = o} {l = l} {r = r} x y) = apply_both depth o p l r (both x) (both y)

-- what is an expression is read
pub expression_complete : (t : List ℕ) (at : ℕ) {e : Expr} {n : ℕ} → Expression t at e n → expression_at t at ≡ ok e n
unfolding expression_at
expression_complete t at {e} {n} x =
    (both t x.nested).reads at n row_count x.spelt x.grouped (binds e) (λ o f. absurd (none o f x.ends))
  where
    binds : (e : Expr) → row_on e ≤ row_count
    binds (literal v p) = omega arith
    binds (inside p e) = omega arith
    binds (apply o p l r) = (row_bounds o).1

    none : (o : Operator) → part_of (token_at t n).word ≡ part.Binary o → is_operator (part_of (token_at t n).word) ≡ false → ⊥
    none o f g =
        let h : true ≡ false = rw f at g in
        let z : ◌≡◌ {A = ℕ} 0 1 = cc in
        omega arith

-- "grouping is unique", said of the words: from a cursor on they spell one expression
pub expression_unique : (t : List ℕ) (at : ℕ) {e f : Expr} {n m : ℕ} → Expression t at e n → Expression t at f m → (e ≡ f) × (n ≡ m)
expression_unique t at {e} {f} {n} {m} x y =
    let q : ok e n ≡ ok f m = sym (expression_complete t at x) ∙ expression_complete t at y in
    ((cc), (cc))
