-- A refused expression is refused at the first of its operators at fault; one that is not refused has none.
use mathlib.Core.Path.{◌≡◌, refl, sym, ◌∙◌}
use mathlib.Core.List.{List}
use Prim.Native.Nat.{ℕ, ◌<◌, ◌≤◌}
use native.Mathlib.Omega.{arith}
use lib.ListN.{length, drop}
use Rattle.lex.specs.Blank.{next_from}
use Rattle.lex.specs.Token.{token_past, token_at}
use Rattle.lex.specs.declared.Word.TheVariants as word
use Rattle.lex.proofs.Bounds.{Found, from_lies, next_found, token-within}
use Rattle.operators.specs.declared.Operator.{Operator}
use Rattle.operators.specs.Operators.{result_of}
use Rattle.expressions.specs.Reading.{ok}
use Rattle.expressions.specs.Words.{part_of}
use Rattle.expressions.specs.Tree.{Expr, literal, inside, apply}
use Rattle.expressions.specs.Value.{earlier, given, settled, joined, evaluated}
use Rattle.expressions.specs.Grammar.{expression_at, number_at}
use Rattle.expressions.specs.Grouping.{WordsSpell, spelt_literal, spelt_inside, spelt_apply}
use Rattle.expressions.specs.Faults.{Faulty, faulty_here, faulty_left, faulty_right, faulty_inside}
use Rattle.expressions.specs.declared.ExpressionWord.{ExpressionWord}
use Rattle.expressions.specs.declared.ExpressionWord.TheVariants as part
use Rattle.expressions.specs.declared.Number.{Number}
use Rattle.expressions.proofs.Readings.{mapped_done}
use Rattle.expressions.proofs.Trees.{part_past, read_spelt}
use Rattle.std.specs.Prelude.{Result, Ok, Err, Option, Some, None}

-- why an operator between two numbers is refused, or is not
data Why (o : Operator) (p : ℕ) (l r : Number) : Option ℕ → Type 0 where
  why_left : {a : ℕ} → l.refusal ≡ Some a → Why o p l r (Some a)
  why_right : {b : ℕ} → l.refusal ≡ None → r.refusal ≡ Some b → Why o p l r (Some b)
  why_here : l.refusal ≡ None → r.refusal ≡ None → result_of o l.value r.value ≡ None → Why o p l r (Some p)
  why_not : {n : ℕ} → l.refusal ≡ None → r.refusal ≡ None → result_of o l.value r.value ≡ Some n → Why o p l r None

why : (o : Operator) (p : ℕ) (l r : Number) → Why o p l r (joined o p l r).refusal
unfolding joined given settled
why o p l r = by l.refusal refl r.refusal refl (result_of o l.value r.value) refl
  where
    by : (x : Option ℕ) → l.refusal ≡ x → (y : Option ℕ) → r.refusal ≡ y → (z : Option ℕ) → result_of o l.value r.value ≡ z
        → Why o p l r (settled (earlier x y) l.place (given p l.place z)).refusal
    by (Some a) e y f z g = why_left e
    by None e (Some b) f z g = why_right e f
    by None e None f None g = why_here e f g
    by None e None f (Some n) g = why_not e f g

apart : {A : Type 0} {x : Option ℕ} {p : ℕ} → x ≡ None → x ≡ Some p → A
apart e f = absurd (let z : ◌≡◌ {A = ℕ} 0 1 = cc in omega arith)

-- an operator at fault refuses the whole
faulty_refused : {e : Expr} {q : ℕ} → Faulty e q → (evaluated e).refusal ≡ None → ⊥
unfolding evaluated
faulty_refused (faulty_here {o = o} {p = p} {l = l} {r = r} a b c) h = by (rw h at (why o p (evaluated l) (evaluated r)))
  where
    by : Why o p (evaluated l) (evaluated r) None → ⊥
    by (why_not x y z) = let u : ◌≡◌ {A = ℕ} 0 1 = cc in omega arith
faulty_refused (faulty_left {o = o} {p = p} {l = l} {r = r} f) h = by (faulty_refused f) (rw h at (why o p (evaluated l) (evaluated r)))
  where
    by : ((evaluated l).refusal ≡ None → ⊥) → Why o p (evaluated l) (evaluated r) None → ⊥
    by n (why_not x y z) = n x
faulty_refused (faulty_right {o = o} {p = p} {l = l} {r = r} f) h = by (faulty_refused f) (rw h at (why o p (evaluated l) (evaluated r)))
  where
    by : ((evaluated r).refusal ≡ None → ⊥) → Why o p (evaluated l) (evaluated r) None → ⊥
    by n (why_not x y z) = n y
faulty_refused (faulty_inside f) h = faulty_refused f h

-- "a result outside that range, a shift of 64 or more, or a zero divisor is refusal 9 at the operator"
pub refused_faulty : (e : Expr) {q : ℕ} → (evaluated e).refusal ≡ Some q → Faulty e q
unfolding evaluated
refused_faulty (literal n p) h = apart refl h
refused_faulty (inside p e) h = faulty_inside (refused_faulty e h)
refused_faulty (apply o p l r) h = by (λ b. refused_faulty l b) (λ b. refused_faulty r b) (rw h at (why o p (evaluated l) (evaluated r)))
  where
    by : {q : ℕ} → ((evaluated l).refusal ≡ Some q → Faulty l q) → ((evaluated r).refusal ≡ Some q → Faulty r q)
        → Why o p (evaluated l) (evaluated r) (Some q) → Faulty (apply o p l r) q
    by f g (why_left a) = faulty_left (f a)
    by f g (why_right a b) = faulty_right (g b)
    by f g (why_here a b c) = faulty_here a b c

joined_zero : (o : Operator) (p : ℕ) (l r : Number) {q : ℕ} → (joined o p l r).refusal ≡ Some q → (joined o p l r).value ≡ 0
unfolding joined settled given
joined_zero o p l r {q} = by (earlier l.refusal r.refusal) (result_of o l.value r.value)
  where
    by : (x : Option ℕ) (z : Option ℕ) → (settled x l.place (given p l.place z)).refusal ≡ Some q → (settled x l.place (given p l.place z)).value ≡ 0
    by (Some a) z h = refl
    by None None h = refl
    by None (Some n) h = apart refl h

-- the value of a refused expression
pub refused_zero : (e : Expr) {q : ℕ} → (evaluated e).refusal ≡ Some q → (evaluated e).value ≡ 0
unfolding evaluated
refused_zero (literal n p) h = apart refl h
refused_zero (inside p e) h = refused_zero e h
refused_zero (apply o p l r) h = joined_zero o p (evaluated l) (evaluated r) h

-- where an expression lies: its first byte, from the cursor to the cursor past it
pub record Lies (t : List ℕ) (at : ℕ) (e : Expr) (n : ℕ) : Type 0 where
  pub past : at < n
  pub within : n ≤ length t
  pub first : at ≤ (evaluated e).place
  pub before : (evaluated e).place < n

joined_place : (o : Operator) (p : ℕ) (l r : Number) → (joined o p l r).place ≡ l.place
unfolding joined settled given
joined_place o p l r = by (earlier l.refusal r.refusal) (result_of o l.value r.value)
  where
    by : (x : Option ℕ) (z : Option ℕ) → (settled x l.place (given p l.place z)).place ≡ l.place
    by (Some a) z = refl
    by None None = refl
    by None (Some n) = refl

module _ (t : List ℕ) where
  past_long : (at : ℕ) (x : Result ℕ ℕ) → Found at at (length t) x → ((token_past t x).word ≡ word.End → ⊥) → (token_past t x).start < (token_past t x).end
  past_long at (Ok i) f n = let l = from_lies i (drop i t) in omega (arith, l.starts, l.moves n)
  past_long at (Err o) f n = f.1

  -- a word that has a part in expressions starts at the cursor or behind it, and has bytes
  part_lies : (at : ℕ) {q : ExpressionWord} → part_of (token_at t at).word ≡ q → (q ≡ part.Other → ⊥) → (at ≤ (token_at t at).start) × ((token_at t at).start < (token_at t at).end)
  unfolding token_at part_of
  part_lies at e n =
      let p = part_past t at e n in
      let h : at ≤ length t = omega (arith, p.0, p.1) in
      ((token-within t at h).after, past_long at (next_from t at) (next_found t at h) (λ z. n (sym e ∙ ended z)))
    where
      ended : (token_at t at).word ≡ word.End → part_of (token_at t at).word ≡ part.Other
      ended z = rw z

  pub spelt_lies : {at n : ℕ} {e : Expr} → WordsSpell t at e n → Lies t at e n
  unfolding evaluated
  spelt_lies (spelt_literal {at = at} e) =
      let p = part_past t at e (λ z. let y : ◌≡◌ {A = ℕ} 0 1 = cc in omega arith) in
      let l = part_lies at e (λ z. let y : ◌≡◌ {A = ℕ} 0 1 = cc in omega arith) in
      record { past = p.0; within = p.1; first = l.0; before = l.1 }
  spelt_lies (spelt_inside {at = at} {n = n} e s f) =
      let p = part_past t at e (λ z. let y : ◌≡◌ {A = ℕ} 0 1 = cc in omega arith) in
      let l = part_lies at e (λ z. let y : ◌≡◌ {A = ℕ} 0 1 = cc in omega arith) in
      let q = part_past t n f (λ z. let y : ◌≡◌ {A = ℕ} 0 1 = cc in omega arith) in
      let i = spelt_lies s in
      record { past = omega (arith, p.0, q.0, i.past); within = q.1; first = l.0; before = omega (arith, l.1, q.0, i.past) }
  spelt_lies (spelt_apply {m = m} {o = o} {l = l} {r = r} s e u) =
      let p = part_past t m e (λ z. let y : ◌≡◌ {A = ℕ} 0 1 = cc in omega arith) in
      let i = spelt_lies s in
      let j = spelt_lies u in
      let k = joined_place o (token_at t m).start (evaluated l) (evaluated r) in
      record { past = omega (arith, p.0, i.past, j.past); within = j.within; first = omega (arith, k, i.first); before = omega (arith, k, p.0, i.before, j.past) }

  -- an operator at fault stands behind the first byte, before the cursor past the expression
  pub faulty_lies : {at n q : ℕ} {e : Expr} → WordsSpell t at e n → Faulty e q → ((evaluated e).place < q) × (q < n)
  unfolding evaluated
  faulty_lies {q = q} (spelt_literal {at = at} {v = v} _) x6 = elim x6 [ ]
  faulty_lies (spelt_inside {at = at} {n = n} e s f) (faulty_inside h) =
      let l = part_lies at e (λ z. let y : ◌≡◌ {A = ℕ} 0 1 = cc in omega arith) in
      let q = part_past t n f (λ z. let y : ◌≡◌ {A = ℕ} 0 1 = cc in omega arith) in
      let i = faulty_lies s h in
      (omega (arith, l.1, (spelt_lies s).first, i.0), omega (arith, q.0, i.1))
  faulty_lies (spelt_apply {m = m} {o = o} {l = l} {r = r} s e u) (faulty_here a b c) =
      let k = part_lies m e (λ z. let y : ◌≡◌ {A = ℕ} 0 1 = cc in omega arith) in
      let j = joined_place o (token_at t m).start (evaluated l) (evaluated r) in
      (omega (arith, j, (spelt_lies s).before, k.0), omega (arith, k.1, (spelt_lies u).past))
  faulty_lies (spelt_apply {m = m} {o = o} {l = l} {r = r} s e u) (faulty_left h) =
      let p = part_past t m e (λ z. let y : ◌≡◌ {A = ℕ} 0 1 = cc in omega arith) in
      let j = joined_place o (token_at t m).start (evaluated l) (evaluated r) in
      let i = faulty_lies s h in
      (omega (arith, j, i.0), omega (arith, p.0, i.1, (spelt_lies u).past))
  faulty_lies (spelt_apply {m = m} {o = o} {l = l} {r = r} s e u) (faulty_right h) =
      let p = part_past t m e (λ z. let y : ◌≡◌ {A = ℕ} 0 1 = cc in omega arith) in
      let j = joined_place o (token_at t m).start (evaluated l) (evaluated r) in
      let i = faulty_lies u h in
      (omega (arith, j, (spelt_lies s).before, p.0, (spelt_lies u).first, i.0), i.1)

  -- "of several the smallest place answers"
  pub refused_smallest : {at n q : ℕ} {e : Expr} → WordsSpell t at e n → {p : ℕ} → (evaluated e).refusal ≡ Some p → Faulty e q → p ≤ q
  unfolding evaluated
  refused_smallest {q = q} (spelt_literal {at = at} {v = v} _) {p = p} h k = elim k [ ]
  refused_smallest (spelt_inside e s f) h (faulty_inside k) = refused_smallest s h k
  refused_smallest (spelt_apply {m = m} {o = o} {l = l} {r = r} s e u) h k =
      by (rw h at (why o (token_at t m).start (evaluated l) (evaluated r))) k
      (λ a b. refused_smallest s a b) (λ a b. refused_smallest u a b)
      (λ a b. let i = faulty_lies s (refused_faulty l a) in let j = faulty_lies u b in
      let x = part_past t m e (λ z. let y : ◌≡◌ {A = ℕ} 0 1 = cc in omega arith) in
      omega (arith, i.1, j.0, x.0, (spelt_lies u).first))
    where
      by : {p q : ℕ} → Why o (token_at t m).start (evaluated l) (evaluated r) (Some p) → Faulty (apply o (token_at t m).start l r) q
          → ((evaluated l).refusal ≡ Some p → Faulty l q → p ≤ q) → ((evaluated r).refusal ≡ Some p → Faulty r q → p ≤ q)
          → ((evaluated l).refusal ≡ Some p → Faulty r q → p ≤ q) → p ≤ q
      by (why_left a) (faulty_here x y z) f g h = apart x a
      by (why_left a) (faulty_left k) f g h = f a k
      by (why_left a) (faulty_right k) f g h = h a k
      by (why_right a b) (faulty_here x y z) f g h = apart y b
      by (why_right a b) (faulty_left k) f g h = absurd (faulty_refused k a)
      by (why_right a b) (faulty_right k) f g h = g b k
      by (why_here a b c) (faulty_here x y z) f g h = omega arith
      by (why_here a b c) (faulty_left k) f g h = absurd (faulty_refused k a)
      by (why_here a b c) (faulty_right k) f g h = absurd (faulty_refused k b)

  -- no fault is passed over: where an operator is at fault, the expression is refused at it or at one before it
  pub faults_covered : {at n q : ℕ} {e : Expr} → WordsSpell t at e n → Faulty e q → (p : ℕ) × (((evaluated e).refusal ≡ Some p) × (p ≤ q))
  faults_covered {q = q} {e = e} s k = by (evaluated e).refusal refl
    where
      by : (r : Option ℕ) → (evaluated e).refusal ≡ r → (p : ℕ) × (((evaluated e).refusal ≡ Some p) × (p ≤ q))
      by None h = absurd (faulty_refused k h)
      by (Some p) h = (p, (h, refused_smallest s h k))

-- where a number lies that is read: its first byte, the operator that refuses it, and the cursor past it, in this order
pub record NumberLies (t : List ℕ) (at : ℕ) (x : Number) (n : ℕ) : Type 0 where
  pub first : at ≤ x.place
  pub before : x.place < n
  pub within : n ≤ length t
  pub operator : (p : ℕ) → x.refusal ≡ Some p → (x.place < p) × (p < n)

pub tree_lies : (t : List ℕ) (at : ℕ) {e : Expr} {n : ℕ} → WordsSpell t at e n → NumberLies t at (evaluated e) n
tree_lies t at {e} s =
    let l = spelt_lies t s in
    record { first = l.first; before = l.before; within = l.within; operator = λ p h. faulty_lies t s (refused_faulty e h) }

pub number_lies : (t : List ℕ) (at : ℕ) {x : Number} {n : ℕ} → number_at t at ≡ ok x n → NumberLies t at x n
unfolding number_at
number_lies t at q =
    let d = mapped_done evaluated (expression_at t at) (sym q) in
    rw d.1.1 at (tree_lies t at (read_spelt t at d.1.0))
