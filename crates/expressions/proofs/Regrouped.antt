-- Grouping exists: a tree with grouped trees in its parentheses has a grouped tree with its operands and operators in order, and its words are read as that one.
use mathlib.Core.Bool.{false}
use mathlib.Core.Path.{◌≡◌, refl, sym, ap, ◌∙◌}
use mathlib.Core.List.{List, [], ◌∷◌, ◌++◌, append-nil, append_assoc}
use Prim.Native.Nat.{ℕ, ◌<◌, ◌≤◌}
use native.Mathlib.Omega.{arith}
use lib.Dec.{ltb}
use borrow.Author.Tests.{ltb-true, ltb-false}
use Rattle.chars.proofs.Laws.{either}
use Rattle.lex.specs.Token.{token_at}
use Rattle.operators.specs.declared.Operator.{Operator}
use Rattle.operators.specs.Operators.{row_of}
use Rattle.basics.specs.Limits.{parenthesis_limit}
use Rattle.expressions.specs.Reading.{ok}
use Rattle.expressions.specs.Words.{part_of, is_operator}
use Rattle.expressions.specs.Tree.{Expr, literal, inside, apply}
use Rattle.expressions.specs.Grammar.{expression_at}
use Rattle.expressions.specs.Grouping.{Application, Flat, behind, flat, row_on, Grouped, grouped_literal, grouped_inside, grouped_apply}
use Rattle.expressions.specs.Grouping.{OperandsGrouped, operands_literal, operands_inside, operands_apply}
use Rattle.expressions.specs.Grouping.{Nested, nested_literal, nested_inside, nested_apply, WordsSpell, spelt_literal, spelt_inside, spelt_apply}
use Rattle.expressions.specs.declared.ExpressionWord.TheVariants as part
use Rattle.expressions.proofs.Grouping.{on, extend, built}
use Rattle.expressions.proofs.Trees.{row_bounds}
use Rattle.expressions.proofs.Exact.{expression_complete}

-- the tree built from the list of a tree's operators
unfoldable pub regrouped : Expr → Expr
regrouped e = built (flat e).first (flat e).steps

-- what holds of one operator more behind an operator: it stands in the right operand, or on top
extended : (P : Expr → Type 0) (o : Operator) (p : ℕ) (l r : Expr) (s : Application) → (row_of s.operator < row_of o → P (apply o p l (extend r s)))
    → (row_of o ≤ row_of s.operator → P (on (apply o p l r) s)) → P (extend (apply o p l r) s)
unfolding extend
extended P o p l r s f g =
    either P (ltb (row_of s.operator) (row_of o)) (λ e. f (ltb-true (row_of s.operator) (row_of o) e)) (λ e. g (ltb-false (row_of s.operator) (row_of o) e))

abbrev from : Expr → List Application → Flat
from e ss = record { first = e; steps = ss }

-- an operand of the list: a number, or a grouped tree in parentheses
data Operand : Expr → Type 0 where
  operand_literal : {n p : ℕ} → Operand (literal n p)
  operand_inside : {p : ℕ} {e : Expr} → Grouped e → Operand (inside p e)

operand_grouped : {e : Expr} → Operand e → Grouped e
operand_grouped operand_literal = grouped_literal
operand_grouped (operand_inside g) = grouped_inside g

operand_row : {e : Expr} → Operand e → row_on e ≡ 0
operand_row operand_literal = refl
operand_row (operand_inside g) = refl

operand_flat : {e : Expr} → Operand e → flat e ≡ from e []
unfolding flat
operand_flat operand_literal = refl
operand_flat (operand_inside g) = refl

-- each operand behind an operator of the list
data StepsEach (P : Expr → Type 0) : List Application → Type 0 where
  each_none : StepsEach P []
  each_next : {s : Application} {ss : List Application} → P s.operand → StepsEach P ss → StepsEach P (s ∷ ss)

each_behind : {P : Expr → Type 0} {ss us : List Application} → StepsEach P ss → StepsEach P us → StepsEach P (ss ++ us)
each_behind each_none u = u
each_behind (each_next h x) u = each_next h (each_behind x u)

-- every operand of a list
record OperandsAll (P : Expr → Type 0) (f : Flat) : Type 0 where
  first : P f.first
  steps : StepsEach P f.steps

flat_operands : {e : Expr} → OperandsGrouped e → OperandsAll Operand (flat e)
unfolding flat
flat_operands operands_literal = record { first = operand_literal; steps = each_none }
flat_operands (operands_inside g) = record { first = operand_inside g; steps = each_none }
flat_operands (operands_apply x y) =
    let a = flat_operands x in
    let b = flat_operands y in
    record { first = a.first; steps = each_behind a.steps (each_next b.first b.steps) }

-- the row on top stays below a row that both are below
row_extend : (k : ℕ) (e : Expr) (s : Application) → row_on e < k → row_of s.operator < k → row_on (extend e s) < k
unfolding extend
row_extend k (literal n p) s h j = j
row_extend k (inside p e) s h j = j
row_extend k (apply o p l r) s h j = extended (λ (x : Expr). row_on x < k) o p l r s (λ _. h) (λ _. j)

on_grouped : (e : Expr) (s : Application) → Grouped e → row_on e ≤ row_of s.operator → Operand s.operand → Grouped (on e s)
on_grouped e s g h x =
    let b : row_on s.operand < row_of s.operator = omega (arith, operand_row x, row_bounds s.operator) in
    grouped_apply g (operand_grouped x) h b

-- one operator more behind a grouped tree keeps it grouped
extend_grouped : (e : Expr) (s : Application) → Grouped e → Operand s.operand → Grouped (extend e s)
unfolding extend
extend_grouped (literal n p) s g x = on_grouped (literal n p) s g (omega arith) x
extend_grouped (inside p e) s g x = on_grouped (inside p e) s g (omega arith) x
extend_grouped (apply o p l r) s (grouped_apply g k a b) x =
    extended Grouped o p l r s
    (λ h. grouped_apply g (extend_grouped r s k x) a (row_extend (row_of o) r s b h))
    (λ h. on_grouped (apply o p l r) s (grouped_apply g k a b) h x)

built_grouped : (e : Expr) (ss : List Application) → Grouped e → StepsEach Operand ss → Grouped (built e ss)
unfolding built
built_grouped e [] g each_none = g
built_grouped e (s ∷ ss) g (each_next x y) = built_grouped (extend e s) ss (extend_grouped e s g x) y

-- operators behind a list
abbrev more : Flat → List Application → Flat
more f ss = from f.first (f.steps ++ ss)

-- one operator more behind a tree stands last in its list
extend_flat : (e : Expr) (s : Application) → Operand s.operand → flat (extend e s) ≡ more (flat e) (s ∷ [])
unfolding extend flat
extend_flat (literal n p) s x = rw (operand_flat x)
extend_flat (inside p e) s x = rw (operand_flat x)
extend_flat (apply o p l r) s x =
    extended (λ (y : Expr). flat y ≡ more (flat (apply o p l r)) (s ∷ [])) o p l r s
    (λ _. ap (behind (flat l) o p) (extend_flat r s x) ∙ ap (from (flat l).first) (sym (append_assoc (flat l).steps (top ∷ (flat r).steps) (s ∷ []))))
    (λ _. rw (operand_flat x))
  where
    top : Application
    top = record { operator = o; place = p; operand = (flat r).first }

built_flat : (e : Expr) (ss : List Application) → StepsEach Operand ss → flat (built e ss) ≡ more (flat e) ss
unfolding built
built_flat e [] each_none = ap (from (flat e).first) (sym (append-nil (flat e).steps))
built_flat e (s ∷ ss) (each_next x y) =
    built_flat (extend e s) ss y
    ∙ ap (λ (f : Flat). more f ss) (extend_flat e s x)
    ∙ ap (from (flat e).first) (append_assoc (flat e).steps (s ∷ []) ss)

-- one grouped tree has these operands and operators in this order; by grouping_unique, no other has
pub grouping_exists : (e : Expr) → OperandsGrouped e → Grouped (regrouped e) × (flat (regrouped e) ≡ flat e)
unfolding regrouped
grouping_exists e x =
    let a = flat_operands x in (
      built_grouped (flat e).first (flat e).steps (operand_grouped a.first) a.steps,
      built_flat (flat e).first (flat e).steps a.steps ∙ ap (λ (f : Flat). more f (flat e).steps) (operand_flat a.first),
    )

flat_nested : {d : ℕ} {e : Expr} → Nested d e → OperandsAll (Nested d) (flat e)
unfolding flat
flat_nested nested_literal = record { first = nested_literal; steps = each_none }
flat_nested (nested_inside x) = record { first = nested_inside x; steps = each_none }
flat_nested (nested_apply x y) =
    let a = flat_nested x in
    let b = flat_nested y in
    record { first = a.first; steps = each_behind a.steps (each_next b.first b.steps) }

extend_nested : {d : ℕ} (e : Expr) (s : Application) → Nested d e → Nested d s.operand → Nested d (extend e s)
unfolding extend
extend_nested (literal n p) s x y = nested_apply x y
extend_nested (inside p e) s x y = nested_apply x y
extend_nested {d} (apply o p l r) s (nested_apply x z) y =
    extended (Nested d) o p l r s (λ _. nested_apply x (extend_nested r s z y)) (λ _. nested_apply (nested_apply x z) y)

built_nested : {d : ℕ} (e : Expr) (ss : List Application) → Nested d e → StepsEach (Nested d) ss → Nested d (built e ss)
unfolding built
built_nested e [] x each_none = x
built_nested e (s ∷ ss) x (each_next y z) = built_nested (extend e s) ss (extend_nested e s x y) z

-- building nests no parentheses deeper
regrouped_nested : {d : ℕ} (e : Expr) → Nested d e → Nested d (regrouped e)
unfolding regrouped
regrouped_nested e x = let a = flat_nested x in built_nested (flat e).first (flat e).steps a.first a.steps

module _ (t : List ℕ) where
  -- the list of operators is spelt by the words from a cursor to another
  data SpeltSteps : ℕ → List Application → ℕ → Type 0 where
    spelt_none : {m : ℕ} → SpeltSteps m [] m
    spelt_next : {m k n : ℕ} {s : Application} {ss : List Application} → part_of (token_at t m).word ≡ part.Binary s.operator → s.place ≡ (token_at t m).start
        → WordsSpell t (token_at t m).end s.operand k → SpeltSteps k ss n → SpeltSteps m (s ∷ ss) n

  steps_behind : {m k n : ℕ} {ss us : List Application} → SpeltSteps m ss k → SpeltSteps k us n → SpeltSteps m (ss ++ us) n
  steps_behind spelt_none u = u
  steps_behind (spelt_next e q x y) u = spelt_next e q x (steps_behind y u)

  record SpeltFlat (at : ℕ) (f : Flat) (n : ℕ) : Type 0 where
    next : ℕ
    first : WordsSpell t at f.first next
    steps : SpeltSteps next f.steps n

  -- the words of a tree spell its list
  flat_spelt : {at n : ℕ} {e : Expr} → WordsSpell t at e n → SpeltFlat at (flat e) n
  unfolding flat
  flat_spelt (spelt_literal e) = record { next = _; first = spelt_literal e; steps = spelt_none }
  flat_spelt (spelt_inside e x f) = record { next = _; first = spelt_inside e x f; steps = spelt_none }
  flat_spelt (spelt_apply x e y) =
      let a = flat_spelt x in
      let b = flat_spelt y in
      record { next = a.next; first = a.first; steps = steps_behind a.steps (spelt_next e refl b.first b.steps) }

  apply_spelt : {at m n : ℕ} (e : Expr) (s : Application) → WordsSpell t at e m → part_of (token_at t m).word ≡ part.Binary s.operator → s.place ≡ (token_at t m).start
      → WordsSpell t (token_at t m).end s.operand n → WordsSpell t at (on e s) n
  apply_spelt e s x h q y = rw q (spelt_apply x h y)

  -- the words of a tree and of one operator more spell the tree with it behind
  extend_spelt : {at m n : ℕ} (e : Expr) (s : Application) → WordsSpell t at e m → part_of (token_at t m).word ≡ part.Binary s.operator → s.place ≡ (token_at t m).start
      → WordsSpell t (token_at t m).end s.operand n → WordsSpell t at (extend e s) n
  unfolding extend
  extend_spelt (literal v p) s x h q y = apply_spelt (literal v p) s x h q y
  extend_spelt (inside p e) s x h q y = apply_spelt (inside p e) s x h q y
  extend_spelt {at = at} {m = m} {n = n} (apply o p l r) s (spelt_apply {m = m'} x f z) h q y =
      extended (λ (e : Expr). WordsSpell t at e n) o p l r s
      (λ _. spelt_apply x f (extend_spelt {at = (token_at t m').end} r s z h q y))
      (λ _. apply_spelt (apply o p l r) s (spelt_apply x f z) h q y)

  built_spelt : {at m n : ℕ} (e : Expr) (ss : List Application) → WordsSpell t at e m → SpeltSteps m ss n → WordsSpell t at (built e ss) n
  unfolding built
  built_spelt e [] x spelt_none = x
  built_spelt e (s ∷ ss) x (spelt_next h q y z) = built_spelt (extend e s) ss (extend_spelt e s x h q y) z

  -- the words that spell a tree spell the grouped one
  regrouped_spelt : {at n : ℕ} {e : Expr} → WordsSpell t at e n → WordsSpell t at (regrouped e) n
  unfolding regrouped
  regrouped_spelt {e = e} x = let a = flat_spelt x in built_spelt (flat e).first (flat e).steps a.first a.steps

-- and the words that spell any such tree, not too deep and with no operator behind it, are read as the grouped one
pub regrouped_read : (t : List ℕ) (at : ℕ) {e : Expr} {n : ℕ} → WordsSpell t at e n → OperandsGrouped e → Nested parenthesis_limit e
    → is_operator (part_of (token_at t n).word) ≡ false → expression_at t at ≡ ok (regrouped e) n
regrouped_read t at {e} s x d h =
    expression_complete t at (record { spelt = regrouped_spelt t s; grouped = (grouping_exists e x).0; nested = regrouped_nested e d; ends = h })
