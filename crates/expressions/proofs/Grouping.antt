-- "grouping is unique": the list of operators has one grouped tree, since putting operator after operator behind a tree builds it again.
use mathlib.Core.Path.{◌≡◌, refl, sym, ap, ◌∙◌}
use mathlib.Core.List.{List, [], ◌∷◌, ◌++◌}
use Prim.Native.Nat.{ℕ, ◌<◌, ◌≤◌}
use native.Mathlib.Omega.{arith}
use lib.Dec.{ltb}
use borrow.Author.Tests.{lt-ltb, le-ltb}
use Rattle.std.specs.Prelude.{if◌then◌else◌}
use Rattle.operators.specs.declared.Operator.{Operator}
use Rattle.operators.specs.Operators.{row_of}
use Rattle.expressions.specs.Tree.{Expr, literal, inside, apply}
use Rattle.expressions.specs.Grouping.{Application, Flat, flat, row_on, Grouped, grouped_apply}

abbrev pub on : Expr → Application → Expr
on e s = apply s.operator s.place e s.operand

-- one operator more behind a tree: into the right operand where it binds tighter than the operator on top, else on top
unfoldable pub extend : Expr → Application → Expr
extend (literal n p) s = on (literal n p) s
extend (inside p e) s = on (inside p e) s
extend (apply o p l r) s = if ltb (row_of s.operator) (row_of o) then apply o p l (extend r s) else on (apply o p l r) s

unfoldable pub built : Expr → List Application → Expr
built e [] = e
built e (s ∷ ss) = built (extend e s) ss

built_behind : (e : Expr) (ss us : List Application) → built e (ss ++ us) ≡ built (built e ss) us
unfolding built
built_behind e [] us = refl
built_behind e (s ∷ ss) us = built_behind (extend e s) ss us

-- each operator of the list binds tighter than the row
data Tighter (row : ℕ) : List Application → Type 0 where
  none : Tighter row []
  next : {s : Application} {ss : List Application} → row_of s.operator < row → Tighter row ss → Tighter row (s ∷ ss)

tighter_behind : {row : ℕ} {ss us : List Application} → Tighter row ss → Tighter row us → Tighter row (ss ++ us)
tighter_behind none u = u
tighter_behind (next h t) u = next h (tighter_behind t u)

-- the operators of a grouped tree bind at least as tight as the one on top
grouped_tighter : (row : ℕ) (e : Expr) → Grouped e → row_on e < row → Tighter row (flat e).steps
unfolding flat
grouped_tighter row (literal n p) g h = none
grouped_tighter row (inside p e) g h = none
grouped_tighter row (apply o p l r) (grouped_apply g k a b) h =
    tighter_behind (grouped_tighter row l g (omega arith)) (next h (grouped_tighter row r k (omega arith)))

extend_top : (e : Expr) (s : Application) → row_on e ≤ row_of s.operator → extend e s ≡ on e s
unfolding extend
extend_top (literal n p) s h = refl
extend_top (inside p e) s h = refl
extend_top (apply o p l r) s h = rw (le-ltb (row_of s.operator) (row_of o) h)

extend_right : (o : Operator) (p : ℕ) (l r : Expr) (s : Application) → row_of s.operator < row_of o → extend (apply o p l r) s ≡ apply o p l (extend r s)
unfolding extend
extend_right o p l r s h = rw (lt-ltb (row_of s.operator) (row_of o) h)

built_right : (o : Operator) (p : ℕ) (l r : Expr) (ss : List Application) → Tighter (row_of o) ss → built (apply o p l r) ss ≡ apply o p l (built r ss)
unfolding built
built_right o p l r [] none = refl
built_right o p l r (s ∷ ss) (next h t) = ap (λ (e : Expr). built e ss) (extend_right o p l r s h) ∙ built_right o p l (extend r s) ss t

-- a grouped tree is built again from its list
rebuilt : (e : Expr) → Grouped e → built (flat e).first (flat e).steps ≡ e
unfolding flat built
rebuilt (literal n p) g = refl
rebuilt (inside p e) g = refl
rebuilt (apply o p l r) (grouped_apply g k a b) =
    let s : Application = record { operator = o; place = p; operand = (flat r).first } in
    built_behind (flat l).first (flat l).steps (s ∷ (flat r).steps)
    ∙ ap (λ (e : Expr). built (extend e s) (flat r).steps) (rebuilt l g)
    ∙ ap (λ (e : Expr). built e (flat r).steps) (extend_top l s a)
    ∙ built_right o p l (flat r).first (flat r).steps (grouped_tighter (row_of o) r k b)
    ∙ ap (apply o p l) (rebuilt r k)

-- said once, over the list of operators
pub grouping_unique : (e f : Expr) → Grouped e → Grouped f → flat e ≡ flat f → e ≡ f
grouping_unique e f g h q = sym (rebuilt e g) ∙ ap (λ (x : Flat). built x.first x.steps) q ∙ rebuilt f h
