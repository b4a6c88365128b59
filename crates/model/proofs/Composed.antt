-- What the views of one number do to a bit, one after another.
use mathlib.Core.Path.{◌≡◌, refl, sym, ap, ◌∙◌}
use mathlib.Core.Bool.{Bool, true, false}
use mathlib.Core.List.{List, [], ◌∷◌}
use Prim.Native.Nat.{ℕ, zero, suc, ◌<◌, zero-le, suc-le-suc}
use native.Mathlib.Nat.{not-suc-le-zero, le_of_suc-le-suc}
use native.Mathlib.Omega.{arith}
use lib.ListN.{length}
use lib.Dec.{eqb}
use borrow.Author.Tests.{eqb-true, eq-eqb}
use Rattle.std.specs.Prelude.{if◌then◌else◌}
use Rattle.actions.specs.declared.Action.{Action}
use Rattle.actions.specs.declared.Action.TheVariants.{Kept, Cleared, Set, Inverted}
use Rattle.actions.specs.Actions.{followed_by}
use Rattle.model.specs.declared.View.{View}
use Rattle.model.specs.declared.Access.{Access}
use Rattle.model.specs.Model.{bit_action, view_in}
use Rattle.model.specs.Lists.{action_from}

-- an action that keeps, behind a test
pub keeps : (b : Bool) (t a : Action) → (b ≡ true → a ≡ Kept) → (if b then followed_by t a else t) ≡ t
keeps true t a h = ap (followed_by t) (h refl)
keeps false t a h = refl

-- actions that do not invert, one after another
pub calm_followed : (t a : Action) → (t ≡ Inverted → ⊥) → (a ≡ Inverted → ⊥) → followed_by t a ≡ Inverted → ⊥
calm_followed t Kept p q e = p e
calm_followed t Cleared p q e = q e
calm_followed t Set p q e = q e
calm_followed t Inverted p q e = q refl

calm : (b : Bool) (t a : Action) → (t ≡ Inverted → ⊥) → (b ≡ true → a ≡ Inverted → ⊥) → (if b then followed_by t a else t) ≡ Inverted → ⊥
calm true t a p q e = calm_followed t a p (q refl) e
calm false t a p q e = p e

record BothKept (t a : Action) : Type 0 where
  first : t ≡ Kept
  second : a ≡ Kept

both_kept : (t a : Action) → (a ≡ Inverted → ⊥) → followed_by t a ≡ Kept → BothKept t a
both_kept t Kept p e = record { first = e; second = refl }
both_kept t Cleared p e = absurd (let z : ◌≡◌ {A = ℕ} 0 1 = cc in omega arith)
both_kept t Set p e = absurd (let z : ◌≡◌ {A = ℕ} 0 1 = cc in omega arith)
both_kept t Inverted p e = absurd (p refl)

module _ (x : Access) (f i : ℕ) where
  -- where each view of a number keeps the bit, nothing is done to it
  pub composed_kept : (cs : List View) (t : Action)
      → ((k : ℕ) → k < length cs → (view_in cs k).index ≡ f → bit_action x (view_in cs k) i ≡ Kept) → action_from x cs t f i ≡ t
  unfolding action_from
  composed_kept [] t h = refl
  composed_kept (c ∷ cs) t h =
      composed_kept cs (if eqb c.index f then followed_by t (bit_action x c i) else t) (λ k p e. h (suc k) (suc-le-suc p) e)
      ∙ keeps (eqb c.index f) t (bit_action x c i) (λ e. h 0 (suc-le-suc zero-le) (eqb-true c.index f e))

  -- where all but one keep it, that one's action is done
  pub composed_sole : (cs : List View) (t : Action) (k : ℕ) → k < length cs → (view_in cs k).index ≡ f
      → ((j : ℕ) → j < length cs → (view_in cs j).index ≡ f → (j ≡ k → ⊥) → bit_action x (view_in cs j) i ≡ Kept)
      → action_from x cs t f i ≡ followed_by t (bit_action x (view_in cs k) i)
  unfolding action_from
  composed_sole [] t k p e h = absurd (not-suc-le-zero p)
  composed_sole (c ∷ cs) t zero p e h =
      composed_kept cs (if eqb c.index f then followed_by t (bit_action x c i) else t)
      (λ j q r. h (suc j) (suc-le-suc q) r (λ z. omega arith))
      ∙ ap (λ (b : Bool). if b then followed_by t (bit_action x c i) else t) (eq-eqb c.index f e)
  composed_sole (c ∷ cs) t (suc k) p e h =
      composed_sole cs (if eqb c.index f then followed_by t (bit_action x c i) else t) k (le_of_suc-le-suc p) e
      (λ j q r n. h (suc j) (suc-le-suc q) r (λ z. n (omega arith)))
      ∙ ap (λ (a : Action). followed_by a (bit_action x (view_in cs k) i))
      (keeps (eqb c.index f) t (bit_action x c i) (λ r. h 0 (suc-le-suc zero-le) (eqb-true c.index f r) (λ z. omega arith)))

  -- where none inverts it, it is not inverted
  pub composed_calm : (cs : List View) (t : Action) → (t ≡ Inverted → ⊥)
      → ((k : ℕ) → k < length cs → (view_in cs k).index ≡ f → bit_action x (view_in cs k) i ≡ Inverted → ⊥) → action_from x cs t f i ≡ Inverted → ⊥
  unfolding action_from
  composed_calm [] t p h e = p e
  composed_calm (c ∷ cs) t p h e =
      composed_calm cs (if eqb c.index f then followed_by t (bit_action x c i) else t)
      (calm (eqb c.index f) t (bit_action x c i) p (λ r. h 0 (suc-le-suc zero-le) (eqb-true c.index f r)))
      (λ k q r. h (suc k) (suc-le-suc q) r) e

  -- what was kept at the end was kept at the start
  kept_start : (cs : List View) (t : Action)
      → ((k : ℕ) → k < length cs → bit_action x (view_in cs k) i ≡ Inverted → ⊥) → action_from x cs t f i ≡ Kept → t ≡ Kept
  unfolding action_from
  kept_start [] t h e = e
  kept_start (c ∷ cs) t h e =
      by (eqb c.index f) (kept_start cs (if eqb c.index f then followed_by t (bit_action x c i) else t) (λ k q. h (suc k) (suc-le-suc q)) e)
    where
      by : (b : Bool) → (if b then followed_by t (bit_action x c i) else t) ≡ Kept → t ≡ Kept
      by true r = (both_kept t (bit_action x c i) (h 0 (suc-le-suc zero-le)) r).first
      by false r = r

  -- and where none inverts it and it is kept, each keeps it
  pub kept_each : (cs : List View) (t : Action)
      → ((k : ℕ) → k < length cs → bit_action x (view_in cs k) i ≡ Inverted → ⊥) → action_from x cs t f i ≡ Kept
      → (k : ℕ) → k < length cs → (view_in cs k).index ≡ f → bit_action x (view_in cs k) i ≡ Kept
  unfolding action_from
  kept_each [] t h e k p r = absurd (not-suc-le-zero p)
  kept_each (c ∷ cs) t h e zero p r =
      (both_kept t (bit_action x c i) (h 0 (suc-le-suc zero-le))
      (sym (ap (λ (b : Bool). if b then followed_by t (bit_action x c i) else t) (eq-eqb c.index f r))
      ∙ kept_start cs (if eqb c.index f then followed_by t (bit_action x c i) else t) (λ k q. h (suc k) (suc-le-suc q)) e)).second
  kept_each (c ∷ cs) t h e (suc k) p r =
      kept_each cs (if eqb c.index f then followed_by t (bit_action x c i) else t) (λ j q. h (suc j) (suc-le-suc q)) e k (le_of_suc-le-suc p) r
