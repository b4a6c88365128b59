-- The laws of actions: one after another, and which writes invert and which reads disturb. Assumes nothing.
use mathlib.Core.Path.{◌≡◌, refl, sym}
use mathlib.Core.Bool.{Bool, true, false}
use mathlib.Core.Logic.{◌⊎◌, inl, inr, ⊎_elim}
use Prim.Native.Nat.{ℕ}
use lib.Dec.{eqb}
use borrow.Author.Tests.{eqb-true, ne_eqb}
use Rattle.std.specs.Prelude.{if◌then◌else◌}
use Rattle.fields.specs.Codes.{read_code, write_code}
use Rattle.fields.specs.declared.ReadEffect.TheVariants as onread
use Rattle.fields.specs.declared.WriteEffect.TheVariants as onwrite
use Rattle.actions.specs.declared.Action.{Action}
use Rattle.actions.specs.declared.Action.TheVariants.{Kept, Cleared, Set, Inverted}
use Rattle.actions.specs.Actions.{apply, followed_by, inverse, on_one, on_zero, copied, write_action, read_action}

-- ---- one action, then another

pub apply_followed : (a b : Action) (x : Bool) → apply (followed_by a b) x ≡ apply b (apply a x)
apply_followed a Kept x = refl
apply_followed a Cleared x = refl
apply_followed a Set x = refl
apply_followed Kept Inverted x = refl
apply_followed Cleared Inverted x = refl
apply_followed Set Inverted x = refl
apply_followed Inverted Inverted true = refl
apply_followed Inverted Inverted false = refl

pub kept_followed : (a : Action) → followed_by Kept a ≡ a
kept_followed Kept = refl
kept_followed Cleared = refl
kept_followed Set = refl
kept_followed Inverted = refl

followed_inverse : (a b : Action) → followed_by a (inverse b) ≡ inverse (followed_by a b)
followed_inverse a Kept = refl
followed_inverse a Cleared = refl
followed_inverse a Set = refl
followed_inverse Kept Inverted = refl
followed_inverse Cleared Inverted = refl
followed_inverse Set Inverted = refl
followed_inverse Inverted Inverted = refl

pub followed_assoc : (a b c : Action) → followed_by (followed_by a b) c ≡ followed_by a (followed_by b c)
followed_assoc a b Kept = refl
followed_assoc a b Cleared = refl
followed_assoc a b Set = refl
followed_assoc a b Inverted = sym (followed_inverse a b)

-- an action that is not to invert gives the same again
pub again_or_inverts : (t : Action) → (followed_by t t ≡ t) ⊎ (t ≡ Inverted)
again_or_inverts Kept = inl refl
again_or_inverts Cleared = inl refl
again_or_inverts Set = inl refl
again_or_inverts Inverted = inr refl

pub apply-copied : (b x : Bool) → apply (copied b) x ≡ b
apply-copied true x = refl
apply-copied false x = refl

-- ---- the writes that invert

inverted_only : (b1 b2 b3 b4 b5 b6 b7 b8 b : Bool)
    → (if b1 then on_one b Set else if b2 then on_one b Cleared else if b3 then on_one b Inverted else
    if b4 then on_zero b Set else if b5 then on_zero b Cleared else if b6 then on_zero b Inverted else
    if b7 then Cleared else if b8 then Set else copied b) ≡ Inverted
    → ((b3 ≡ true) × (b ≡ true)) ⊎ ((b6 ≡ true) × (b ≡ false))
inverted_only true b2 b3 b4 b5 b6 b7 b8 true e = cc
inverted_only true b2 b3 b4 b5 b6 b7 b8 false e = cc
inverted_only false true b3 b4 b5 b6 b7 b8 true e = cc
inverted_only false true b3 b4 b5 b6 b7 b8 false e = cc
inverted_only false false true b4 b5 b6 b7 b8 true e = inl (refl, refl)
inverted_only false false true b4 b5 b6 b7 b8 false e = cc
inverted_only false false false true b5 b6 b7 b8 true e = cc
inverted_only false false false true b5 b6 b7 b8 false e = cc
inverted_only false false false false true b6 b7 b8 true e = cc
inverted_only false false false false true b6 b7 b8 false e = cc
inverted_only false false false false false true b7 b8 true e = cc
inverted_only false false false false false true b7 b8 false e = inr (refl, refl)
inverted_only false false false false false false true b8 b e = cc
inverted_only false false false false false false false true b e = cc
inverted_only false false false false false false false false true e = cc
inverted_only false false false false false false false false false e = cc

-- a write inverts only by a 1 where 1 inverts, or by a 0 where 0 does
pub write_inverts : (code : ℕ) (b : Bool) → write_action code b ≡ Inverted
    → ((code ≡ write_code onwrite.Wot) × (b ≡ true)) ⊎ ((code ≡ write_code onwrite.Wzt) × (b ≡ false))
unfolding write_action
write_inverts code b e =
    ⊎_elim (λ w. inl (eqb-true code 3 w.0, w.1)) (λ w. inr (eqb-true code 6 w.0, w.1))
    (inverted_only (eqb code 1) (eqb code 2) (eqb code 3) (eqb code 4) (eqb code 5) (eqb code 6) (eqb code 7) (eqb code 8) b e)

pub one_inverts : write_action (write_code onwrite.Wot) true ≡ Inverted
unfolding write_action
one_inverts = refl

pub zero_inverts : write_action (write_code onwrite.Wzt) false ≡ Inverted
unfolding write_action
zero_inverts = refl

-- ---- the reads that do not disturb

pub read_keeps : (code : ℕ) → (code ≡ read_code onread.Rclr → ⊥) → (code ≡ read_code onread.Rset → ⊥) → read_action code ≡ Kept
unfolding read_action
read_keeps code h k = simp (ne_eqb _ _ h, ne_eqb _ _ k)
