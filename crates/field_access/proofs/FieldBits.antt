-- The bits of a field's number under their actions, as a loop makes them.
use mathlib.Core.Bool.{Bool}
use mathlib.Core.Path.{◌≡◌, ap₂, ◌∙◌}
use Prim.Native.Nat.{ℕ, ◌+◌, ◌*◌, ◌^◌}
use Rattle.bits.specs.Bits.{bit, digit, number}
use Rattle.bits.proofs.BitLaws.{number_more}
use Rattle.actions.specs.declared.Action.{Action}
use Rattle.actions.specs.Actions.{apply}
use Rattle.model.specs.declared.View.{View}
use Rattle.model.specs.declared.Access.{Access}
use Rattle.model.specs.Model.{bit_action}

module _ (x : Access) (c : View) (v : ℕ) where
  abbrev pub acted_bit : ℕ → Bool
  acted_bit i = apply (bit_action x c i) (bit v i)

  pub acted_more : (i : ℕ) {l r : ℕ} {t : Action} {one b : Bool} → l ≡ number i acted_bit → t ≡ bit_action x c i → one ≡ bit v i → b ≡ apply t one
      → r ≡ l + digit b * 2 ^ i → r ≡ number (i + 1) acted_bit
  acted_more i {l} {r} {b = b} e f g h k = number_more acted_bit i l r b e (h ∙ ap₂ apply f g) k
