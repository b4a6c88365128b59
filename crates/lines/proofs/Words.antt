-- The byte of a digit.
use mathlib.Core.Path.{◌≡◌}
use Prim.Native.Nat.{ℕ, ◌+◌, ◌-◌, ◌<◌, ◌≤◌}
use borrow.Author.Tests.{lt-ltb, le-ltb}
use Rattle.lines.specs.Text.{digit_byte}

module _ (d : ℕ) where
  pub digit-decimal : d < 10 → 48 + d ≡ digit_byte d
  unfolding digit_byte
  digit-decimal h = rw (lt-ltb d 10 h)

  pub digit_letter : 10 ≤ d → 97 + (d - 10) ≡ digit_byte d
  unfolding digit_byte
  digit_letter h = rw (le-ltb d 10 h)
