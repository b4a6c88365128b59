-- The test of an early return, which a call answers.
use mathlib.Core.Bool.{Bool, true, false, not}
use mathlib.Core.Path.{◌≡◌, sym, ◌∙◌}
use borrow.Author.Tests.{not-true, not-false}

module _ {p r : Bool} (e : r ≡ p) where
  pub failed : not r ≡ true → p ≡ false
  failed y = sym e ∙ not-true r y

  pub passed : not r ≡ false → p ≡ true
  passed y = sym e ∙ not-false r y
