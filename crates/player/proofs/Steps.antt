-- Laws of progress and store, byte by byte, where no line ends.
use mathlib.Core.Bool.{true, false}
use mathlib.Core.Path.{◌≡◌}
use mathlib.Core.List.{List}
use Prim.Native.Nat.{ℕ}
use borrow.Author.Tests.{ne_eqb}
use Rattle.rows.specs.Rows.{Tables}
use Rattle.log_lines.specs.declared.Line.{Line}
use Rattle.log_lines.specs.Log.{with_byte}
use Rattle.player.specs.declared.Progress.{Progress}
use Rattle.player.specs.Play.{after_byte, byte_store}

module _ (p : Progress) (b : ℕ) where
  pub after_stopped : p.stopped ≡ true → p ≡ after_byte p b
  unfolding after_byte
  after_stopped e = rw e

  pub after_other : {l : Line} → p.stopped ≡ false → (b ≡ 10 → ⊥) → l ≡ with_byte p.line b → record { line = l; number = p.number; stopped = false } ≡ after_byte p b
  unfolding after_byte
  after_other e f g = rw (e, ne_eqb b 10 f, g)

  pub store_other : (t : Tables) (s : List ℕ) → p.stopped ≡ false → (b ≡ 10 → ⊥) → s ≡ byte_store t s p b
  unfolding byte_store
  store_other t s e f = rw (e, ne_eqb b 10 f)
