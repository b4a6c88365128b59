-- The closing quote is the same from every place that the loop passes, with the byte before it.
use Prim.Native.Nat.{◌+◌}
use mathlib.Core.Path.{◌≡◌}
use Rattle.lex.specs.Quote.{closing_from}
use Rattle.lex.proofs.string_close.Given as goal

abbrev pub invariant-loop-i : goal.invariant-loop-i
invariant-loop-i l = closing_from l.quote l.before l.text l.i ≡ closing_from l.quote 34 l.text (l.quote + 1)
