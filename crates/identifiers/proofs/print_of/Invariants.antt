-- The print of all bytes is the same from every index that the loop passes, with the print so far.
use Prim.Native.Nat.{◌<◌}
use mathlib.Core.Path.{◌≡◌}
use lib.ListN.{drop}
use Rattle.identifiers.specs.Names.{print_bound, print_from}
use Rattle.identifiers.proofs.print_of.Given as goal

abbrev pub invariant-loop-b : goal.invariant-loop-b
invariant-loop-b l = (print_from l.print (drop l.b-index l.bytes) ≡ print_from 0 l.bytes) × (l.print < print_bound)
