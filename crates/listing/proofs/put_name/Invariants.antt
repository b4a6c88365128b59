-- What is left of the name comes to what all of it comes to.
use Prim.Native.Nat.{◌+◌, ◌-◌}
use Rattle.basics.specs.Limits.{name_width}
use Rattle.lines.proofs.Pouring.{Pouring}
use Rattle.rows.specs.Reading.{name_from, name_at}
use Rattle.listing.proofs.put_name.Given as goal

abbrev pub invariant-loop-k : goal.invariant-loop-k
invariant-loop-k l = (Pouring l.room l.initial.out l.out l.initial.sink (name_at l.names l.at) l.sink (name_from l.names (l.at + l.k) (name_width - l.k)))
