-- What is left of the run comes to what all of it comes to.
use Prim.Native.Nat.{◌+◌, ◌-◌}
use Rattle.lines.proofs.Pouring.{Pouring}
use Rattle.rows.specs.Reading.{fields_from}
use Rattle.listing.specs.Listing.{fields_lines}
use Rattle.listing.proofs.put_fields.Given as goal

abbrev pub invariant-loop-k : goal.invariant-loop-k
invariant-loop-k l = (Pouring l.room l.initial.out l.out l.initial.sink (fields_lines (fields_from l.fields l.labels l.first l.count)) l.sink (fields_lines (fields_from l.fields l.labels (l.first + l.k) (l.count - l.k))))
