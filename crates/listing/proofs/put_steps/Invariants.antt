-- What is left of the path comes to what all of it comes to.
use Prim.Native.Nat.{◌+◌, ◌-◌, ◌*◌}
use Rattle.basics.specs.Limits.{name_width}
use Rattle.lines.proofs.Pouring.{Pouring}
use Rattle.rows.specs.Reading.{steps_from}
use Rattle.listing.specs.Listing.{path_text}
use Rattle.listing.proofs.put_steps.Given as goal

abbrev pub invariant-loop-k : goal.invariant-loop-k
invariant-loop-k l = (Pouring l.room l.initial.out l.out l.initial.sink (path_text (steps_from l.registers l.paths l.index l.name l.count)) l.sink (path_text (steps_from l.registers l.paths (l.index + l.k) (l.name + l.k * name_width) (l.count - l.k))))
