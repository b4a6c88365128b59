-- What is left of the run comes to what all of it comes to.
use Prim.Native.Nat.{◌+◌, ◌-◌}
use Rattle.lines.proofs.Pouring.{Pouring}
use Rattle.player.specs.Numbers.{number_lines}
use Rattle.player.proofs.put_run.Given as goal

abbrev pub invariant-loop-k : goal.invariant-loop-k
invariant-loop-k l = Pouring l.room l.initial.out l.out l.initial.sink (number_lines l.registers l.paths l.labels l.store l.i l.first l.count) l.sink (number_lines l.registers l.paths l.labels l.store l.i (l.first + l.k) (l.count - l.k))
