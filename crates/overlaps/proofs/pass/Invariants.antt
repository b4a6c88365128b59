-- Of the registers passed no two overlap, and each side has the furthest end of those that belong to it.
use Rattle.sizes.specs.Ready.{known}
use Rattle.overlaps.specs.Sweeps.{stretch_in}
use Rattle.overlaps.proofs.Sweeps.{Passing}
use Rattle.overlaps.proofs.pass.Given as goal

abbrev pub invariant-loop-key : goal.invariant-loop-key
invariant-loop-key l =
    Passing (stretch_in (known l.text l.cells l.extent) l.shapes l.log) l.order l.limit l.key-index l.readable l.writable
