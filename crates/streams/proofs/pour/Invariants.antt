-- What was written is a start of the bytes.
use Rattle.std.proofs.Common.{◌≤◌, length, take}
use Rattle.std.specs.Io.KnownBytes.{Appends}
use Rattle.streams.proofs.pour.Given as goal

abbrev pub invariant-loop : goal.invariant-loop
invariant-loop g l = (l.done ≤ length l.fn.bytes) × Appends (g.W.Write.contents l.fn.out) (g.W.Write.contents l.out) (take l.done l.fn.bytes)
