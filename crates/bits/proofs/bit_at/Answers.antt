-- A number shifted down by i is odd exactly where its bit i is set.
use Prim.Native.Nat.{◌/◌, ◌%◌, ◌^◌}
use Rattle.bits.specs.Bits.{bit}
use Rattle.bits.proofs.BitLaws.{nonzero_test}
use Rattle.bits.proofs.bit_at.Goals as goal

pub returns : goal.returns
unfolding bit
returns c = nonzero_test (c.args.v / 2 ^ c.args.i % 2)
