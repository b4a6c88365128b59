use Rattle.field_access.proofs.Below.{below_stop}
use Rattle.field_access.proofs.repeats_all.Goals as goal

pub returns-then-not-repeats_bit : goal.returns-then-not-repeats_bit
returns-then-not-repeats_bit c = search below_stop
