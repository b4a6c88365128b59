use borrow.Author.Rules.{rules}
use Rattle.bits.proofs.BitLaws.{number_zero, number-below}
use Rattle.field_access.proofs.FieldBits.{acted_more}
use Rattle.field_access.proofs.acted_number.Goals as goal

pub loop-i-init : goal.loop-i-init
loop-i-init c = search (rules, number_zero)

pub with_bit-lower-requires : goal.with_bit-lower-requires
with_bit-lower-requires c = search (rules, number-below)

pub loop-i-preserved : goal.loop-i-preserved
loop-i-preserved c = search (rules, acted_more)
