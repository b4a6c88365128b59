use borrow.Author.Rules.{rules}
use Rattle.bits.proofs.BitLaws.{number_more, number-below, number_zero}
use Rattle.field_access.proofs.word_of.Goals as goal

pub loop-j-init : goal.loop-j-init
loop-j-init c = search (rules, number_zero)

pub with_bit-lower-requires : goal.with_bit-lower-requires
with_bit-lower-requires c = search (rules, number-below)

pub loop-j-preserved : goal.loop-j-preserved
loop-j-preserved c = search (rules, number_more)
