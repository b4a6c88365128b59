-- Decimal, hex or sized: the first bytes decide which, and each reader gives that number.
use Rattle.numbers.proofs.Laws.{number-decimal, number-hex, number_sized}
use Rattle.numbers.proofs.number_of.Goals as goal

pub returns-then-plain_digits : goal.returns-then-plain_digits
returns-then-plain_digits c = search number-decimal

pub returns-then-hex_prefixed : goal.returns-then-hex_prefixed
returns-then-hex_prefixed c = search number-hex

pub returns : goal.returns
returns c = search number_sized
