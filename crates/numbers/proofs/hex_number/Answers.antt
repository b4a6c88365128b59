-- Behind the two bytes of the prefix stand digits, or the number is malformed.
use Rattle.numbers.proofs.Laws.{hex-digits, hex_other}
use Rattle.numbers.proofs.hex_number.Goals as goal

pub returns-then-plain_digits : goal.returns-then-plain_digits
returns-then-plain_digits c = search hex-digits

pub returns : goal.returns
returns c = search hex_other
