-- A quote behind the width, a letter and digits make a sized number; without them it is malformed.
use Rattle.numbers.proofs.Laws.{quote_past, quote_other, quote_last, quote_sized}
use Rattle.numbers.proofs.sized_at.Goals as goal

pub returns-then-quote-part : goal.returns-then-quote-part
returns-then-quote-part c = search quote_past

pub returns-then-part-quote-ne39 : goal.returns-then-part-quote-ne39
returns-then-part-quote-ne39 c = search quote_other

pub returns-then-letter-part : goal.returns-then-letter-part
returns-then-letter-part c = search quote_last

pub returns : goal.returns
returns c = search quote_sized
