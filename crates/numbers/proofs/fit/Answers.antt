-- 64 bits hold every value; fewer hold those below the shifted 1.
use borrow.Author.Rules.{rules}
use Rattle.numbers.proofs.Laws.{fit_all, fit_yes, fit_no}
use Rattle.numbers.proofs.fit.Goals as goal

pub returns-then-bits-ge64 : goal.returns-then-bits-ge64
returns-then-bits-ge64 c = search (rules, fit_all)

pub returns-then-value-bits : goal.returns-then-value-bits
returns-then-value-bits c = search fit_yes

pub returns : goal.returns
returns c = search fit_no
