use borrow.Author.Rules.{rules}
use Rattle.closing_rules.proofs.Laws.{break_start, break_fits, break_top, break_on, break_end}
use Rattle.closing_rules.proofs.broken_by.Goals as goal

pub broken_with-broken-requires : goal.broken_with-broken-requires
broken_with-broken-requires c = search (rules, break_top)

pub bit_above-next-requires : goal.bit_above-next-requires
bit_above-next-requires c = search (rules, break_top)

pub loop-i-preserved : goal.loop-i-preserved
loop-i-preserved c = search break_on

pub returns : goal.returns
returns c = search break_end
