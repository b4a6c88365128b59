use borrow.Author.Rules.{rules}
use Rattle.closing_rules.proofs.Laws.{ask_start, next_fits, top_fits, find_here, find_on, find_end}
use Rattle.closing_rules.proofs.any_field.Goals as goal

pub breaks_in-requires : goal.breaks_in-requires
breaks_in-requires c = search (rules, top_fits)

pub returns-then-breaks_in : goal.returns-then-breaks_in
returns-then-breaks_in c = search find_here

pub bit_above-next-requires : goal.bit_above-next-requires
bit_above-next-requires c = search (rules, top_fits)

pub loop-i-preserved : goal.loop-i-preserved
loop-i-preserved c = search find_on

pub returns : goal.returns
returns c = search find_end
