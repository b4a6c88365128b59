use borrow.Author.Rules.{rules}
use Rattle.closing_rules.proofs.Laws.{pass_fits, pass_top, overlap_end}
use Rattle.closing_rules.proofs.Covered.{cover_start, narrow_told, cover_here, cover_on}
use Rattle.closing_rules.proofs.any_overlap.Goals as goal

pub loop-i-init : goal.loop-i-init
loop-i-init c = search (rules, cover_start)

pub returns-then-meets_placed : goal.returns-then-meets_placed
returns-then-meets_placed c = search cover_here

pub bit_above-next-requires : goal.bit_above-next-requires
bit_above-next-requires c = search (rules, pass_top)

pub loop-i-preserved : goal.loop-i-preserved
loop-i-preserved c = search cover_on
