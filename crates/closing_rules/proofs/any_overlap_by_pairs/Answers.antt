use borrow.Author.Rules.{rules}
use Rattle.closing_rules.proofs.Laws.{pass_start, pass_fits, pass_top, overlap_here, overlap_on, overlap_end}
use Rattle.closing_rules.proofs.any_overlap_by_pairs.Goals as goal

pub loop-i-init : goal.loop-i-init
loop-i-init c = search (rules, pass_start)

pub returns-then-overlaps_earlier : goal.returns-then-overlaps_earlier
returns-then-overlaps_earlier c = search overlap_here

pub bit_above-next-requires : goal.bit_above-next-requires
bit_above-next-requires c = search (rules, pass_top)

pub loop-i-preserved : goal.loop-i-preserved
loop-i-preserved c = search overlap_on
