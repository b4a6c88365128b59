use Rattle.capped.proofs.Laws.{alignment_low, doubled_start, doubled_next, doubled_less, doubled_fits, doubled_cut, cut_capped}
use Rattle.capped.proofs.common_multiple.Goals as goal

pub loop-multiple-init : goal.loop-multiple-init
loop-multiple-init c = search doubled_start

pub nonzero_rem-multiple : goal.nonzero_rem-multiple
nonzero_rem-multiple c = search alignment_low

pub overflow_mul-multiple : goal.overflow_mul-multiple
overflow_mul-multiple c = record { fits = search doubled_fits }

pub loop-multiple-smaller : goal.loop-multiple-smaller
loop-multiple-smaller c = search doubled_less

pub loop-multiple-preserved : goal.loop-multiple-preserved
loop-multiple-preserved c = search doubled_next

pub returns : goal.returns
returns c = search (doubled_cut, cut_capped)
