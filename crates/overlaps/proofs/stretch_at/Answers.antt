-- The stretch is that of the register's plot, with the accesses of the fields of its type.
use borrow.Author.Rules.{rules}
use Rattle.overlaps.proofs.Plots.{index_few, plot_low, plot_sum}
use Rattle.overlaps.proofs.stretch_at.Goals as goal

pub plot_at-plot-requires : goal.plot_at-plot-requires
plot_at-plot-requires c = search (rules, index_few)

pub has_access-write_only-requires : goal.has_access-write_only-requires
has_access-write_only-requires c = search (rules, plot_low)

pub has_access-read_only-requires : goal.has_access-read_only-requires
has_access-read_only-requires c = search (rules, plot_low)

pub overflow_add-result : goal.overflow_add-result
overflow_add-result c = search (rules, plot_sum)
