use Rattle.std.proofs.Common.{ap}
use Rattle.basics.specs.Judged.{judged}
use Rattle.cells.proofs.Laws.{child_low}
use Rattle.sizes.proofs.Laws.{ready_span}
use Rattle.row_writer.proofs.Runs.{runs_start, runs_end, runs_bits, runs_low, runs_top, runs_stop, runs_next}
use Rattle.row_writer.proofs.write_run.Goals as goal

pub instances_of-span-requires : goal.instances_of-span-requires
instances_of-span-requires c =
    ready_span _ _ _ _ c.requires.0.ready c.requires.1

pub loop-i-init : goal.loop-i-init
loop-i-init c =
    runs_start _ _ _ _ _ _ c.requires.0.ready c.requires.1 c.requires.2 c.instances_of-span.ensures.0 c.instances_of-span.ensures.1

pub returns-in_default : goal.returns-in_default
returns-in_default c =
    runs_stop _ _ _ c.loop-i.invariant c.loop-i-test.true c.child_at.ensures c.requires.0.ready c.requires.1 (ap judged c.in_default.is)

pub component_at-component-requires : goal.component_at-component-requires
component_at-component-requires c = child_low _ _ c.child_at.ensures (ap judged c.in-Ok.is)

pub placed_as-placed-requires : goal.placed_as-placed-requires
placed_as-placed-requires c =
    runs_bits _ _ _ c.loop-i.invariant

pub write_placed-j-requires : goal.write_placed-j-requires
write_placed-j-requires c =
    runs_low _ _ _ c.loop-i.invariant

pub bit_above-next-requires : goal.bit_above-next-requires
bit_above-next-requires c =
    runs_top _ _ _ c.loop-i.invariant c.loop-i-test.true _ _ c.placed_as-placed.ensures

pub loop-i-preserved : goal.loop-i-preserved
loop-i-preserved c =
    runs_next _ _ _ c.loop-i.invariant c.loop-i-test.true c.child_at.ensures (ap judged c.in-Ok.is) c.component_at-component.ensures
    c.placed_as-placed.ensures c.write_placed-j.ensures c.bit_above-next.ensures

pub returns-after-loop-i : goal.returns-after-loop-i
returns-after-loop-i c =
    runs_end _ _ _ c.loop-i.invariant c.requires.0.ready c.requires.1 c.loop-i-test.false
