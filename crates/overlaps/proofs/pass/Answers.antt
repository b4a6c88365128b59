use borrow.Author.Rules.{rules}
use Rattle.overlaps.proofs.Plots.{order_charted, lined}
use Rattle.overlaps.proofs.Sweeps.{passing_start, passing_skip, passing_on, passing_end, reader_stops, writer_stops}
use Rattle.overlaps.proofs.pass.Goals as goal

pub loop-key-init : goal.loop-key-init
loop-key-init c = search passing_start

pub loop-key-preserved-then-limit-number : goal.loop-key-preserved-then-limit-number
loop-key-preserved-then-limit-number c = search passing_skip

pub stretch_at-stretch-requires : goal.stretch_at-stretch-requires
stretch_at-stretch-requires c = (search order_charted, search rules)

pub returns-then-reaches : goal.returns-then-reaches
returns-then-reaches c = search (lined, reader_stops)

pub returns-then-reaches-2 : goal.returns-then-reaches-2
returns-then-reaches-2 c = search (lined, writer_stops)

pub loop-key-preserved : goal.loop-key-preserved
loop-key-preserved c =
    passing_on _ _ _ c.loop-key.invariant c.if-limit-number.false c.stretch_at-stretch.ensures c.reaches.ensures
    c.if-reaches.false c.reaches-in-loop-key.ensures c.if-reaches-2.false c.side_after-readable.ensures
    c.side_after-writable.ensures

pub returns : goal.returns
returns c = search (lined, passing_end)
