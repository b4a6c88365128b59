use borrow.Author.Rules.{rules}
use Rattle.listing.proofs.Lines.{map_pours}
use Rattle.listing.proofs.Loops.{entries_on, entries_end}
use Rattle.listing.proofs.put_map.Goals as goal

pub put_entry-sink-requires : goal.put_entry-sink-requires
put_entry-sink-requires c =
    (search rules, c.requires.each _ c.loop-i-test.true)

pub loop-i-preserved : goal.loop-i-preserved
loop-i-preserved c = search (rules, entries_on)

pub returns : goal.returns
returns c = map_pours _ c.put_name_line-sink.ensures (entries_end _ _ _ _ c.loop-i.invariant c.loop-i-test.false)
