use Rattle.name_tree.proofs.Laws.{below_falls, seek_start, seek_taken, seek_free, seek_on, seek_none}
use Rattle.name_tree.proofs.find.Goals as goal

pub loop-node-init : goal.loop-node-init
loop-node-init c = search seek_start

pub returns-then-is_entry_named : goal.returns-then-is_entry_named
returns-then-is_entry_named c = search seek_taken

pub returns-then-number-eq0 : goal.returns-then-number-eq0
returns-then-number-eq0 c = search seek_free

pub loop-node-smaller : goal.loop-node-smaller
loop-node-smaller c = search below_falls

pub loop-node-preserved : goal.loop-node-preserved
loop-node-preserved c = search seek_on

pub returns : goal.returns
returns c = search seek_none
