use Rattle.cells.proofs.Laws.{seek_start, seek_here, seek_on, seek_end}
use Rattle.cells.proofs.find_type.Goals as goal

pub returns-then-same_name : goal.returns-then-same_name
returns-then-same_name c = search seek_here

pub loop-at-preserved : goal.loop-at-preserved
loop-at-preserved c = search seek_on

pub returns : goal.returns
returns c = search seek_end
