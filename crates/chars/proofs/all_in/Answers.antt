-- All bytes are in the class exactly where their run reaches the end of the text.
use Rattle.chars.proofs.Laws.{run_all}
use Rattle.chars.proofs.all_in.Goals as goal

pub returns : goal.returns
returns c = search run_all
