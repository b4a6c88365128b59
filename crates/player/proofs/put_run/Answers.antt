use borrow.Author.Rules.{rules}
use Rattle.player.proofs.Numbers.{run_on, run_end_lem}
use Rattle.player.proofs.put_run.Goals as goal

pub loop-k-preserved : goal.loop-k-preserved
loop-k-preserved c = search (rules, run_on)

pub returns : goal.returns
returns c = search (rules, run_end_lem)
