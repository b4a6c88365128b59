-- Head and steps, written one after another, are a row of the log.
use Rattle.map_walk.proofs.Leaves.{register_put}
use borrow.Author.Rules.{rules}
use Rattle.map_walk.proofs.log_register.Goals as goal

pub returns : goal.returns
returns c = search (rules, register_put)
