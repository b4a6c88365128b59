use Rattle.map_walk.proofs.Leaves.{put_start, put_next, put_end}
use borrow.Author.Rules.{rules}
use native.Mathlib.Omega.{arith}
use Rattle.map_walk.proofs.log_trail.Goals as goal

pub loop-k-init : goal.loop-k-init
loop-k-init c = search (rules, put_start)

pub loop-k-preserved : goal.loop-k-preserved
loop-k-preserved c =
    (put_next _ _ _ _ c.loop-k.invariant.0 (omega (arith, c.well_formed.1.1.0.1.1.1.0.1.0.1)) c.put.ensures, search rules)

pub returns : goal.returns
returns c = put_end _ _ _ _ c.loop-k.invariant.0 (omega (arith, c.well_formed.1.1.0.1.1.1.0.1.0.1))
