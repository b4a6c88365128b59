-- The number of the step stands behind those of the path, whose depth is one more.
use mathlib.Core.Path.{refl}
use Rattle.map_walk.proofs.Leaves.{step_put}
use Rattle.map_walk.proofs.deeper.Goals as goal

pub returns : goal.returns
returns c = let trail = c.args.trail in (refl, step_put trail.steps trail.depth c.step_of.ensures)
