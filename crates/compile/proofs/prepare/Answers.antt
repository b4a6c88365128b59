-- The shapes are filled in, and stay as they are while long instances are kept behind them.
use native.Mathlib.Omega.{arith}
use Rattle.compile.proofs.Stages.{shaped}
use Rattle.compile.proofs.prepare.Goals as goal

pub returns : goal.returns
returns c =
    shaped _ _ _ c.requires.0 _ c.fill_shapes.ensures (omega arith)
    c.keep_long_instances.ensures
