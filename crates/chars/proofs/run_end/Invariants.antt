-- The run's end is the same from every place that the loop passes.
use mathlib.Core.Path.{◌≡◌}
use Rattle.chars.specs.Ascii.{in_class}
use Rattle.chars.specs.Run.{run_end}
use Rattle.chars.proofs.run_end.Given as goal

abbrev pub invariant-loop-i : goal.invariant-loop-i
invariant-loop-i l = run_end (in_class l.class) l.text l.i ≡ run_end (in_class l.class) l.text l.at
