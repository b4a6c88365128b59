-- The texts before this case have been read and shown.
use Rattle.std.proofs.Common.{ℕ, List}
use Rattle.std.specs.Io.KnownBytes.{Consumes}
use Rattle.case_io.specs.Cases.{ShownAll}
use Rattle.case_io.proofs.run_cases.Given as goal

abbrev pub invariant-loop-case : goal.invariant-loop-case
invariant-loop-case g l = record {
  callable : goal.F-IsAlwaysCallable g l.show;
  cases : (bytes : List ℕ) × Consumes (g.R.Read.remaining l.initial.input) (g.R.Read.remaining l.input) bytes × ShownAll g.F.FnMut l.initial.show l.initial.out bytes l.case l.show l.out;
}
