-- The fields of the instances that are left follow the ones that are written.
use Rattle.row_writer.proofs.Runs.{RunWriting}
use Rattle.row_writer.proofs.write_run.Given as goal

abbrev pub invariant-loop-i : goal.invariant-loop-i
invariant-loop-i l = RunWriting l.text l.cells l.row l.initial.fields l.fields l.initial.labels l.labels l.first l.i-end l.i l.next l.j
