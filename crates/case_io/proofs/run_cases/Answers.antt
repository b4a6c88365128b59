use Rattle.std.proofs.Common.{[], take, rules, of_calls, refl}
use Rattle.std.proofs.KnownBytes.{Consumes-nil}
use Rattle.case_io.specs.Cases.{Shown, shown_none}
use Rattle.case_io.proofs.Parts.{on_err_of}
use Rattle.case_io.proofs.Cases.{front_of_text, front_then, shown_on, ran_to}
use Rattle.case_io.proofs.run_cases.Goals as goal
use Rattle.case_io.proofs.run_cases.Goals.{else-loop-case-test, then-loop-case-test+in_ok-length+in_default}

pub loop-case-init : goal.loop-case-init
loop-case-init g c = record { callable = c.requires; cases = ([], Consumes-nil _, shown_none) }

pub returns-in_err-length-clause-err : goal.returns-in_err-length-clause-err
returns-in_err-length-clause-err g c =
    let before = c.loop-case.invariant.cases in
    on_err_of _ (front_then _ _ _ (before.0, before.1) c.in_err-length.ensures.err)

pub returns-in_err-show-clause-err : goal.returns-in_err-show-clause-err
returns-in_err-show-clause-err g c =
    let before = c.loop-case.invariant.cases in
    on_err_of _ (front_then _ _ _ (before.0, before.1) (front_of_text _ _ _ _ c.in_ok-length.ensures.ok))

pub loop-case-preserved : goal.loop-case-preserved
loop-case-preserved g c =
    let text = rw c.in-Some.is at c.in_ok-length.ensures.ok in
    let shown : Shown g.F.FnMut c.loop-case.show c.loop-case.out c.loop-case.case (take c.in-Some.length c.read_text.new.room) c.show.new.self c.show.new.arg2
    = record { writer = _; writes = refl; lent = _; lends = refl; left = _; called = c.in_ok-show.ensures; leaves = refl } in
    record { callable = search (rules, of_calls); cases = shown_on g.F.FnMut _ _ _ _ c.loop-case.invariant.cases text shown }

pub returns-clause-ok : goal.returns-clause-ok
returns-clause-ok g c =
    let before = c.loop-case.invariant.cases in
    elim c.loop-case-test.branch [
      | else-loop-case-test w ↦ rw w.input-is (ran_to g.F.FnMut _ _ _ before ([], Consumes-nil _))
      | then-loop-case-test+in_ok-length+in_default w ↦ rw w.input-is (ran_to g.F.FnMut _ _ _ before (front_of_text _ _ _ _ w.in_ok-length.ensures.ok))
    ]
