-- A walk that is cut off answers 18; else the first of 19 and 20, or the counts. The log is the walk's.
use Rattle.std.proofs.Common.{ap, sym, ◌∙◌}
use Rattle.std.proofs.lemmas.Result.{err_from_is_err_and}
use Rattle.basics.specs.Judged.{verdict}
use Rattle.map_walk.specs.Runs.{walked}
use Rattle.map_walk.proofs.Leaves.{and_first}
use Rattle.map_walk.proofs.Surveys.{survey_many, survey_broken, survey_sound}
use Rattle.map_walk.proofs.survey.Goals as goal

pub returns-in_err-tally : goal.returns-in_err-tally
returns-in_err-tally c =
    let p = err_from_is_err_and c.from_residual.result c.from_residual.ensures.1 in
    let w = survey_many _ _ _ _ _ c.walk_map.ensures (ap walked c.in_err-tally.was) in
    record { answer = rw (p.1, p.2) w.0; logs = w.1 }

pub returns-in_err-and : goal.returns-in_err-and
returns-in_err-and c =
    let p = err_from_is_err_and c.from_residual-in_err-and.result c.from_residual-in_err-and.ensures.1 in
    let w = survey_broken _ _ _ _ _ c.walk_map.ensures (ap walked c.in_ok-tally.was) (sym (and_first _ _) ∙ ap verdict (sym c.and.ensures ∙ c.in_err-and.was)) in
    record { answer = rw (p.1, p.2) w.0; logs = w.1 }

pub returns : goal.returns
returns c =
    let w = survey_sound _ _ _ _ _ c.walk_map.ensures (ap walked c.in_ok-tally.was) (sym (and_first _ _) ∙ ap verdict (sym c.and.ensures ∙ c.in_ok-and.was)) in
    record { answer = w.0; logs = w.1 }
