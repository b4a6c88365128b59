-- The survey's answer decides on 18, 19 and 20, the pass over the log on 21.
use Rattle.std.proofs.Common.{ap}
use Rattle.std.proofs.lemmas.Result.{err_from_is_err_and}
use Rattle.basics.specs.Judged.{judged, verdict}
use Rattle.compile.proofs.Stages.{map_low, survey_charts, survey_refuses, overlap_refuses, overlap_passes}
use Rattle.compile.proofs.judge_map.Goals as goal

pub survey-requires : goal.survey-requires
survey-requires c = (c.prepare.ensures, map_low _ _ _ c.requires.0)

pub first_overlap-requires : goal.first_overlap-requires
first_overlap-requires c =
    survey_charts _ _ _ c.requires.0 c.survey.ensures.answer _ c.survey.ensures.logs c.requires.2 (ap judged c.in_ok-found.was) c.prepare.ensures

pub returns-in_err-found : goal.returns-in_err-found
returns-in_err-found c =
    let p = err_from_is_err_and c.from_residual.result c.from_residual.ensures.1 in
    rw (p.1, p.2) (survey_refuses _ _ _ c.requires.0 c.survey.ensures.answer (ap judged c.in_err-found.was))

pub returns-in_err-first_overlap : goal.returns-in_err-first_overlap
returns-in_err-first_overlap c =
    let p = err_from_is_err_and c.from_residual-in_err-first_overlap.result c.from_residual-in_err-first_overlap.ensures.1 in
    rw (p.1, p.2)
    (overlap_refuses _ _ _ c.requires.0 c.survey.ensures.answer _ c.survey.ensures.logs c.requires.2 (ap judged c.in_ok-found.was) c.first_overlap.ensures (ap verdict c.in_err-first_overlap.was))

pub returns : goal.returns
returns c =
    overlap_passes _ _ _ c.requires.0 c.survey.ensures.answer _ c.survey.ensures.logs c.requires.2 (ap judged c.in_ok-found.was) c.first_overlap.ensures (ap verdict c.in_ok-first_overlap.was)
    c.prepare.ensures
