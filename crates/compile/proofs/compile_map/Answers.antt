-- What the judge of the map refuses is refused with the tables as they were; else the rows of its log are written.
use Rattle.std.proofs.Common.{ℕ, ap, arith}
use Rattle.std.proofs.lemmas.Result.{err_from_is_err_and}
use lib.ListN.{length-replicate}
use Rattle.basics.specs.Judged.{judged}
use Rattle.compile.proofs.Stages.{filed_in, chart_refused, refused_answer, refused_lent}
use Rattle.recall.specs.Shelves.{recall_size}
use Rattle.register_log.specs.Log.{log_size}
use Rattle.compile.proofs.compile_map.Goals as goal

pub judge_map-requires : goal.judge_map-requires
judge_map-requires c = (
  filed_in _ _ _ _ c.requires c.component_at.ensures c.mode_of-mode.ensures,
  omega (arith, length-replicate {A = ℕ} recall_size 0),
  omega (arith, length-replicate {A = ℕ} log_size 0),
)

pub write_map-requires : goal.write_map-requires
write_map-requires c =
    (filed_in _ _ _ _ c.requires c.component_at.ensures c.mode_of-mode.ensures, rw (ap judged c.in_ok-counts.was) at c.judge_map.ensures)

pub returns-in_err-counts : goal.returns-in_err-counts
returns-in_err-counts c =
    let p = err_from_is_err_and c.from_residual.result c.from_residual.ensures.1 in
    let z = chart_refused (rw (ap judged c.in_err-counts.was) at c.judge_map.ensures) in
    rw (p.1, p.2) (record { answer = refused_answer _ z; lent = refused_lent _ z })
