-- A refusal by words, sentences or rules leaves the tables alone; else the answer and the tables are those of the map.
use Rattle.std.proofs.Common.{◌∙◌, sym, ap}
use Rattle.std.proofs.lemmas.Result.{err_from_is_err_and}
use Rattle.basics.specs.Judged.{judged}
use Rattle.compile.proofs.Stages.{compiled_fault, compiled-map, filed_map, refused_answer, refused_lent, compiled_told}
use Rattle.compile.specs.Compiled.{answered, lent_after}
use Rattle.compile.proofs.compile.Goals as goal

pub compile_map-requires : goal.compile_map-requires
compile_map-requires c = filed_map _ _ _ c.define.ensures.answer (ap judged c.in_ok-row.was) c.define.ensures.cells.held

pub returns-in_err-row : goal.returns-in_err-row
returns-in_err-row c =
    let p = err_from_is_err_and c.from_residual.result c.from_residual.ensures.1 in
    let z = compiled_fault _ _ _ c.define.ensures.answer (ap judged c.in_err-row.was) in
    let w = compiled_told _ _ (refused_answer _ z) (refused_lent _ z) in
    rw (p.1, p.2) (record { answer = w.0; lent = w.1.0; numbers = w.1.1 })

pub returns : goal.returns
returns c =
    let z = sym (compiled-map _ _ _ c.define.ensures.answer (ap judged c.in_ok-row.was)) in
    let w = compiled_told _ _ (c.compile_map.ensures.answer ∙ ap (answered _) z) (c.compile_map.ensures.lent ∙ ap (lent_after _) z) in
    record { answer = w.0; lent = w.1.0; numbers = w.1.1 }
