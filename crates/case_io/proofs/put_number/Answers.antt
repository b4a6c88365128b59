use Rattle.std.proofs.Common.{decimal, ◌∙◌}
use Rattle.case_io.proofs.Parts.{on_err_of, part_of_front, err_behind}
use Rattle.case_io.proofs.put_number.Goals as goal

pub returns-in_err-put-clause-err : goal.returns-in_err-put-clause-err
returns-in_err-put-clause-err g c = on_err_of _ (part_of_front _ _ _ _ c.in_err-put.ensures.err)

pub returns-clause-err : goal.returns-clause-err
returns-clause-err g c =
    let held = g.W.Write.contents in
    err_behind c.put-2.result (held c.args.out.now) (held c.put.new.out) (held c.put-2.new.out) c.args.label.now (decimal c.args.n) c.as_bytes.result.now
    (c.as_bytes.ensures.value ∙ c.format.ensures.text) c.in_ok-put.ensures.ok c.put-2.ensures.err
