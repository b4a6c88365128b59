use Rattle.std.proofs.Common.{OnErr, codes, sym, subst, refl}
use Rattle.basics.specs.Judged.{rule_number, verdict}
use Rattle.case_io.proofs.Parts.{on_err_of, part_of_front, err_behind}
use Rattle.case_io.specs.Lines.{refusal_text, verdict_text}
use Rattle.streams.specs.Filled.{AppendsPart}
use Rattle.case_io.proofs.put_verdict.Goals as goal

pub returns-in_err-put_refusal-in-Err-clause-err : goal.returns-in_err-put_refusal-in-Err-clause-err
returns-in_err-put_refusal-in-Err-clause-err g c =
    let a = g.W.Write.contents c.args.out.now in
    let b = g.W.Write.contents c.put_refusal.new.out in
    let first = refusal_text (rule_number c.in-Err.refusal.rule) c.in-Err.refusal.at in
    on_err_of _ (subst (λ v. AppendsPart a b (verdict_text (verdict v))) (sym c.in-Err.is) (part_of_front a b first (codes "\n") c.in_err-put_refusal-in-Err.ensures.err))

pub returns-in_ok-put_refusal-in-Err-clause-err : goal.returns-in_ok-put_refusal-in-Err-clause-err
returns-in_ok-put_refusal-in-Err-clause-err g c =
    let held = g.W.Write.contents in
    let a = held c.args.out.now in
    let b = held c.put_refusal.new.out in
    let d = held c.put-in-Err.new.out in
    let r = c.put-in-Err.result in
    let first = refusal_text (rule_number c.in-Err.refusal.rule) c.in-Err.refusal.at in
    subst (λ v. OnErr r (AppendsPart a d (verdict_text (verdict v)))) (sym c.in-Err.is)
    (err_behind r a b d first (codes "\n") (codes "\n") refl c.in_ok-put_refusal-in-Err.ensures.ok c.put-in-Err.ensures.err)
