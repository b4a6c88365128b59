use Rattle.std.proofs.Common.{ℕ, List, ◌++◌, codes, decimal, subst, refl}
use Rattle.std.specs.Io.KnownBytes.{Appends}
use Rattle.basics.specs.Judged.{rule_number}
use Rattle.case_io.proofs.Parts.{on_err_of, part_of_front, err_behind}
use Rattle.streams.specs.Filled.{AppendsPart}
use Rattle.case_io.proofs.put_refusal.Goals as goal

abbrev number_text : ℕ → List ℕ
number_text n = codes " refused=" ++ decimal n

abbrev place_text : ℕ → List ℕ
place_text n = codes " at=" ++ decimal n

pub returns-in_err-put_number-clause-err : goal.returns-in_err-put_number-clause-err
returns-in_err-put_number-clause-err g c =
    let a = g.W.Write.contents c.args.out.now in
    let b = g.W.Write.contents c.put_number.new.out in
    let rest = place_text c.args.refusal.at in
    on_err_of _ (subst (λ n. AppendsPart a b (number_text n ++ rest)) c.number.ensures (part_of_front a b (number_text c.number.result) rest c.in_err-put_number.ensures.err))

pub returns-clause-err : goal.returns-clause-err
returns-clause-err g c =
    let held = g.W.Write.contents in
    let a = held c.args.out.now in
    let b = held c.put_number.new.out in
    let rest = place_text c.args.refusal.at in
    let before = subst (λ n. Appends a b (number_text n)) c.number.ensures c.in_ok-put_number.ensures.ok in
    err_behind c.put_number-2.result a b (held c.put_number-2.new.out) (number_text (rule_number c.args.refusal.rule)) rest rest refl before c.put_number-2.ensures.err
