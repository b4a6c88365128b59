-- The verdict is that of what the file reader answers, as an answer and in numbers.
use Rattle.std.proofs.Common.{ap}
use Rattle.std.proofs.lemmas.Result.{err_from_is_err_and}
use Rattle.basics.specs.Judged.{judged}
use Rattle.syntax.proofs.Numbers.{sentence_refused, sentence_accepted}
use Rattle.syntax.proofs.first_refusal.Goals as goal

pub returns-in_err-read_file : goal.returns-in_err-read_file
returns-in_err-read_file c =
    let p = err_from_is_err_and c.from_residual.result c.from_residual.ensures.1 in
    let w = sentence_refused _ c.read_file.ensures.answer (ap judged c.in_err-read_file.was) in
    rw (p.1, p.2) (record { answer = w.0; numbers = w.1 })

pub returns : goal.returns
returns c =
    let w = sentence_accepted _ c.read_file.ensures.answer (ap judged c.in_ok-read_file.was) in
    record { answer = w.0; numbers = w.1 }
