-- A refused access leaves the store as it was; any other answers its word and leaves the store that the model gives.
use Rattle.std.proofs.Common.{refl}
use Rattle.std.proofs.lemmas.Result.{err_from_is_err_and}
use Rattle.access.proofs.Answers.{refused_answer, refused_store, answered_asks, answered_word, answered_store, access_told}
use Rattle.access.proofs.perform.Goals as goal

pub returns-in_err-check_access : goal.returns-in_err-check_access
returns-in_err-check_access c =
    let p = err_from_is_err_and c.from_residual.result c.from_residual.ensures.1 in
    let w = access_told _ _ _ (refused_answer _ _ _ _ c.in_err-check_access.ensures) (refused_store _ _ _ _ c.in_err-check_access.ensures) in
    rw (p.1, p.2) (record { answer = w.0; stored = w.1.0; numbers = w.1.1 })

pub word_of_access-word-requires : goal.word_of_access-word-requires
word_of_access-word-requires c = answered_asks _ _ _ _ _ _ c.in_ok-check_access.ensures refl

pub step_rows-requires : goal.step_rows-requires
step_rows-requires c = answered_asks _ _ _ _ _ _ c.in_ok-check_access.ensures refl

pub returns : goal.returns
returns c = let w = access_told _ _ _ (answered_word _ _ _ c.in_ok-check_access.ensures refl c.word_of_access-word.ensures) (answered_store _ _ _ c.in_ok-check_access.ensures refl c.step_rows.ensures) in record { answer = w.0; stored = w.1.0; numbers = w.1.1 }
