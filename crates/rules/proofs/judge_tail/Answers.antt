-- A named definition with a semicolon has no instances; else the list behind it is judged as its instances.
use Rattle.std.proofs.lemmas.Result.{err_from_is_err_and}
use Rattle.rules.proofs.Bodies.{tail_bare, tail_listing}
use Rattle.rules.proofs.judge_tail.Goals as goal

pub returns-then-is_bare_tail : goal.returns-then-is_bare_tail
returns-then-is_bare_tail c = search tail_bare

pub returns-in_err-held : goal.returns-in_err-held
returns-in_err-held c =
    let p = err_from_is_err_and c.from_residual.result c.from_residual.ensures.1 in
    rw (p.1, p.2) (tail_listing _ _ _ _ _ c.requires.0 c.next_token-token.ensures c.is_bare_tail.ensures c.if-is_bare_tail.false c.in_err-held.ensures)

pub returns : goal.returns
returns c = tail_listing _ _ _ _ _ c.requires.0 c.next_token-token.ensures c.is_bare_tail.ensures c.if-is_bare_tail.false c.in_ok-held.ensures
