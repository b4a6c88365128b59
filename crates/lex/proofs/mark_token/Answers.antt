-- A mark ends within the text; a byte that starts none is refused and passed.
use Rattle.lex.proofs.Bounds.{mark_room}
use Rattle.lex.proofs.Tokens.{mark_token_lem, mark_none}
use native.Mathlib.Omega.{arith}
use Rattle.lex.proofs.mark_token.Goals as goal

pub overflow_add-result : goal.overflow_add-result
overflow_add-result c =
    let h = mark_room _ _ c.requires c.mark_at.ensures c.in-Some.is c.mark_length.ensures in
    omega arith

pub returns-in-Some : goal.returns-in-Some
returns-in-Some c = search mark_token_lem

pub returns-in-None : goal.returns-in-None
returns-in-None c = search mark_none
