-- A string ends behind its closing quote, is refused where it is too long, and is left open where no quote closes it.
use Rattle.lex.proofs.Bounds.{quote_after, quote_before}
use Rattle.lex.proofs.Tokens.{string_long, string_short, string_open}
use native.Mathlib.Omega.{arith}
use Rattle.lex.proofs.string_token.Goals as goal

pub overflow_sub-q : goal.overflow_sub-q
overflow_sub-q c = search quote_after

pub overflow_add-result : goal.overflow_add-result
overflow_add-result c =
    let h = quote_before _ _ c.string_close.ensures c.in-Ok.is c.requires in
    omega arith

pub returns-then-q-i-gt-STRING_LIMIT : goal.returns-then-q-i-gt-STRING_LIMIT
returns-then-q-i-gt-STRING_LIMIT c = search string_long

pub overflow_add-result-in-Ok : goal.overflow_add-result-in-Ok
overflow_add-result-in-Ok c =
    let h = quote_before _ _ c.string_close.ensures c.in-Ok.is c.requires in
    omega arith

pub returns-else-q-i-gt-STRING_LIMIT : goal.returns-else-q-i-gt-STRING_LIMIT
returns-else-q-i-gt-STRING_LIMIT c = search string_short

pub returns-in-Err : goal.returns-in-Err
returns-in-Err c = search string_open
