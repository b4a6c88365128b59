-- Behind blanks and comments stands the token; a comment that is left open is refused where it opens.
use Rattle.lex.proofs.Tokens.{token_past_lem, token_open}
use Rattle.lex.proofs.next_token.Goals as goal

pub returns-in-Ok : goal.returns-in-Ok
returns-in-Ok c = search token_past_lem

pub returns-in-Err : goal.returns-in-Err
returns-in-Err c = search token_open
