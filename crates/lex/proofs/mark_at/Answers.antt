-- Two bytes that are a mark stand before one byte that is.
use Rattle.lex.proofs.Tokens.{mark_both, mark_last}
use Rattle.lex.proofs.mark_at.Goals as goal

pub returns-then-i-text : goal.returns-then-i-text
returns-then-i-text c = search mark_both

pub returns : goal.returns
returns c = search mark_last
