-- The run of name bytes lies within the text, and its bytes are the name.
use borrow.Author.Rules.{rules}
use Rattle.lex.proofs.Tokens.{name_token_lem}
use Rattle.chars.proofs.Laws.{run_low, run_high}
use Rattle.lex.proofs.name_token.Goals as goal

pub slice_bounds-name_word-count : goal.slice_bounds-name_word-count
slice_bounds-name_word-count c = search run_low

pub slice_bounds-name_word-start : goal.slice_bounds-name_word-start
slice_bounds-name_word-start c = search (rules, run_low)

pub slice_bounds-name_word-end : goal.slice_bounds-name_word-end
slice_bounds-name_word-end c = search (rules, run_high)

pub returns : goal.returns
returns c = search name_token_lem
