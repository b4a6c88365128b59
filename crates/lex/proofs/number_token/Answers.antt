-- The run of number bytes lies within the text, and its bytes are the number.
use borrow.Author.Rules.{rules}
use Rattle.lex.proofs.Tokens.{number-token}
use Rattle.chars.proofs.Laws.{run_low, run_high}
use Rattle.lex.proofs.number_token.Goals as goal

pub slice_bounds-number_of-count : goal.slice_bounds-number_of-count
slice_bounds-number_of-count c = search run_low

pub slice_bounds-number_of-start : goal.slice_bounds-number_of-start
slice_bounds-number_of-start c = search (rules, run_low)

pub slice_bounds-number_of-end : goal.slice_bounds-number_of-end
slice_bounds-number_of-end c = search (rules, run_high)

pub returns : goal.returns
returns c = search number-token
