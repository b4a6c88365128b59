use borrow.Author.Rules.{rules}
use Rattle.lex.proofs.Scan.{closings}
use Rattle.lex.proofs.string_close.Goals as goal

pub loop-i-preserved : goal.loop-i-preserved
loop-i-preserved c = search (rules, closings)

pub returns : goal.returns
returns c = search (rules, closings)

pub returns-then-closes_string : goal.returns-then-closes_string
returns-then-closes_string c = search (rules, closings)
