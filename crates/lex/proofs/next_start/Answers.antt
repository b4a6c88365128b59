use borrow.Author.Rules.{rules}
use Rattle.lex.proofs.Scan.{next_end, next_blank, next_word, next_last, next_line, next_block, next_slash, line_stop, line_more, line_close, block_stop, block_close, block_star, block_more}
use Rattle.lex.proofs.next_start.Goals as goal

pub blanks-preserved-then-is_blank : goal.blanks-preserved-then-is_blank
blanks-preserved-then-is_blank c = search (rules, next_blank)

pub line-init : goal.line-init
line-init c = search (rules, next_line)

pub blanks-preserved-then-is_line_end : goal.blanks-preserved-then-is_line_end
blanks-preserved-then-is_line_end c = search (rules, line_close)

pub line-preserved : goal.line-preserved
line-preserved c = search (rules, line_more)

pub block-init : goal.block-init
block-init c = search (rules, next_block)

pub block-preserved-then-text-i-ne42 : goal.block-preserved-then-text-i-ne42
block-preserved-then-text-i-ne42 c = search (rules, block_more)

pub blanks-preserved : goal.blanks-preserved
blanks-preserved c = search (rules, block_close)

pub block-preserved : goal.block-preserved
block-preserved c = search (rules, block_star)

pub returns-then-i-n : goal.returns-then-i-n
returns-then-i-n c = search (rules, next_end)

pub returns-then-b-ne47 : goal.returns-then-b-ne47
returns-then-b-ne47 c = search (rules, next_word)

pub returns-then-i-n-2 : goal.returns-then-i-n-2
returns-then-i-n-2 c = search (rules, next_last)

pub returns-then-i-n-3 : goal.returns-then-i-n-3
returns-then-i-n-3 c = search (rules, line_stop)

pub returns-then-i-n-4 : goal.returns-then-i-n-4
returns-then-i-n-4 c = search (rules, block_stop)

pub returns-else-b2-eq42 : goal.returns-else-b2-eq42
returns-else-b2-eq42 c = search next_slash
