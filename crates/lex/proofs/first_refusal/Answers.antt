-- A text above the limit is refused by 1; any other by its first word at fault.
use Rattle.std.proofs.Common.{ap, Err}
use Rattle.basics.specs.Judged.{verdict}
use Rattle.basics.specs.declared.Refusal.{Refusal}
use Rattle.lex.proofs.Numbers.{words_long, words_first}
use Rattle.lex.proofs.first_refusal.Goals as goal

pub returns-then-text-gt-TEXT_LIMIT : goal.returns-then-text-gt-TEXT_LIMIT
returns-then-text-gt-TEXT_LIMIT c = let w = words_long _ c.if-text-gt-TEXT_LIMIT.true (ap (λ (r : Refusal). verdict (Err r)) c.at.ensures) in record { answer = w.0; numbers = w.1 }

pub returns : goal.returns
returns c = let w = words_first _ c.if-text-gt-TEXT_LIMIT.false c.first_bad.ensures in record { answer = w.0; numbers = w.1 }
