-- The tests of 23, 24 and 25 come first; behind them the answer is what the field rows say of sending again.
use Rattle.std.proofs.Common.{ap, not}
use Rattle.access.proofs.Answers.{least_width, few_rows, formed_rows, retry_form, retry_rows, retry_reach, retry_safe, retry_unsafe, retry_told}
use Rattle.access.proofs.retry.Goals as goal

pub returns-then-not-is_well_formed : goal.returns-then-not-is_well_formed
returns-then-not-is_well_formed c = let w = retry_told _ _ (search retry_form) in record { answer = w.0; numbers = w.1 }

pub returns-then-not-are_lawful : goal.returns-then-not-are_lawful
returns-then-not-are_lawful c = let w = retry_told _ _ (search retry_rows) in record { answer = w.0; numbers = w.1 }

pub is_reached-requires : goal.is_reached-requires
is_reached-requires c = search (least_width, few_rows)

pub returns-then-not-is_reached : goal.returns-then-not-is_reached
returns-then-not-is_reached c = let w = retry_told _ _ (search retry_reach) in record { answer = w.0; numbers = w.1 }

pub rows_repeat-requires : goal.rows_repeat-requires
rows_repeat-requires c =
    formed_rows c.args.access c.is_well_formed.ensures (ap not c.if-not-is_well_formed.false) _ _ _ _ c.are_lawful.ensures (ap not c.if-not-are_lawful.false)

pub returns-then-rows_repeat : goal.returns-then-rows_repeat
returns-then-rows_repeat c = let w = retry_told _ _ (search retry_safe) in record { answer = w.0; numbers = w.1 }

pub returns-else-rows_repeat : goal.returns-else-rows_repeat
returns-else-rows_repeat c = let w = retry_told _ _ (search retry_unsafe) in record { answer = w.0; numbers = w.1 }
