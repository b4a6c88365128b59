-- The five tests in the order of 23, 24, 22, 24, 25 find the number that the definition finds; where all pass it is 0.
use Rattle.std.proofs.Common.{ap, not}
use borrow.Author.Rules.{rules}
use Rattle.access.proofs.Answers.{least_width, few_rows, sound_fields, refusal_form, refusal_rows, refusal_short, refusal_store, refusal_reach, refusal_none}
use Rattle.access.proofs.check_access.Goals as goal

pub returns-then-not-is_well_formed : goal.returns-then-not-is_well_formed
returns-then-not-is_well_formed c = search refusal_form

pub returns-then-not-are_lawful : goal.returns-then-not-are_lawful
returns-then-not-are_lawful c = search refusal_rows

pub returns-then-store-fields : goal.returns-then-store-fields
returns-then-store-fields c = search refusal_short

pub are_fitting-requires : goal.are_fitting-requires
are_fitting-requires c = (sound_fields _ _ _ _ c.are_lawful.ensures (ap not c.if-not-are_lawful.false), search rules)

pub returns-then-not-are_fitting : goal.returns-then-not-are_fitting
returns-then-not-are_fitting c = search refusal_store

pub is_reached-requires : goal.is_reached-requires
is_reached-requires c = search (rules, least_width, few_rows)

pub returns-then-not-is_reached : goal.returns-then-not-is_reached
returns-then-not-is_reached c = search refusal_reach

pub returns : goal.returns
returns c = search refusal_none
