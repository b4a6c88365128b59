-- Unlawful rows and a short store are refused and change nothing; behind the tests the store has every field's reset.
use borrow.Author.Rules.{rules}
use Rattle.access.proofs.Answers.{few_fields, unlawful_answer, unlawful_store, short_answer, short_store, reset_answer_lem, reset_store, reset_told}
use Rattle.access.proofs.reset.Goals as goal

pub returns-then-not-are_lawful : goal.returns-then-not-are_lawful
returns-then-not-are_lawful c = let w = reset_told _ _ (search unlawful_answer) (search unlawful_store) in record { answer = w.0; stored = w.1.0; numbers = w.1.1 }

pub returns-then-store-all : goal.returns-then-store-all
returns-then-store-all c = let w = reset_told _ _ (search short_answer) (search short_store) in record { answer = w.0; stored = w.1.0; numbers = w.1.1 }

pub put_resets-requires : goal.put_resets-requires
put_resets-requires c = search (rules, few_fields)

pub returns : goal.returns
returns c = let w = reset_told _ _ (search reset_answer_lem) (search reset_store) in record { answer = w.0; stored = w.1.0; numbers = w.1.1 }
