-- Behind words and sentences, which leave the cells alone, the rules fill them.
use Rattle.rules.proofs.Rulings.{ruled_so, worked_so}
use Rattle.rules.proofs.define.Goals as goal

pub returns-clause-answer : goal.returns-clause-answer
returns-clause-answer c = ruled_so _ _ c.in_ok-first_refusal.ensures.answer c.in_ok-first_refusal-2.ensures.answer c.requires c.judge_file.ensures

pub returns-clause-cells : goal.returns-clause-cells
returns-clause-cells c = worked_so _ _ c.in_ok-first_refusal.ensures.answer c.in_ok-first_refusal-2.ensures.answer c.requires c.judge_file.ensures
