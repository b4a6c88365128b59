-- Each first byte of a keyword of nine bytes has an arm with the keywords that begin so; any other leaves none.
use Rattle.vocabulary.specs.Candidates.{having, candidates}
use Rattle.vocabulary.proofs.Candidates.{arms, last_arm}
use Rattle.vocabulary.proofs.nine_byte_keyword.Goals as goal

pub returns-in-99 : goal.returns-in-99
unfolding having candidates
returns-in-99 c = search arms depth 8

pub returns-in-102 : goal.returns-in-102
unfolding having candidates
returns-in-102 c = search arms depth 8

pub returns-in-110 : goal.returns-in-110
unfolding having candidates
returns-in-110 c = search arms depth 8

pub returns-in_default : goal.returns-in_default
unfolding having candidates
returns-in_default c = search last_arm depth 16
