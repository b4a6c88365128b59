-- Each first byte of a keyword of six bytes has an arm with the keywords that begin so; any other leaves none.
use Rattle.vocabulary.specs.Candidates.{having, candidates}
use Rattle.vocabulary.proofs.Candidates.{arms, last_arm}
use Rattle.vocabulary.proofs.six_byte_keyword.Goals as goal

pub returns-in-101 : goal.returns-in-101
unfolding having candidates
returns-in-101 c = search arms depth 8

pub returns-in-105 : goal.returns-in-105
unfolding having candidates
returns-in-105 c = search arms depth 8

pub returns-in-110 : goal.returns-in-110
unfolding having candidates
returns-in-110 c = search arms depth 8

pub returns-in-115 : goal.returns-in-115
unfolding having candidates
returns-in-115 c = search arms depth 8

pub returns-in_default : goal.returns-in_default
unfolding having candidates
returns-in_default c = search last_arm depth 16
