-- Each first byte of a keyword of three bytes has an arm with the keywords that begin so; any other leaves none.
use Rattle.vocabulary.specs.Candidates.{having, candidates}
use Rattle.vocabulary.proofs.Candidates.{arms, last_arm}
use Rattle.vocabulary.proofs.three_byte_keyword.Goals as goal

pub returns-in-97 : goal.returns-in-97
unfolding having candidates
returns-in-97 c = search arms depth 8

pub returns-in-98 : goal.returns-in-98
unfolding having candidates
returns-in-98 c = search arms depth 8

pub returns-in-109 : goal.returns-in-109
unfolding having candidates
returns-in-109 c = search arms depth 8

pub returns-in-114 : goal.returns-in-114
unfolding having candidates
returns-in-114 c = search arms depth 8

pub returns-in-119 : goal.returns-in-119
unfolding having candidates
returns-in-119 c = search arms depth 8

pub returns-in_default : goal.returns-in_default
unfolding having candidates
returns-in_default c = search last_arm depth 16
