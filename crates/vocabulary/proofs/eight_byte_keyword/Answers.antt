-- Each first byte of a keyword of eight bytes has an arm with the keywords that begin so; any other leaves none.
use Rattle.vocabulary.specs.Candidates.{having, candidates}
use Rattle.vocabulary.proofs.Candidates.{arms, last_arm}
use Rattle.vocabulary.proofs.eight_byte_keyword.Goals as goal

pub returns-in-97 : goal.returns-in-97
unfolding having candidates
returns-in-97 c = search arms depth 8

pub returns-in-98 : goal.returns-in-98
unfolding having candidates
returns-in-98 c = search arms depth 8

pub returns-in-101 : goal.returns-in-101
unfolding having candidates
returns-in-101 c = search arms depth 8

pub returns-in-105 : goal.returns-in-105
unfolding having candidates
returns-in-105 c = search arms depth 8

pub returns-in-112 : goal.returns-in-112
unfolding having candidates
returns-in-112 c = search arms depth 8

pub returns-in-114 : goal.returns-in-114
unfolding having candidates
returns-in-114 c = search arms depth 8

pub returns-in-117 : goal.returns-in-117
unfolding having candidates
returns-in-117 c = search arms depth 8

pub returns-in_default : goal.returns-in_default
unfolding having candidates
returns-in_default c = search last_arm depth 16
