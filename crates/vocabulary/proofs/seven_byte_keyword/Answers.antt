-- Each first byte of a keyword of seven bytes has an arm with the keywords that begin so; any other leaves none.
use Rattle.vocabulary.specs.Candidates.{having, candidates}
use Rattle.vocabulary.proofs.Candidates.{arms, last_arm}
use Rattle.vocabulary.proofs.seven_byte_keyword.Goals as goal

pub returns-in-97 : goal.returns-in-97
unfolding having candidates
returns-in-97 c = search arms depth 8

pub returns-in-98 : goal.returns-in-98
unfolding having candidates
returns-in-98 c = search arms depth 8

pub returns-in-99 : goal.returns-in-99
unfolding having candidates
returns-in-99 c = search arms depth 8

pub returns-in-100 : goal.returns-in-100
unfolding having candidates
returns-in-100 c = search arms depth 8

pub returns-in-108 : goal.returns-in-108
unfolding having candidates
returns-in-108 c = search arms depth 8

pub returns-in-110 : goal.returns-in-110
unfolding having candidates
returns-in-110 c = search arms depth 8

pub returns-in-112 : goal.returns-in-112
unfolding having candidates
returns-in-112 c = search arms depth 8

pub returns-in-114 : goal.returns-in-114
unfolding having candidates
returns-in-114 c = search arms depth 8

pub returns-in_default : goal.returns-in_default
unfolding having candidates
returns-in_default c = search last_arm depth 16
