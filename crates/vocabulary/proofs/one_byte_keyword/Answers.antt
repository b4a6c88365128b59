-- Each first byte of a keyword of one byte has an arm with the keywords that begin so; any other leaves none.
use Rattle.vocabulary.specs.Candidates.{having, candidates}
use Rattle.vocabulary.proofs.Candidates.{arms, last_arm}
use Rattle.vocabulary.proofs.one_byte_keyword.Goals as goal

pub returns-in-114 : goal.returns-in-114
unfolding having candidates
returns-in-114 c = search arms depth 8

pub returns-in-119 : goal.returns-in-119
unfolding having candidates
returns-in-119 c = search arms depth 8

pub returns-in_default : goal.returns-in_default
unfolding having candidates
returns-in_default c = search last_arm depth 16
