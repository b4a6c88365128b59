-- Each first byte of a keyword of fourteen bytes has an arm with the keywords that begin so; any other leaves none.
use Rattle.vocabulary.specs.Candidates.{having, candidates}
use Rattle.vocabulary.proofs.Candidates.{arms, last_arm}
use Rattle.vocabulary.proofs.fourteen_byte_keyword.Goals as goal

pub returns-in-97 : goal.returns-in-97
unfolding having candidates
returns-in-97 c = search arms depth 8

pub returns-in-99 : goal.returns-in-99
unfolding having candidates
returns-in-99 c = search arms depth 8

pub returns-in_default : goal.returns-in_default
unfolding having candidates
returns-in_default c = search last_arm depth 16
