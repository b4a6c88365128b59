-- A read's word is that of the rows at its address; a write's is 0.
use Rattle.access.proofs.Answers.{read_rows, read_word_lem}
use Rattle.access.proofs.word_of_access.Goals as goal

pub word_of_rows-requires : goal.word_of_rows-requires
word_of_rows-requires c = search read_rows

pub returns-in-Read : goal.returns-in-Read
returns-in-Read c = search read_word_lem
