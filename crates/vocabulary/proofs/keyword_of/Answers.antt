-- The keywords of the word's length and first byte give the answer that all keywords give; a word of another length than theirs is none.
use Rattle.vocabulary.proofs.Candidates.{keyword_chosen, keyword_none}
use Rattle.basics.specs.All.{all_none, all_more}
use Rattle.vocabulary.proofs.keyword_of.Goals as goal

pub returns-in-1 : goal.returns-in-1
returns-in-1 c = search keyword_chosen

pub returns-in-2 : goal.returns-in-2
returns-in-2 c = search keyword_chosen

pub returns-in-3 : goal.returns-in-3
returns-in-3 c = search keyword_chosen

pub returns-in-4 : goal.returns-in-4
returns-in-4 c = search keyword_chosen

pub returns-in-5 : goal.returns-in-5
returns-in-5 c = search keyword_chosen

pub returns-in-6 : goal.returns-in-6
returns-in-6 c = search keyword_chosen

pub returns-in-7 : goal.returns-in-7
returns-in-7 c = search keyword_chosen

pub returns-in-8 : goal.returns-in-8
returns-in-8 c = search keyword_chosen

pub returns-in-9 : goal.returns-in-9
returns-in-9 c = search keyword_chosen

pub returns-in-10 : goal.returns-in-10
returns-in-10 c = search keyword_chosen

pub returns-in-11 : goal.returns-in-11
returns-in-11 c = search keyword_chosen

pub returns-in-14 : goal.returns-in-14
returns-in-14 c = search keyword_chosen

pub returns-in_default : goal.returns-in_default
returns-in_default c = search (keyword_none, all_none, all_more) depth 16
