-- Six bytes make a mark with an equals sign; every other byte makes none.
use Rattle.chars.specs.Same.{same_bytes}
use Rattle.vocabulary.specs.Vocabulary.{chosen, entry, mark_of}
use Rattle.vocabulary.proofs.Laws.{equals_none}
use Rattle.vocabulary.proofs.equals_mark.Goals as goal

pub returns-in-43 : goal.returns-in-43
unfolding same_bytes chosen entry mark_of
returns-in-43 c = rw c.in-43.is

pub returns-in-37 : goal.returns-in-37
unfolding same_bytes chosen entry mark_of
returns-in-37 c = rw c.in-37.is

pub returns-in-60 : goal.returns-in-60
unfolding same_bytes chosen entry mark_of
returns-in-60 c = rw c.in-60.is

pub returns-in-62 : goal.returns-in-62
unfolding same_bytes chosen entry mark_of
returns-in-62 c = rw c.in-62.is

pub returns-in-61 : goal.returns-in-61
unfolding same_bytes chosen entry mark_of
returns-in-61 c = rw c.in-61.is

pub returns-in-33 : goal.returns-in-33
unfolding same_bytes chosen entry mark_of
returns-in-33 c = rw c.in-33.is

pub returns-in_default : goal.returns-in_default
unfolding same_bytes chosen entry mark_of
returns-in_default c = equals_none _ c.in_default.in_default-own.rest.0.0.0.0.0.1 c.in_default.in_default-own.rest.0.0.0.0.1 c.in_default.in_default-own.rest.0.0.0.1 c.in_default.in_default-own.rest.0.0.1 c.in_default.in_default-own.rest.0.1 c.in_default.in_default-own.rest.1
