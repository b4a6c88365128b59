-- Two unlike bytes without an equals sign are no mark; of equal ones only the two shifts are.
use Rattle.chars.specs.Same.{same_bytes}
use Rattle.vocabulary.specs.Vocabulary.{chosen, entry, mark_of}
use Rattle.vocabulary.proofs.Laws.{unlike_none, twice_none}
use Rattle.vocabulary.proofs.twice_mark.Goals as goal

pub returns-then-first-second : goal.returns-then-first-second
unfolding same_bytes chosen entry mark_of
returns-then-first-second c = search unlike_none

pub returns-in-60 : goal.returns-in-60
unfolding same_bytes chosen entry mark_of
returns-in-60 c = rw (← c.if-first-second.false, c.in-60.is)

pub returns-in-62 : goal.returns-in-62
unfolding same_bytes chosen entry mark_of
returns-in-62 c = rw (← c.if-first-second.false, c.in-62.is)

pub returns-in_default : goal.returns-in_default
unfolding same_bytes chosen entry mark_of
returns-in_default c = twice_none _ _ c.requires c.if-first-second.false c.in_default.in_default-own.rest.0.1 c.in_default.in_default-own.rest.1
