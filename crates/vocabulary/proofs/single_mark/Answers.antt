-- Each of 21 bytes is a mark of one byte; every other byte is none.
use Rattle.chars.specs.Same.{same_bytes}
use Rattle.vocabulary.specs.Vocabulary.{chosen, entry, mark_of}
use Rattle.vocabulary.proofs.Laws.{single_none}
use Rattle.vocabulary.proofs.single_mark.Goals as goal

pub returns-in-123 : goal.returns-in-123
unfolding same_bytes chosen entry mark_of
returns-in-123 c = rw c.in-123.is

pub returns-in-125 : goal.returns-in-125
unfolding same_bytes chosen entry mark_of
returns-in-125 c = rw c.in-125.is

pub returns-in-91 : goal.returns-in-91
unfolding same_bytes chosen entry mark_of
returns-in-91 c = rw c.in-91.is

pub returns-in-93 : goal.returns-in-93
unfolding same_bytes chosen entry mark_of
returns-in-93 c = rw c.in-93.is

pub returns-in-59 : goal.returns-in-59
unfolding same_bytes chosen entry mark_of
returns-in-59 c = rw c.in-59.is

pub returns-in-58 : goal.returns-in-58
unfolding same_bytes chosen entry mark_of
returns-in-58 c = rw c.in-58.is

pub returns-in-44 : goal.returns-in-44
unfolding same_bytes chosen entry mark_of
returns-in-44 c = rw c.in-44.is

pub returns-in-61 : goal.returns-in-61
unfolding same_bytes chosen entry mark_of
returns-in-61 c = rw c.in-61.is

pub returns-in-64 : goal.returns-in-64
unfolding same_bytes chosen entry mark_of
returns-in-64 c = rw c.in-64.is

pub returns-in-40 : goal.returns-in-40
unfolding same_bytes chosen entry mark_of
returns-in-40 c = rw c.in-40.is

pub returns-in-41 : goal.returns-in-41
unfolding same_bytes chosen entry mark_of
returns-in-41 c = rw c.in-41.is

pub returns-in-42 : goal.returns-in-42
unfolding same_bytes chosen entry mark_of
returns-in-42 c = rw c.in-42.is

pub returns-in-47 : goal.returns-in-47
unfolding same_bytes chosen entry mark_of
returns-in-47 c = rw c.in-47.is

pub returns-in-37 : goal.returns-in-37
unfolding same_bytes chosen entry mark_of
returns-in-37 c = rw c.in-37.is

pub returns-in-43 : goal.returns-in-43
unfolding same_bytes chosen entry mark_of
returns-in-43 c = rw c.in-43.is

pub returns-in-45 : goal.returns-in-45
unfolding same_bytes chosen entry mark_of
returns-in-45 c = rw c.in-45.is

pub returns-in-60 : goal.returns-in-60
unfolding same_bytes chosen entry mark_of
returns-in-60 c = rw c.in-60.is

pub returns-in-62 : goal.returns-in-62
unfolding same_bytes chosen entry mark_of
returns-in-62 c = rw c.in-62.is

pub returns-in-38 : goal.returns-in-38
unfolding same_bytes chosen entry mark_of
returns-in-38 c = rw c.in-38.is

pub returns-in-94 : goal.returns-in-94
unfolding same_bytes chosen entry mark_of
returns-in-94 c = rw c.in-94.is

pub returns-in-124 : goal.returns-in-124
unfolding same_bytes chosen entry mark_of
returns-in-124 c = rw c.in-124.is

pub returns-in_default : goal.returns-in_default
unfolding same_bytes chosen entry mark_of
returns-in_default c = single_none _ c.in_default.in_default-own.rest.0.0.0.0.0.0.0.0.0.0.0.0.0.0.0.0.0.0.0.0.1 c.in_default.in_default-own.rest.0.0.0.0.0.0.0.0.0.0.0.0.0.0.0.0.0.0.0.1 c.in_default.in_default-own.rest.0.0.0.0.0.0.0.0.0.0.0.0.0.0.0.0.0.0.1 c.in_default.in_default-own.rest.0.0.0.0.0.0.0.0.0.0.0.0.0.0.0.0.0.1 c.in_default.in_default-own.rest.0.0.0.0.0.0.0.0.0.0.0.0.0.0.0.0.1 c.in_default.in_default-own.rest.0.0.0.0.0.0.0.0.0.0.0.0.0.0.0.1 c.in_default.in_default-own.rest.0.0.0.0.0.0.0.0.0.0.0.0.0.0.1 c.in_default.in_default-own.rest.0.0.0.0.0.0.0.0.0.0.0.0.0.1 c.in_default.in_default-own.rest.0.0.0.0.0.0.0.0.0.0.0.0.1 c.in_default.in_default-own.rest.0.0.0.0.0.0.0.0.0.0.0.1 c.in_default.in_default-own.rest.0.0.0.0.0.0.0.0.0.0.1 c.in_default.in_default-own.rest.0.0.0.0.0.0.0.0.0.1 c.in_default.in_default-own.rest.0.0.0.0.0.0.0.0.1 c.in_default.in_default-own.rest.0.0.0.0.0.0.0.1 c.in_default.in_default-own.rest.0.0.0.0.0.0.1 c.in_default.in_default-own.rest.0.0.0.0.0.1 c.in_default.in_default-own.rest.0.0.0.0.1 c.in_default.in_default-own.rest.0.0.0.1 c.in_default.in_default-own.rest.0.0.1 c.in_default.in_default-own.rest.0.1 c.in_default.in_default-own.rest.1
