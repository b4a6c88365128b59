-- Three letters name a radix; every other byte is unknown.
use Rattle.numbers.proofs.Laws.{radix_none}
use Rattle.numbers.specs.Number.{radix_of}
use Rattle.numbers.proofs.radix_of.Goals as goal

pub returns-in-98 : goal.returns-in-98
unfolding radix_of
returns-in-98 c = rw c.in-98.is

pub returns-in-100 : goal.returns-in-100
unfolding radix_of
returns-in-100 c = rw c.in-100.is

pub returns-in-104 : goal.returns-in-104
unfolding radix_of
returns-in-104 c = rw c.in-104.is

pub returns-in_default : goal.returns-in_default
unfolding radix_of
returns-in_default c = radix_none _ c.in_default.in_default-own.rest.0.0.1 c.in_default.in_default-own.rest.0.1 c.in_default.in_default-own.rest.1
