-- Two names begin instances; any other statement is a property's.
use Rattle.syntax.proofs.Turns.{statement_instances, statement_property}
use Rattle.syntax.proofs.read_statement.Goals as goal

pub returns-then-starts_instances : goal.returns-then-starts_instances
returns-then-starts_instances c = search statement_instances

pub returns : goal.returns
returns c = search statement_property
