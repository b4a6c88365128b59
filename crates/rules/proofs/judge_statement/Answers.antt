-- Two names begin instances; any other statement is a setting.
use Rattle.rules.proofs.Statements.{setting_steps, statement_use, statement_set}
use Rattle.rules.proofs.judge_statement.Goals as goal

pub returns-then-starts_instances : goal.returns-then-starts_instances
returns-then-starts_instances c = search statement_use

pub returns-else-starts_instances : goal.returns-else-starts_instances
returns-else-starts_instances c = search (statement_set, setting_steps)
