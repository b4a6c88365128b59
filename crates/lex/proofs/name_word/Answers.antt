-- A name above 31 bytes is refused; a shorter one is a keyword or a name.
use Rattle.lex.proofs.Tokens.{name_long, name_short}
use Rattle.lex.proofs.name_word.Goals as goal

pub returns-then-name-gt-NAME_LIMIT : goal.returns-then-name-gt-NAME_LIMIT
returns-then-name-gt-NAME_LIMIT c = search name_long

pub returns : goal.returns
returns c = search name_short
