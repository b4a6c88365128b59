-- Whether the second byte is an equals sign decides which list of marks is tested.
use Rattle.vocabulary.proofs.double_mark.Goals as goal

pub returns-then-second-eq61 : goal.returns-then-second-eq61
returns-then-second-eq61 c = rw c.if-second-eq61.true c.equals_mark.ensures
