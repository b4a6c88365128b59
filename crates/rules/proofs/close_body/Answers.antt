-- A fault at the brace is refused there; else the definition is filed and the walk goes on behind the brace.
use Rattle.std.proofs.Common.{refl}
use Rattle.rules.proofs.Closing.{close_fault, close_on}
use Rattle.rules.proofs.close_body.Goals as goal

pub returns-in-Err : goal.returns-in-Err
returns-in-Err c = rw c.at.ensures (close_fault _ _ _ _ _ _ _ c.closing_component-component.ensures c.in-Err.ensures c.in-Err.rule refl)

pub returns : goal.returns
returns c = let q = c.in_default.ensures in search close_on
