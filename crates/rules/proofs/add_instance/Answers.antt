-- A faulty instance is not added; a sound one stands behind those of the open bodies, linked by its name.
use Rattle.std.proofs.lemmas.Result.{err_from_is_err_and}
use Rattle.rules.proofs.Instances.{add_not, add_one}
use Rattle.rules.proofs.add_instance.Goals as goal

pub returns-in_err-instance_rules : goal.returns-in_err-instance_rules
returns-in_err-instance_rules c =
    let p = err_from_is_err_and c.from_residual.result c.from_residual.ensures.1 in
    let q = c.in_err-instance_rules.ensures in
    rw (p.1, p.2) (search add_not)

pub returns : goal.returns
returns c = let q = c.in_ok-instance_rules.ensures in search add_one
