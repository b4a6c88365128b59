use Prim.Native.Nat.{◌-◌}
use mathlib.Core.Path.{refl}
use native.Mathlib.Omega.{arith}
use lib.ListN.{length}
use Rattle.std.proofs.Common.{ap}
use Rattle.std.proofs.lemmas.Result.{err_from_is_err_and}
use Rattle.expressions.specs.Reading.{parsed}
use Rattle.syntax.specs.Grammar.{instances_at}
use Rattle.syntax.proofs.Turns.{list_stop, list_past, list_last, list_more}
use Rattle.syntax.proofs.read_instances.Goals as goal

pub loop-listed-init : goal.loop-listed-init
unfolding instances_at
loop-listed-init c = record { turns = length c.args.text.now; enough = omega arith; same = refl }

pub returns-then-listed : goal.returns-then-listed
returns-then-listed c =
    let l = c.loop-listed in
    list_last _ l.at l.invariant c.read_listed.ensures (ap parsed c.in_ok-listed.was) c.if-listed.true

pub loop-listed-smaller : goal.loop-listed-smaller
loop-listed-smaller c =
    let l = c.loop-listed in
    let p = list_past _ l.at l.invariant c.read_listed.ensures (ap parsed c.in_ok-listed.was) in
    omega arith

pub loop-listed-preserved : goal.loop-listed-preserved
loop-listed-preserved c =
    let l = c.loop-listed in
    list_more _ l.at l.invariant c.read_listed.ensures (ap parsed c.in_ok-listed.was) c.if-listed.false

pub returns-in_err-listed : goal.returns-in_err-listed
returns-in_err-listed c =
    let p = err_from_is_err_and c.from_residual.result c.from_residual.ensures.1 in
    let e = ap parsed c.in_err-listed.was in
    rw (p.1, p.2) (list_stop _ c.loop-listed.at c.loop-listed.invariant c.read_listed.ensures e)
