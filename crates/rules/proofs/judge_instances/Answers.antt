-- Each instance of the list is judged and added; the first fault ends the list, and so does the last instance.
use Prim.Native.Nat.{◌<◌}
use native.Mathlib.Omega.{arith}
use borrow.Author.Rules.{rules}
use Rattle.std.proofs.lemmas.Result.{err_from_is_err_and}
use Rattle.cells.specs.Cells.{instance_room}
use Rattle.rules.proofs.Listing.{going_start, going_stop, item_room, item_low, item_falls, going_broken, going_last, going_more}
use Rattle.rules.proofs.judge_instances.Goals as goal

pub loop-listed-init : goal.loop-listed-init
loop-listed-init c = going_start _ _ _ _ _ _ _

pub returns-in_err-listed : goal.returns-in_err-listed
returns-in_err-listed c =
    let p = err_from_is_err_and c.from_residual.result c.from_residual.ensures.1 in
    rw (p.1, p.2) (going_stop c.loop-listed.invariant c.in_err-listed.ensures)

pub add_instance-requires : goal.add_instance-requires
add_instance-requires c = let item = c.in_ok-listed.ensures in search (rules, item_room, item_low)

pub returns-in_err-add_instance : goal.returns-in_err-add_instance
returns-in_err-add_instance c =
    let p = err_from_is_err_and c.from_residual-in_err-add_instance.result c.from_residual-in_err-add_instance.ensures.1 in
    rw (p.1, p.2) (going_broken c.loop-listed.invariant c.in_ok-listed.ensures c.in_err-add_instance.ensures c.requires.0)

pub overflow_add-held : goal.overflow_add-held
overflow_add-held c =
    let item = c.in_ok-listed.ensures in
    let w : c.loop-listed.held < instance_room = search item_room in
    omega arith

pub returns-then-listed : goal.returns-then-listed
returns-then-listed c = going_last c.loop-listed.invariant c.in_ok-listed.ensures c.in_ok-add_instance.ensures c.requires.0 c.if-listed.true

pub loop-listed-smaller : goal.loop-listed-smaller
loop-listed-smaller c = item_falls c.loop-listed.invariant c.in_ok-listed.ensures

pub loop-listed-preserved : goal.loop-listed-preserved
loop-listed-preserved c = going_more c.loop-listed.invariant c.in_ok-listed.ensures c.in_ok-add_instance.ensures c.requires.0 c.if-listed.false
