-- The name's meaning is looked up among the types that are visible there, and its instances are judged.
use borrow.Author.Rules.{rules}
use Rattle.std.proofs.lemmas.Result.{err_from_is_err_and}
use Rattle.rules.proofs.Statements.{use_stop, use_unknown, use_room, use_low, use_listing}
use Rattle.rules.proofs.judge_use.Goals as goal

pub returns-in_err-name : goal.returns-in_err-name
returns-in_err-name c =
    let p = err_from_is_err_and c.from_residual.result c.from_residual.ensures.1 in
    rw (p.1, p.2) (use_stop _ _ _ _ c.in_err-name.ensures)

pub returns-in_default : goal.returns-in_default
returns-in_default c = rw c.at.ensures (use_unknown _ _ _ _ c.in_ok-name.ensures c.in_default.ensures)

pub kind_at-kind-requires : goal.kind_at-kind-requires
kind_at-kind-requires c = use_low _ _ _ _ c.in_ok-name.ensures c.requires c.in-Some.ensures

pub judge_instances-requires : goal.judge_instances-requires
judge_instances-requires c =
    let room = use_room _ c.args.cells.now _ _ c.in_ok-name.ensures c.requires in
    let low = use_low _ _ _ _ c.in_ok-name.ensures c.requires c.in-Some.ensures in
    search rules

pub returns-in_err-held : goal.returns-in_err-held
returns-in_err-held c =
    let p = err_from_is_err_and c.from_residual-in_err-held.result c.from_residual-in_err-held.ensures.1 in
    rw (p.1, p.2) (use_listing _ _ _ _ c.in_ok-name.ensures c.requires c.in-Some.ensures c.kind_at-kind.ensures c.in_err-held.ensures)

pub returns : goal.returns
returns c = use_listing _ _ _ _ c.in_ok-name.ensures c.requires c.in-Some.ensures c.kind_at-kind.ensures c.in_ok-held.ensures
