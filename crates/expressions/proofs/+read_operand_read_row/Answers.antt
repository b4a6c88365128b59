use native.Mathlib.Omega.{arith}
use Rattle.std.proofs.Common.{ap}
use Rattle.std.proofs.lemmas.Result.{err_from_is_err_and}
use Prim.Native.Nat.{◌-◌}
use borrow.Fn.PlainCycle.{is, and}
use lib.ListN.{length}
use Rattle.expressions.specs.Reading.{mapped, parsed}
use Rattle.expressions.specs.Value.{evaluated}
use Rattle.expressions.specs.Grammar.{operand_at, row_at}
use Rattle.expressions.proofs.Laws.{operand_literal, operand_deep, operand_stop, operand_close, operand_closing, operand_operator, operand_other, Joining, row_zero, row_stop, row_begin, join_done, join_stop, join_past, join_more}
use Rattle.expressions.proofs.+read_operand_read_row.Goals as goal

-- The reader of an operand and the reader of a row call each other: the parentheses still allowed fall, and within them the row. Each
-- answers what the grammar gives.
pub read_operand-returns-then-depth-eq0 : goal.read_operand-returns-then-depth-eq0
read_operand-returns-then-depth-eq0 t c = rw c.at.ensures (search operand_deep)

pub read_operand-read_row-requires : goal.read_operand-read_row-requires
read_operand-read_row-requires t c = (omega arith, tt)

pub read_operand-returns-in-Literal : goal.read_operand-returns-in-Literal
read_operand-returns-in-Literal t c = search operand_literal

pub read_operand-returns-in_ok-number-in-Open : goal.read_operand-returns-in_ok-number-in-Open
read_operand-returns-in_ok-number-in-Open t c =
    operand_close _ _ c.next_token-token.ensures c.part_of.ensures c.in-Open.is c.if-depth-eq0.false c.read_row.ensures (ap parsed c.in_ok-number-in-Open.was) c.close.ensures

pub read_operand-returns-in_err-number-in-Open : goal.read_operand-returns-in_err-number-in-Open
read_operand-returns-in_err-number-in-Open t c =
    let p = err_from_is_err_and c.from_residual.result c.from_residual.ensures.1 in
    rw (p.1, p.2) (operand_stop _ _ c.next_token-token.ensures c.part_of.ensures c.in-Open.is c.if-depth-eq0.false c.read_row.ensures (ap parsed c.in_err-number-in-Open.was))

pub read_operand-returns-in-Close : goal.read_operand-returns-in-Close
read_operand-returns-in-Close t c = rw c.at-in-Close.ensures (search operand_closing)

pub read_operand-returns-in-Binary : goal.read_operand-returns-in-Binary
read_operand-returns-in-Binary t c = rw c.at-in-Binary.ensures (search operand_operator)

pub read_operand-returns-in-Other : goal.read_operand-returns-in-Other
read_operand-returns-in-Other t c = rw c.at-in-Other.ensures (search operand_other)

pub read_row-read_operand-requires : goal.read_row-read_operand-requires
read_row-read_operand-requires t c = (omega arith, tt)

pub read_row-returns-then-row-eq0 : goal.read_row-returns-then-row-eq0
read_row-returns-then-row-eq0 t c = row_zero _ _ _ _ c.if-row-eq0.true c.read_operand.ensures

pub read_row-read_row-requires : goal.read_row-read_row-requires
read_row-read_row-requires t c = (omega arith, tt)

pub read_row-loop-operator-init : goal.read_row-loop-operator-init
read_row-loop-operator-init t c = row_begin _ _ _ c.if-row-eq0.false _ c.read_row.ensures (ap parsed c.in_ok-first.was)

pub read_row-returns-in-None : goal.read_row-returns-in-None
read_row-returns-in-None t c =
    join_done _ _ _ c.if-row-eq0.false _ c.loop-operator.invariant c.next_token-token.ensures c.part_of.ensures c.operator_in.ensures c.in-None.is

pub read_row-read_row-requires-in-Some : goal.read_row-read_row-requires-in-Some
read_row-read_row-requires-in-Some t c = (omega arith, tt)

pub read_row-returns-in_err-right-in-Some : goal.read_row-returns-in_err-right-in-Some
read_row-returns-in_err-right-in-Some t c =
    let p = err_from_is_err_and c.from_residual-in_err-right-in-Some.result c.from_residual-in_err-right-in-Some.ensures.1 in
    rw (p.1, p.2) (join_stop _ _ _ c.if-row-eq0.false _ c.loop-operator.invariant c.next_token-token.ensures c.part_of.ensures c.operator_in.ensures c.in-Some.is c.read_row-in-Some.ensures (ap parsed c.in_err-right-in-Some.was))

pub read_row-loop-operator-smaller : goal.read_row-loop-operator-smaller
read_row-loop-operator-smaller t c =
    let p = join_past _ _ _ c.if-row-eq0.false _ c.loop-operator.invariant c.next_token-token.ensures c.part_of.ensures c.operator_in.ensures c.in-Some.is c.read_row-in-Some.ensures (ap parsed c.in_ok-right-in-Some.was) in
    omega (arith, p.0, p.1)

pub read_row-loop-operator-preserved : goal.read_row-loop-operator-preserved
read_row-loop-operator-preserved t c =
    join_more _ _ _ c.if-row-eq0.false _ c.loop-operator.invariant c.next_token-token.ensures c.part_of.ensures c.operator_in.ensures c.in-Some.is c.read_row-in-Some.ensures (ap parsed c.in_ok-right-in-Some.was) c.combine-left.ensures

pub read_row-returns-in_err-first : goal.read_row-returns-in_err-first
read_row-returns-in_err-first t c =
    let p = err_from_is_err_and c.from_residual.result c.from_residual.ensures.1 in
    rw (p.1, p.2) (row_stop _ _ _ c.if-row-eq0.false _ c.read_row.ensures (ap parsed c.in_err-first.was))
