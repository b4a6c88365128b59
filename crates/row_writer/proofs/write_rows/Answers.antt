use native.Mathlib.Omega.{arith}
use Rattle.row_writer.proofs.Tables.{writing_start, writing_first, writing_low, writing_row, writing_back, writing_next, end_registers, end_paths, end_fields, end_labels}
use Rattle.row_writer.proofs.write_rows.Goals as goal

pub name_at-title-requires : goal.name_at-title-requires
name_at-title-requires c =
    omega (arith, c.requires.0.low, c.requires.0.shaped.ready.few)

pub loop-i-init : goal.loop-i-init
loop-i-init c =
    writing_start _ _ _ _ _ _ _ _ _ _ _ _ c.requires.0 c.requires.1

pub overflow_mul-i : goal.overflow_mul-i
overflow_mul-i c = record { fits = omega (arith, writing_low _ _ _ _ _ _ _ _ c.loop-i.invariant c.loop-i-test.true) }

pub write_path-requires : goal.write_path-requires
write_path-requires c = writing_low _ _ _ _ _ _ _ _ c.loop-i.invariant c.loop-i-test.true

pub write_run-next-requires : goal.write_run-next-requires
write_run-next-requires c =
    (c.loop-i.invariant.charted.shaped, writing_row _ _ _ _ _ _ _ _ c.loop-i.invariant c.loop-i-test.true c.cell.ensures c.head_row-row.ensures, writing_first _ _ _ _ _ _ _ _ c.loop-i.invariant)

pub overflow_sub-next : goal.overflow_sub-next
overflow_sub-next c =
    writing_back _ _ _ _ _ _ _ _ c.loop-i.invariant c.loop-i-test.true c.cell.ensures c.head_row-row.ensures c.write_run-next.ensures

pub write_register-requires : goal.write_register-requires
write_register-requires c =
    writing_low _ _ _ _ _ _ _ _ c.loop-i.invariant c.loop-i-test.true

pub loop-i-preserved : goal.loop-i-preserved
loop-i-preserved c =
    writing_next _ _ _ _ _ _ _ _ c.loop-i.invariant c.loop-i-test.true c.cell.ensures c.head_row-row.ensures c.write_path.ensures c.write_run-next.ensures c.write_register.ensures

pub returns : goal.returns
returns c = let w = c.loop-i.invariant in
    let h = c.loop-i-test.false in
    record { of_registers = end_registers _ _ _ _ _ _ _ _ w h; of_paths = end_paths _ _ _ _ _ _ _ _ w h c.name_at-title.ensures; of_fields = end_fields _ _ _ _ _ _ _ _ w h; of_labels = end_labels _ _ _ _ _ _ _ _ w h }
