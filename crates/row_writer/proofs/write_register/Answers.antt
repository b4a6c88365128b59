-- Six cells and then the indices, set one after another, are the register's row as log and cells give it.
use native.Mathlib.Omega.{arith}
use Rattle.row_writer.proofs.Cells.{register_put}
use Rattle.row_writer.proofs.write_register.Goals as goal

pub overflow_add-start : goal.overflow_add-start
overflow_add-start c =
    record { fits = omega (arith, c.requires) }

pub overflow_add-at-6 : goal.overflow_add-at-6
overflow_add-at-6 c =
    record { fits = omega (arith, c.requires) }

pub write_indices-requires : goal.write_indices-requires
write_indices-requires c =
    (omega (arith, c.requires), omega (arith, c.requires))

pub returns : goal.returns
returns c =
    register_put _ _ _ _ _ c.cell-head.ensures c.head_row-row.ensures c.component_at.ensures c.register_of-register.ensures
    c.head_address-address.ensures c.head_depth-depth.ensures _ c.put.ensures c.put-2.ensures c.put-3.ensures c.put-4.ensures
    c.put-5.ensures c.put-6.ensures c.write_indices.ensures
