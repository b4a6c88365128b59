-- The answer to a refused text is its line; to an accepted one the listing of the rows that the program's tables hold whole.
use Rattle.std.proofs.Common.{◌≡◌, ◌*◌, List, ℕ, Result, Ok, arith, ap, sym, length-take-le, replicate}
use Rattle.basics.specs.Judged.{judged}
use Rattle.basics.specs.declared.Refusal.{Refusal}
use Rattle.basics.specs.Limits.{register_limit, field_limit, register_row_width, field_row_width, name_width, path_row_width}
use Rattle.rows.specs.Rows.{Tables, tables}
use Rattle.map_walk.specs.declared.Counts.{Counts}
use Rattle.compile.specs.Compiled.{compiled, answered, lent_after}
use Rattle.reply.proofs.Answering.{Large, AcceptedRows, zeros_large, accepted_holds, reply_refused, reply_accepted}
use Rattle.reply.proofs.reply.Goals as goal

-- the four tables of the program
abbrev start : Tables
start = tables (replicate (register_limit * register_row_width) 0) (replicate (register_limit * path_row_width) 0) (replicate (field_limit * field_row_width) 0) (replicate (field_limit * name_width) 0)

large : Large start
large = zeros_large (register_limit * register_row_width) (register_limit * path_row_width) (field_limit * field_row_width) (field_limit * name_width) (omega arith) (omega arith) (omega arith) (omega arith)

-- the rows of an accepted text stand in them
held : (text : List ℕ) (after : Tables) {r : Result Counts Refusal} {counts : Counts} → judged r ≡ answered start (compiled text) → after ≡ lent_after start (compiled text) → r ≡ Ok counts
    → AcceptedRows text after counts
held text after a w z = accepted_holds text start large a after w (ap judged z)

pub overflow_mul-registers : goal.overflow_mul-registers
overflow_mul-registers c = record { fits = (held _ _ c.compile.ensures.answer c.compile.ensures.lent c.in-Ok.is).few_numbers }

pub overflow_mul-paths : goal.overflow_mul-paths
overflow_mul-paths c = record { fits = (held _ _ c.compile.ensures.answer c.compile.ensures.lent c.in-Ok.is).few_paths }

pub overflow_mul-fields : goal.overflow_mul-fields
overflow_mul-fields c = record { fits = (held _ _ c.compile.ensures.answer c.compile.ensures.lent c.in-Ok.is).few_fields }

pub overflow_mul-labels : goal.overflow_mul-labels
overflow_mul-labels c = record { fits = (held _ _ c.compile.ensures.answer c.compile.ensures.lent c.in-Ok.is).few_labels }

pub slice_bounds-write_listing-end : goal.slice_bounds-write_listing-end
slice_bounds-write_listing-end c = sym (length-take-le _ _ (held _ _ c.compile.ensures.answer c.compile.ensures.lent c.in-Ok.is).registers_fit)

pub slice_bounds-registers-end : goal.slice_bounds-registers-end
slice_bounds-registers-end c = (held _ _ c.compile.ensures.answer c.compile.ensures.lent c.in-Ok.is).registers_fit

pub slice_bounds-write_listing-end-in-Ok : goal.slice_bounds-write_listing-end-in-Ok
slice_bounds-write_listing-end-in-Ok c = sym (length-take-le _ _ (held _ _ c.compile.ensures.answer c.compile.ensures.lent c.in-Ok.is).paths_fit)

pub slice_bounds-paths-end : goal.slice_bounds-paths-end
slice_bounds-paths-end c = (held _ _ c.compile.ensures.answer c.compile.ensures.lent c.in-Ok.is).paths_fit

pub slice_bounds-write_listing-end-in-Ok-2 : goal.slice_bounds-write_listing-end-in-Ok-2
slice_bounds-write_listing-end-in-Ok-2 c = sym (length-take-le _ _ (held _ _ c.compile.ensures.answer c.compile.ensures.lent c.in-Ok.is).fields_fit)

pub slice_bounds-fields-end : goal.slice_bounds-fields-end
slice_bounds-fields-end c = (held _ _ c.compile.ensures.answer c.compile.ensures.lent c.in-Ok.is).fields_fit

pub slice_bounds-write_listing-end-in-Ok-3 : goal.slice_bounds-write_listing-end-in-Ok-3
slice_bounds-write_listing-end-in-Ok-3 c = sym (length-take-le _ _ (held _ _ c.compile.ensures.answer c.compile.ensures.lent c.in-Ok.is).labels_fit)

pub slice_bounds-labels-end : goal.slice_bounds-labels-end
slice_bounds-labels-end c = (held _ _ c.compile.ensures.answer c.compile.ensures.lent c.in-Ok.is).labels_fit

pub returns-in-Ok : goal.returns-in-Ok
returns-in-Ok c =
    let w = reply_accepted (held _ _ c.compile.ensures.answer c.compile.ensures.lent c.in-Ok.is) c.write_listing.ensures in
    record { answer = w.0; written = w.1 }

pub returns-in-Err : goal.returns-in-Err
returns-in-Err c =
    let w = reply_refused _ _ large c.compile.ensures.answer (ap judged c.in-Err.is) (rw c.number.ensures at c.write_refusal.ensures) in
    record { answer = w.0; written = w.1 }
