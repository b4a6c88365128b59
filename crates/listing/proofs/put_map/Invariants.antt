-- What is left of the registers comes to what all of them come to.
use Prim.Native.Nat.{◌-◌, ◌/◌}
use lib.ListN.{length}
use Rattle.basics.specs.Limits.{register_row_width}
use Rattle.lines.proofs.Pouring.{Pouring}
use Rattle.rows.specs.Rows.{tables}
use Rattle.rows.specs.Reading.{name_at, entries_from}
use Rattle.listing.specs.Listing.{entries_lines}
use Rattle.listing.proofs.put_map.Given as goal

abbrev pub invariant-loop-i : goal.invariant-loop-i
invariant-loop-i l = (Pouring l.room l.initial.out l.out l.initial.sink (entries_lines (name_at l.paths 0) (entries_from (tables l.registers l.paths l.fields l.labels) 0 (length l.registers / register_row_width))) l.sink (entries_lines (name_at l.paths 0) (entries_from (tables l.registers l.paths l.fields l.labels) l.i (length l.registers / register_row_width - l.i))))
