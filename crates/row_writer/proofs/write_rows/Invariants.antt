-- The four tables become those of the map's entries: with the rows that are left they would be the same from every register passed.
use Rattle.row_writer.proofs.Tables.{Writing}
use Rattle.row_writer.proofs.write_rows.Given as goal

abbrev pub invariant-loop-i : goal.invariant-loop-i
invariant-loop-i l =
    Writing l.text l.cells l.shapes l.log l.extent l.extent.map l.count l.title l.initial.registers l.registers l.initial.paths l.paths l.initial.fields l.fields l.initial.labels l.labels l.i l.first
