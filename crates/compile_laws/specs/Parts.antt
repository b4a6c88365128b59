-- 17, said of a register's row: each field that is writable or has an effect on reading lies within one access part. Rows are lawful without
-- it; the rows of an accepted text have it.
use Rattle.std.specs.Prelude.{◌≡◌, false}
use Rattle.basics.specs.All.{All}
use Rattle.fields.specs.Fields.{spans_parts}
use Rattle.fields.specs.declared.Register.{Register}
use Rattle.rows.specs.Rows.{Field, Entry}

abbrev pub FieldWithin : Register → Field → Type 0
FieldWithin r f = spans_parts r.access f.at ≡ false

abbrev pub WithinParts : Entry → Type 0
WithinParts e = All (FieldWithin e.register) e.fields
