-- The link to the compiler: the third demand of the map of every accepted text, whose reset store fits.
use mathlib.Core.Path.{◌≡◌, refl, ap, subst}
use mathlib.Core.Bool.{Bool, true, false}
use mathlib.Core.List.{List}
use Prim.Native.Nat.{ℕ, ◌*◌}
use lib.ListN.{length, take, drop}
use lib.Seq.{take_at}
use Rattle.std.specs.Prelude.{if◌then◌else◌}
use Rattle.basics.specs.Judged.{Judged, fault, fine}
use Rattle.map_walk.specs.declared.Counts.{Counts}
use Rattle.basics.specs.Limits.{register_row_width, field_row_width, name_width, path_row_width}
use Rattle.rows.specs.Rows.{Map, Tables, register_table, path_table, field_table, label_table, tables_of}
use Rattle.row_laws.specs.Sound.{fields_in}
use Rattle.row_laws.proofs.Tables.{length-register_table, length-path_table, length-field_table, length-label_table}
use Rattle.compile.specs.Compiled.{compiled, is_short, answered, over, over_all, lent_after}
use Rattle.compile_laws.proofs.Lawful.{accepted_lawful, accepted_read}
use Rattle.model.specs.Model.{Words}
use Rattle.access.specs.Stored.{stored_of, stored_fields}
use Rattle.access.specs.Perform.{reset_refusal, store_reset, Fitting}
use Rattle.access.proofs.Calls.{reset_fitting}
use Rattle.demands.specs.Demands.{RowsOf, first_rows, Demand3}
use Rattle.demands.proofs.Rows.{demand_3}

-- the stored fields of the rows of an accepted text are those of its map
pub accepted_stored : (text : List ℕ) (m : Map) → compiled text ≡ fine m → stored_fields (tables_of m) ≡ stored_of m
accepted_stored text m e = ap stored_of (accepted_read text m e)

-- the store that an answered reset leaves fits
pub accepted_reset : (text : List ℕ) (m : Map) → compiled text ≡ fine m → (s : List ℕ) → Words s → reset_refusal (tables_of m) s ≡ 0 → Fitting (tables_of m) (store_reset (tables_of m) s)
accepted_reset text m e = reset_fitting (tables_of m) (accepted_lawful text m e)

pub accepted_demand_3 : (text : List ℕ) (m : Map) → compiled text ≡ fine m → Demand3 (tables_of m)
accepted_demand_3 text m e = demand_3 (tables_of m) (accepted_lawful text m e)

-- ---- the rows that `compile` has written

-- a table's rows stand first in the lent table
first_over : (rows lent : List ℕ) (n : ℕ) → length rows ≡ n → take n (over rows lent) ≡ rows
first_over rows lent n e = take_at rows (drop (length rows) lent) n e

first_rows_lem : (m : Map) (lent : Tables) → first_rows (length m.entries) (fields_in m.entries) (over_all (tables_of m) lent) ≡ tables_of m
first_rows_lem m lent =
    rw (
      first_over (register_table 0 m.entries) lent.registers (length m.entries * register_row_width) (length-register_table 0 m.entries),
      first_over (path_table m.name m.entries) lent.paths (length m.entries * path_row_width) (length-path_table m.name m.entries),
      first_over (field_table m.entries) lent.fields (fields_in m.entries * field_row_width) (length-field_table m.entries),
      first_over (label_table m.entries) lent.labels (fields_in m.entries * name_width) (length-label_table m.entries),
    )

-- as many register rows and field rows as `compile` answers are the rows of the text's map
pub compiled_rows : (text : List ℕ) (lent : Tables) (counts : Counts) → answered lent (compiled text) ≡ fine counts
    → RowsOf text (first_rows counts.registers counts.fields (lent_after lent (compiled text)))
unfolding answered lent_after
compiled_rows text lent counts h = by (compiled text) refl h
  where
    roomy : (m : Map) (b : Bool) → is_short lent (tables_of m) ≡ b → compiled text ≡ fine m
        → ◌≡◌ {A = Judged Counts} (if b then fault 22 0 else fine (record { registers = length m.entries; fields = fields_in m.entries })) (fine counts)
        → RowsOf text (first_rows counts.registers counts.fields (if b then lent else over_all (tables_of m) lent))
    roomy m true q e h = absurd (cc)
    roomy m false q e h =
        let same : record { registers = length m.entries; fields = fields_in m.entries } ≡ counts = cc in
        record { map = m; accepted = e; rows = subst (λ (k : Counts). first_rows k.registers k.fields (over_all (tables_of m) lent) ≡ tables_of m) same (first_rows_lem m lent) }

    by : (c : Judged Map) → compiled text ≡ c → answered lent c ≡ fine counts → RowsOf text (first_rows counts.registers counts.fields (lent_after lent c))
    by (fault n p) e h = absurd (cc)
    by (fine m) e h = roomy m (is_short lent (tables_of m)) refl e h

-- whatever `compile` has accepted and written keeps the third demand
pub compiled_demand_3 : (text : List ℕ) (lent : Tables) (counts : Counts) → answered lent (compiled text) ≡ fine counts
    → Demand3 (first_rows counts.registers counts.fields (lent_after lent (compiled text)))
compiled_demand_3 text lent counts h =
    let w : RowsOf text (first_rows counts.registers counts.fields (lent_after lent (compiled text))) = compiled_rows text lent counts h in
    rw w.rows (accepted_demand_3 text w.map w.accepted)
