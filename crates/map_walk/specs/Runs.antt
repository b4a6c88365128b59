-- One run over a map's elements, as the code makes it: 18 ends it, the first 19 and the first 20 are kept, and registers are logged.
use Rattle.std.specs.Prelude.{Bool, ◌||◌, List, [], ◌∷◌, map, ℕ, suc, ◌+◌, ◌*◌, ltb, length, Result, Ok, Err}
use Rattle.std.specs.Prelude.{if◌then◌else◌}
use Rattle.basics.specs.declared.Refusal.{Refusal}
use Rattle.basics.specs.Judged.{first_of, Judged, fine, fault, unless, Verdict, Accepted, rule_number, verdict}
use Rattle.basics.specs.Slices.{written}
use Rattle.cells.specs.Definitions.{Definition, definition_of}
use Rattle.register_log.specs.Log.{log_width, head_of, step_of}
use Rattle.capped.specs.Offsets.{cut}
use Rattle.layout.specs.declared.Shape.{Shape}
use Rattle.basics.specs.Limits.{nest_limit, register_limit, field_limit}
use Rattle.map_rules.specs.Visits.{PathStep, Visit}
use Rattle.map_rules.specs.Whole.{is_register_visit, too_close, misplaced}
use Rattle.rows.specs.Rows.{padded, index_code}
use Rattle.map_walk.specs.declared.Tally.{Tally}

-- how many registers and fields there are, and the first faults by 19 and 20
pub record Total : Type 0 where
  pub registers : ℕ
  pub fields : ℕ
  pub close : Verdict
  pub misplaced : Verdict

-- what the counts of the code say, and its answers
abbrev pub total_of : Tally → Total
total_of t = record { registers = t.registers; fields = t.fields; close = verdict t.close; misplaced = verdict t.misplaced }

abbrev pub walked : Result Tally Refusal → Judged Total
walked (Ok t) = fine (total_of t)
walked (Err r) = fault (rule_number r.rule) r.at

-- nothing counted yet, and no fault
abbrev pub nothing_tallied : Total
nothing_tallied = record { registers = 0; fields = 0; close = Accepted; misplaced = Accepted }

-- the counts with an element
abbrev pub registers_with : List Definition → Total → Visit → ℕ
registers_with table t v = if is_register_visit table v then suc t.registers else t.registers

abbrev pub fields_with : List Definition → Total → Visit → ℕ
fields_with table t v = if is_register_visit table v then t.fields + length (definition_of table v.type).instances else t.fields

-- 18: whether an element is too deep, or one register too many, or has fields too many
unfoldable pub is_too_many : List Definition → Total → Visit → Bool
is_too_many table t v = ltb nest_limit (length v.path) || (ltb register_limit (registers_with table t v) || ltb field_limit (fields_with table t v))

-- the counts and the first faults by 19 and 20 with an element
unfoldable pub tallied : List Definition → List Shape → Total → Visit → Total
tallied table shapes t v =
    record {
      registers = registers_with table t v;
      fields = fields_with table t v;
      close = first_of t.close (too_close (v ∷ []));
      misplaced = first_of t.misplaced (misplaced table shapes (v ∷ []));
    }

-- a run over elements: 18 at the first that is too many, or the counts and faults of all
unfoldable pub run : List Definition → List Shape → Total → List Visit → Judged Total
run table shapes t [] = fine t
run table shapes t (v ∷ vs) = unless (is_too_many table t v) 18 v.name.start (run table shapes (tallied table shapes t v) vs)

-- a step in the log, and the steps of a path
abbrev pub step_number : PathStep → ℕ
step_number s = step_of s.name.start s.name.end (index_code s.index)

abbrev pub step_numbers : List PathStep → List ℕ
step_numbers path = map step_number path

-- a register in the log: its head, with its address cut at the cap, its type and the length of its path; and its path, at most 8 steps
unfoldable pub log_row : Visit → List ℕ
log_row v = head_of (cut v.address.0) v.type (length v.path) ∷ padded nest_limit (step_numbers v.path)

-- the log with an element: a register is written into the row of its number
abbrev pub logged_one : List Definition → List ℕ → Total → Visit → List ℕ
logged_one table log t v = if is_register_visit table v then written log (t.registers * log_width) (log_row v) else log

-- the log after a run: the registers of these elements, one a row, up to the element that is too many; 19 and 20 don't end a run
unfoldable pub logged : List Definition → List Shape → List ℕ → Total → List Visit → List ℕ
logged table shapes log t [] = log
logged table shapes log t (v ∷ vs) =
    if is_too_many table t v then log else
    logged table shapes (logged_one table log t v) (tallied table shapes t v) vs
