-- Laws of the four tables: what is left to write behind the rows of some registers comes to the tables of all.
use mathlib.Core.Bool.{Bool, true, false, ◌||◌}
use mathlib.Core.Path.{◌≡◌, refl, sym, ap, ◌∙◌}
use mathlib.Core.List.{List, [], ◌∷◌, ◌++◌}
use Prim.Native.Nat.{ℕ, suc, ◌+◌, ◌-◌, ◌*◌, ◌<◌, ◌≤◌}
use native.Mathlib.Omega.{arith}
use lib.Dec.{ltb}
use lib.ListN.{length, drop, drop_of_length-le}
use lib.Seq.{drop-cons}
use borrow.Author.Tests.{ltb-false}
use Rattle.register_log.specs.Log.{log_width, head_row}
use Rattle.std.specs.Prelude.{if◌then◌else◌, Option, Some, None}
use Rattle.chars.proofs.Laws.{or_right}
use Rattle.parts.specs.declared.Name.{Name}
use Rattle.basics.specs.Judged.{first_of, Accepted}
use Rattle.fields.specs.declared.BitPlace.{BitPlace}
use Rattle.components.proofs.Laws.{first_sound, pass_test, pass_on}
use Rattle.basics.specs.Slices.{cell_of, written}
use Rattle.cells.specs.Cells.{component_in}
use Rattle.cells.specs.Definitions.{Child, Definition, definition_of}
use Rattle.cells.proofs.Laws.{written-length}
use Rattle.closing_rules.specs.Registers.{placement, bit_above, first_bit}
use Rattle.basics.specs.Limits.{nest_limit, register_limit, field_limit, definition_limit, register_row_width, field_row_width, name_width, path_row_width}
use Rattle.rows.specs.Rows.{Field, Entry, name_cell, indices, name_cells, register_cells, path_cells, field_run, label_run, register_table, path_table, field_table, label_table}
use Rattle.sizes.specs.declared.Extent.{Extent}
use Rattle.sizes.specs.Ready.{known, Ready}
use Rattle.sizes.specs.Shapes.{all_shapes}
use Rattle.sizes.proofs.Laws.{ready_is_row}
use Rattle.map_rules.specs.Visits.{Visit}
use Rattle.map_rules.specs.Whole.{is_register_visit, too_many, too_close, misplaced, registers_among}
use Rattle.map_walk.specs.Walks.{LogRow, no_visit, visit_at, elements_of, registers_of}
use Rattle.overlaps.specs.Charted.{Charted}
use Rattle.basics.specs.All.{All}
use Rattle.basics.proofs.All.{all_at, all_map}
use Rattle.overlaps.proofs.Visits.{StepFits, step_fits, RegisterSeen, registers_seen}
use Rattle.overlaps.proofs.Plots.{logged_address, logged_row, logged_depth}
use Rattle.row_writer.specs.Entries.{bytes_in, with_field, row_fields, entry_of, entries_of}
use Rattle.row_writer.specs.Writes.{names_in, numbers_in, RunWrites, fields_in, entries_in}
use Rattle.rows.proofs.Padded.{length-padded}
use Rattle.row_writer.proofs.Cells.{written-append, one_more}
use Rattle.row_writer.proofs.Runs.{fields_length, labels_length, run_fields_lem, run_labels}
use Rattle.row_writer.proofs.Paths.{log_names, log_numbers}
use Rattle.fields.specs.declared.FieldAt.{FieldAt}

-- a run of cells, and what is left behind it
pub written_on : (t : List ℕ) (i : ℕ) (xs ys : List ℕ) {j n : ℕ} {u : List ℕ} → u ≡ written t i xs → length xs ≡ n → j ≡ i + n → written u j ys ≡ written t i (xs ++ ys)
written_on t i xs ys {j} {n} {u} e l k =
    let m : j ≡ i + length xs = omega (arith, l, k) in
    ap (λ (s : List ℕ). written s j ys) e ∙ ap (λ (n : ℕ). written (written t i xs) n ys) m ∙ sym (written-append t i xs ys)

-- fields of instances: at most as many
with_count : (name : List ℕ) (p : Option FieldAt) (fs : List Field) → length (with_field name p fs) ≤ suc (length fs)
with_count name (Some f) fs = omega arith
with_count name None fs = omega arith

pub fields_few : (text : List ℕ) (table : List Definition) (next : BitPlace) (cs : List Child) → length (row_fields text table next cs) ≤ length cs
unfolding row_fields
fields_few text table next [] = omega arith
fields_few text table next (c ∷ cs) =
    let p : Option FieldAt = placement (definition_of table c.type).component next c.instance in
    omega (arith, with_count (bytes_in text c.instance.name) p (row_fields text table (bit_above p next) cs), fields_few text table (bit_above p next) cs)

-- the instances of the definitions of some registers
unfoldable pub held_by : List Definition → List Visit → ℕ
held_by table [] = 0
held_by table (v ∷ vs) = length (definition_of table v.type).instances + held_by table vs

held_add : (table : List Definition) (v : Visit) (vs : List Visit) (b : Bool) (fields : ℕ)
    → (if b then fields + length (definition_of table v.type).instances else fields) + held_by table vs ≡ fields + held_by table (if b then v ∷ vs else vs)
unfolding held_by
held_add table v vs true fields = omega arith
held_add table v vs false fields = refl

-- "4,096 fields"
pub few_held : (table : List Definition) (registers fields : ℕ) (vs : List Visit) → too_many table registers fields vs ≡ Accepted → fields ≤ field_limit → fields + held_by table (registers_among table vs) ≤ field_limit
unfolding too_many registers_among held_by
few_held table registers fields [] f h = omega arith
few_held table registers fields (v ∷ vs) f h =
    let q : Bool = is_register_visit table v in
    let r : ℕ = if q then suc registers else registers in
    let k : ℕ = if q then fields + length (definition_of table v.type).instances else fields in
    let b : Bool = ltb nest_limit (length v.path) || (ltb register_limit r || ltb field_limit k) in
    let p : ℕ = v.name.start in
    let d : ltb field_limit k ≡ false =
    or_right (ltb register_limit r) (ltb field_limit k) (or_right (ltb nest_limit (length v.path)) (ltb register_limit r || ltb field_limit k) (pass_test 18 p (too_many table r k vs) b f)) in
    let rest : k + held_by table (registers_among table vs) ≤ field_limit = few_held table r k vs (pass_on 18 p (too_many table r k vs) b f) (ltb-false field_limit k d) in
    omega (arith, rest, held_add table v (registers_among table vs) q fields)

-- the registers that are left
abbrev pub left_of : List ℕ → List ℕ → Extent → ℕ → ℕ → List Visit
left_of text t e row i = drop i (registers_of text t e row)

abbrev pub rows_left : List ℕ → List ℕ → Extent → ℕ → ℕ → List Entry
rows_left text t e row i = entries_of text (known text t e) (left_of text t e row i)

pub record Writing (text t s log : List ℕ) (e : Extent) (row count : ℕ) (title : Name) (r₀ r p₀ p f₀ f l₀ l : List ℕ) (i first : ℕ) : Type 0 where
  pub charted : Charted text t s log e row
  pub whole : count ≡ length (registers_of text t e row)
  pub few : first + held_by (known text t e) (left_of text t e row i) ≤ field_limit
  pub registers : written r (i * register_row_width) (register_table first (rows_left text t e row i)) ≡ written r₀ 0 (register_table 0 (entries_in text t e row))
  pub paths : written p (i * path_row_width) (path_table (bytes_in text title) (rows_left text t e row i)) ≡ written p₀ 0 (path_table (bytes_in text title) (entries_in text t e row))
  pub fields : written f (first * field_row_width) (field_table (rows_left text t e row i)) ≡ written f₀ 0 (field_table (entries_in text t e row))
  pub labels : written l (first * name_width) (label_table (rows_left text t e row i)) ≡ written l₀ 0 (label_table (entries_in text t e row))
  pub as_registers : length r ≡ length r₀
  pub as_paths : length p ≡ length p₀
  pub as_fields : length f ≡ length f₀
  pub as_labels : length l ≡ length l₀

pub writing_start : (text t s log : List ℕ) (e : Extent) (row count : ℕ) (title : Name) (r p f l : List ℕ) → Charted text t s log e row → count ≡ length (registers_of text t e row)
    → Writing text t s log e row count title r r p p f f l l 0 0
writing_start text t s log e row count title r p f l c n =
    let table : List Definition = known text t e in
    let vs : List Visit = elements_of text t e row in
    let a : too_many table 0 0 vs ≡ Accepted = first_sound (too_many table 0 0 vs) (first_of (too_close vs) (misplaced table (all_shapes text t e) vs)) c.sound in
    record {
      charted = c;
      whole = n;
      few = few_held table 0 0 vs a (omega arith);
      registers = refl;
      paths = refl;
      fields = refl;
      labels = refl;
      as_registers = refl;
      as_paths = refl;
      as_fields = refl;
      as_labels = refl;
    }

-- the tables of a register and others
module _ (x : Entry) (xs : List Entry) where
  registers_more : (first : ℕ) → register_table first (x ∷ xs) ≡ register_cells first x ++ register_table (first + length x.fields) xs
  unfolding register_table
  registers_more first = refl

  paths_more : (name : List ℕ) → path_table name (x ∷ xs) ≡ path_cells name x ++ path_table name xs
  unfolding path_table
  paths_more name = refl

  fields_more : field_table (x ∷ xs) ≡ field_run x.fields ++ field_table xs
  unfolding field_table
  fields_more = refl

  labels_more : label_table (x ∷ xs) ≡ label_run x.fields ++ label_table xs
  unfolding label_table
  labels_more = refl

  register_length : (first : ℕ) → length (register_cells first x) ≡ register_row_width
  unfolding register_cells
  register_length first = omega (arith, length-padded 8 (indices x.path))

  path_length : (name : List ℕ) → length (path_cells name x) ≡ path_row_width
  unfolding path_cells
  path_length name = length-padded path_row_width (name_cell name ++ name_cells x.path)

module _ (t : List ℕ) (i : ℕ) where
  registers_none : (first : ℕ) → written t i (register_table first []) ≡ t
  unfolding register_table written
  registers_none first = refl

  paths_none : (name : List ℕ) → written t i (path_table name []) ≡ t
  unfolding path_table written
  paths_none name = refl

  fields_none : written t i (field_table []) ≡ t
  unfolding field_table written
  fields_none = refl

  labels_none : written t i (label_table []) ≡ t
  unfolding label_table written
  labels_none = refl

module _ (text : List ℕ) (table : List Definition) where
  entries_more : (v : Visit) (vs : List Visit) → entries_of text table (v ∷ vs) ≡ entry_of text table v ∷ entries_of text table vs
  unfolding entries_of
  entries_more v vs = refl

  entries_none : entries_of text table [] ≡ []
  unfolding entries_of
  entries_none = refl

  held_more : (v : Visit) (vs : List Visit) → held_by table (v ∷ vs) ≡ length (definition_of table v.type).instances + held_by table vs
  unfolding held_by
  held_more v vs = refl

module _ (text t s log : List ℕ) (e : Extent) (row count : ℕ) (title : Name) {r₀ r p₀ p f₀ f l₀ l : List ℕ} {i first : ℕ} (w : Writing text t s log e row count title r₀ r p₀ p f₀ f l₀ l i first) where
  pub writing_first : first ≤ field_limit
  writing_first = omega (arith, w.few)

  module _ (h : count ≤ i) where
    all_done : rows_left text t e row i ≡ []
    all_done = ap (entries_of text (known text t e)) (drop_of_length-le (registers_of text t e row) {i = i} (omega (arith, h, w.whole))) ∙ entries_none text (known text t e)

    pub end_registers : r ≡ written r₀ 0 (register_table 0 (entries_in text t e row))
    end_registers = sym (registers_none r (i * register_row_width) first) ∙ ap (λ (es : List Entry). written r (i * register_row_width) (register_table first es)) (sym all_done) ∙ w.registers

    pub end_paths : {name : Name} → title ≡ name → p ≡ written p₀ 0 (path_table (bytes_in text name) (entries_in text t e row))
    end_paths n =
        sym (paths_none p (i * path_row_width) (bytes_in text title)) ∙ ap (λ (es : List Entry). written p (i * path_row_width) (path_table (bytes_in text title) es)) (sym all_done) ∙ w.paths
        ∙ ap (λ (m : Name). written p₀ 0 (path_table (bytes_in text m) (entries_in text t e row))) n

    pub end_fields : f ≡ written f₀ 0 (field_table (entries_in text t e row))
    end_fields = sym (fields_none f (first * field_row_width)) ∙ ap (λ (es : List Entry). written f (first * field_row_width) (field_table es)) (sym all_done) ∙ w.fields

    pub end_labels : l ≡ written l₀ 0 (label_table (entries_in text t e row))
    end_labels = sym (labels_none l (first * name_width)) ∙ ap (λ (es : List Entry). written l (first * name_width) (label_table es)) (sym all_done) ∙ w.labels

  module _ (h : i < count) where
    below : i < length (registers_of text t e row)
    below = omega (arith, h, w.whole)

    pub writing_low : i ≤ register_limit
    writing_low = omega (arith, below, w.charted.few)

    seen : RegisterSeen text t e (visit_at (registers_of text t e row) i)
    seen = all_at no_visit i (registers_seen text t e row w.charted.shaped.ready w.charted.low w.charted.sound) below

    own_row : LogRow log i (visit_at (registers_of text t e row) i)
    own_row = w.charted.logs.each i below

    writing_ready : Ready text t e
    writing_ready = w.charted.shaped.ready

    own_steps : All StepFits (visit_at (registers_of text t e row) i).path
    own_steps = all_map step_fits seen.seen.steps

    module _ {head k : ℕ} (o : head ≡ cell_of log (i * log_width)) (m : (k ≡ head_row head) × (k < definition_limit)) where
      same_type : k ≡ (visit_at (registers_of text t e row) i).type
      same_type = m.0 ∙ ap head_row o ∙ logged_row text t s log e row w.charted i below

      pub writing_row : k < e.rows
      writing_row = omega (arith, same_type, seen.seen.low)

      pub writing_back : {f1 l1 : List ℕ} {next : ℕ} → RunWrites f f1 l l1 first (fields_in text t e k) next → first ≤ next
      writing_back a = omega (arith, a.next)

      pub writing_next : {r1 p1 f1 l1 : List ℕ} {next : ℕ} → p1 ≡ written p (i * path_row_width) (name_cell (bytes_in text title) ++ names_in text log (i * log_width + 1) nest_limit)
          → RunWrites f f1 l l1 first (fields_in text t e k) next → r1 ≡ written r (i * register_row_width) (numbers_in t log i first (next - first))
          → Writing text t s log e row count title r₀ r1 p₀ p1 f₀ f1 l₀ l1 (i + 1) next
      writing_next {r1} {p1} {f1} {l1} {next} a b c =
          let table : List Definition = known text t e in
          let v : Visit = visit_at (registers_of text t e row) i in
          let x : Entry = entry_of text table v in
          let name : List ℕ = bytes_in text title in
          let others : List Entry = rows_left text t e row (i + 1) in
          let fs : List Field = fields_in text t e k in
          let same : fs ≡ x.fields = ap (fields_in text t e) same_type in
          let count : next ≡ first + length x.fields = b.next ∙ ap (λ (gs : List Field). first + length gs) same in
          let number : next - first ≡ length x.fields = omega (arith, count) in
          let left : left_of text t e row i ≡ v ∷ left_of text t e row (i + 1) =
          drop-cons (registers_of text t e row) i no_visit below ∙ ap (λ (n : ℕ). v ∷ drop n (registers_of text t e row)) (sym (one_more i)) in
          let rows : rows_left text t e row i ≡ x ∷ others = ap (entries_of text table) left ∙ entries_more text table v (left_of text t e row (i + 1)) in
          let own : component_in t v.type ≡ (definition_of table v.type).component = (ready_is_row text t e v.type writing_ready seen.seen.low).component in
          let cells : r1 ≡ written r (i * register_row_width) (register_cells first x) = c ∙ ap (written r (i * register_row_width)) (log_numbers text log i v own_row own_steps t table first
          (logged_address text t s log e row w.charted i below) (logged_row text t s log e row w.charted i below) (logged_depth text t s log e row w.charted i below) own number) in
          let bytes : p1 ≡ written p (i * path_row_width) (path_cells name x) = a ∙ ap (written p (i * path_row_width)) (log_names text log i v own_row own_steps table name) in
          record {
            charted = w.charted;
            whole = w.whole;
            few =
                let z : held_by table (left_of text t e row i) ≡ length (definition_of table v.type).instances + held_by table (left_of text t e row (i + 1)) =
                ap (held_by table) left ∙ held_more text table v (left_of text t e row (i + 1)) in
                omega (arith, z, count, w.few, fields_few text table first_bit (definition_of table v.type).instances);
            registers =
                written_on r (i * register_row_width) (register_cells first x) (register_table next others) cells (register_length x others first) (omega arith)
                ∙ ap (λ (n : ℕ). written r (i * register_row_width) (register_cells first x ++ register_table n others)) count
                ∙ ap (λ (es : List ℕ). written r (i * register_row_width) es) (sym (ap (register_table first) rows ∙ registers_more x others first)) ∙ w.registers;
            paths =
                written_on p (i * path_row_width) (path_cells name x) (path_table name others) bytes (path_length x others name) (omega arith)
                ∙ ap (written p (i * path_row_width)) (sym (ap (path_table name) rows ∙ paths_more x others name)) ∙ w.paths;
            fields =
                written_on f (first * field_row_width) (field_run fs) (field_table others) b.rows (fields_length fs) (omega (arith, b.next))
                ∙ ap (λ (gs : List Field). written f (first * field_row_width) (field_run gs ++ field_table others)) same
                ∙ ap (written f (first * field_row_width)) (sym (ap field_table rows ∙ fields_more x others)) ∙ w.fields;
            labels =
                written_on l (first * name_width) (label_run fs) (label_table others) b.names (labels_length fs) (omega (arith, b.next))
                ∙ ap (λ (gs : List Field). written l (first * name_width) (label_run gs ++ label_table others)) same
                ∙ ap (written l (first * name_width)) (sym (ap label_table rows ∙ labels_more x others)) ∙ w.labels;
            as_registers = ap length c ∙ written-length r (i * register_row_width) (numbers_in t log i first (next - first)) ∙ w.as_registers;
            as_paths = ap length a ∙ written-length p (i * path_row_width) (name_cell name ++ names_in text log (i * log_width + 1) nest_limit) ∙ w.as_paths;
            as_fields = run_fields_lem b ∙ w.as_fields;
            as_labels = run_labels b ∙ w.as_labels;
          }
