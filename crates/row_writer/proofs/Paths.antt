-- Laws of the log: the cells of a register's path give its row's indices and names.
use mathlib.Core.Path.{◌≡◌, refl, sym, ap, ◌∙◌}
use mathlib.Core.List.{List, [], ◌∷◌, ◌++◌}
use Prim.Native.Nat.{ℕ, zero, suc, ◌+◌, ◌*◌, ◌<◌}
use native.Mathlib.Omega.{arith}
use lib.ListN.{length}
use Rattle.identifiers.specs.Names.{bytes_of}
use Rattle.basics.specs.Limits.{nest_limit}
use Rattle.basics.specs.Slices.{cell_of}
use Rattle.cells.specs.Cells.{component_in}
use Rattle.cells.specs.Definitions.{Definition, definition_of}
use Rattle.rows.specs.Rows.{padded, index_code, indices, name_cell, name_cells, register_cells, path_cells}
use Rattle.map_rules.specs.Visits.{PathStep, Visit}
use Rattle.register_log.specs.Log.{log_width, head_address, head_row, head_depth, step_start, step_end, step_index}
use Rattle.register_log.proofs.Laws.{step_start_lem, step_end_lem, step_index_lem, no_step_lem}
use Rattle.map_walk.specs.Runs.{step_number, step_numbers}
use Rattle.map_walk.specs.Walks.{LogRow}
use Rattle.basics.specs.All.{All, all_none, all_more}
use Rattle.overlaps.proofs.Visits.{StepFits, padded_cell}
use Rattle.row_writer.specs.Entries.{bytes_in, steps_of, entry_of}
use Rattle.row_writer.specs.Writes.{names_in, indices_in, numbers_in}
use Rattle.rows.proofs.Padded.{length-padded}
use Rattle.row_laws.proofs.Cells.{padded-append, padded_none}

-- a name's cells, and what stands behind them
padded_name : (name : List ℕ) (m : ℕ) (ys : List ℕ) {n : ℕ} → n ≡ 32 + m → padded n (name_cell name ++ ys) ≡ name_cell name ++ padded m ys
padded_name name m ys {n} e =
    let z : n ≡ length (name_cell name) + m = omega (arith, e, length-padded 32 name) in
    ap (λ (k : ℕ). padded k (name_cell name ++ ys)) z ∙ padded-append (name_cell name) ys m

-- the numbers of `n` steps from an index on are those of a path
record StepsLogged (log : List ℕ) (at n : ℕ) (path : List PathStep) : Type 0 where
  each : (k : ℕ) → k < n → cell_of log (at + k) ≡ cell_of (step_numbers path) k

module _ {log : List ℕ} {at n : ℕ} where
  steps_first : {path : List PathStep} → StepsLogged log at (suc n) path → cell_of log at ≡ cell_of (step_numbers path) 0
  steps_first s = let z : at ≡ at + 0 = omega arith in ap (cell_of log) z ∙ s.each 0 (omega arith)

  steps_none : StepsLogged log at (suc n) [] → StepsLogged log (at + 1) n []
  steps_none s =
      record {
        each = λ k h.
            let z : at + 1 + k ≡ at + suc k = omega arith in
            ap (cell_of log) z ∙ s.each (suc k) (omega (arith, h));
      }

  steps_rest : {step : PathStep} {path : List PathStep} → StepsLogged log at (suc n) (step ∷ path) → StepsLogged log (at + 1) n path
  steps_rest {step} {path} s =
      record {
        each = λ k h.
            let z : at + 1 + k ≡ at + suc k = omega arith in
            ap (cell_of log) z ∙ s.each (suc k) (omega (arith, h));
      }

-- what a step's number holds
module _ (s : PathStep) (f : StepFits s) where
  own_index : step_index (step_number s) ≡ index_code s.index
  own_index = step_index_lem s.name.start s.name.end (index_code s.index) f.index

  own_bytes : (text : List ℕ) → bytes_of text (step_start (step_number s)) (step_end (step_number s)) ≡ bytes_in text s.name
  own_bytes text =
      ap (λ (n : ℕ). bytes_of text n (step_end (step_number s))) (step_start_lem s.name.start s.name.end (index_code s.index) f.start)
      ∙ ap (bytes_of text s.name.start) (step_end_lem s.name.start s.name.end (index_code s.index) f.end)

no_bytes : (text : List ℕ) → bytes_of text (step_start 0) (step_end 0) ≡ []
unfolding bytes_of
no_bytes text = rw (no_step_lem.0, no_step_lem.1)

steps_length : (text : List ℕ) (path : List PathStep) → length (steps_of text path) ≡ length path
unfolding steps_of
steps_length text [] = refl
steps_length text (s ∷ path) = ap suc (steps_length text path)

steps_indices : (text log : List ℕ) (at n : ℕ) {path : List PathStep} → All StepFits path → StepsLogged log at n path → indices_in log at n ≡ padded n (indices (steps_of text path))
unfolding steps_of indices indices_in padded
steps_indices text log at zero f s = refl
steps_indices text log at (suc n) all_none s =
    ap (λ (x : ℕ). step_index x ∷ indices_in log (at + 1) n) (steps_first s) ∙ ap (λ (x : ℕ). x ∷ indices_in log (at + 1) n) no_step_lem.2
    ∙ ap (λ (xs : List ℕ). 0 ∷ xs) (steps_indices text log (at + 1) n all_none (steps_none s))
steps_indices text log at (suc n) (all_more {x = step} {xs = path} f fs) s =
    ap (λ (x : ℕ). step_index x ∷ indices_in log (at + 1) n) (steps_first s) ∙ ap (λ (x : ℕ). x ∷ indices_in log (at + 1) n) (own_index step f)
    ∙ ap (λ (xs : List ℕ). index_code step.index ∷ xs) (steps_indices text log (at + 1) n fs (steps_rest s))

no_cells : (xs : List ℕ) → [] ≡ padded 0 xs
unfolding padded
no_cells xs = refl

abbrev bytes_at : List ℕ → ℕ → List ℕ
bytes_at text x = bytes_of text (step_start x) (step_end x)

steps_names : (text log : List ℕ) (at n : ℕ) {path : List PathStep} → All StepFits path → StepsLogged log at n path → names_in text log at n ≡ padded (32 * n) (name_cells (steps_of text path))
unfolding steps_of name_cells names_in
steps_names text log at zero {path} f s = no_cells (name_cells (steps_of text path))
steps_names text log at (suc n) all_none s =
    let m : 32 * suc n ≡ 32 + 32 * n = omega arith in
    ap (λ (x : List ℕ). name_cell x ++ names_in text log (at + 1) n) (ap (bytes_at text) (steps_first s) ∙ no_bytes text)
    ∙ ap (λ (xs : List ℕ). name_cell [] ++ xs) (steps_names text log (at + 1) n all_none (steps_none s))
    ∙ sym (ap (λ (k : ℕ). padded k []) m ∙ padded_none 32 (32 * n))
steps_names text log at (suc n) (all_more {x = step} {xs = path} f fs) s =
    let m : 32 * suc n ≡ 32 + 32 * n = omega arith in
    let name : List ℕ = bytes_in text step.name in
    let others : List ℕ = name_cells (steps_of text path) in
    ap (λ (x : List ℕ). name_cell x ++ names_in text log (at + 1) n) (ap (bytes_at text) (steps_first s) ∙ own_bytes step f text)
    ∙ ap (λ (xs : List ℕ). name_cell name ++ xs) (steps_names text log (at + 1) n fs (steps_rest s))
    ∙ sym (padded_name name (32 * n) others m)

-- a register's rows, from the log
module _ (text log : List ℕ) (i : ℕ) (v : Visit) (r : LogRow log i v) (f : All StepFits v.path) where
  log_steps : StepsLogged log (i * log_width + 1) nest_limit v.path
  log_steps = record { each = λ k h. r.steps k h ∙ padded_cell nest_limit (step_numbers v.path) k h }

  pub log_names : (table : List Definition) (title : List ℕ) → name_cell title ++ names_in text log (i * log_width + 1) nest_limit ≡ path_cells title (entry_of text table v)
  unfolding path_cells
  log_names table title = ap (λ (xs : List ℕ). name_cell title ++ xs) (steps_names text log (i * log_width + 1) nest_limit f log_steps) ∙ sym (padded_name title 256 (name_cells (steps_of text v.path)) (omega arith))

  pub log_numbers : (t : List ℕ) (table : List Definition) (first : ℕ) {count : ℕ} → head_address (cell_of log (i * log_width)) ≡ v.address.0 → head_row (cell_of log (i * log_width)) ≡ v.type
      → head_depth (cell_of log (i * log_width)) ≡ length v.path → component_in t v.type ≡ (definition_of table v.type).component → count ≡ length (entry_of text table v).fields
      → numbers_in t log i first count ≡ register_cells first (entry_of text table v)
  unfolding numbers_in register_cells
  log_numbers t table first a b d c n = rw (a, b, d, c, n, steps_length text v.path, steps_indices text log (i * log_width + 1) nest_limit f log_steps)
