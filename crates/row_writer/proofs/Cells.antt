-- Laws of what is written: one run of cells behind another, and for a loop what is left to write, which comes to `x` from every index
-- that it passes.
use mathlib.Core.Path.{◌≡◌, refl, sym, ap, ◌∙◌}
use mathlib.Core.List.{List, [], ◌∷◌, ◌++◌}
use Prim.Native.Nat.{ℕ, zero, suc, ◌+◌, ◌-◌, ◌*◌, ◌<◌, ◌≤◌}
use native.Mathlib.Omega.{arith}
use lib.ListN.{length, get_or, drop, set}
use Rattle.identifiers.specs.Names.{bytes_of}
use Rattle.register_log.specs.Log.{log_width, depth_bound, place_bound, head_address, head_row, head_depth, step_start, step_end, step_index}
use Rattle.basics.specs.Limits.{nest_limit, definition_limit, register_row_width, name_width}
use Rattle.basics.specs.Slices.{cell_of, written}
use Rattle.cells.specs.Cells.{component_in}
use Rattle.fields.specs.declared.Register.{Register}
use Rattle.components.specs.declared.Component.{Component}
use Rattle.rows.proofs.Padded.{length-padded}
use Rattle.rows.specs.Rows.{padded, name_cell}
use Rattle.row_writer.specs.Entries.{widths_of}
use Rattle.row_writer.specs.Writes.{names_in, indices_in, numbers_in}

-- a run of cells behind another
pub written-append : (t : List ℕ) (i : ℕ) (xs ys : List ℕ) → written t i (xs ++ ys) ≡ written (written t i xs) (i + length xs) ys
unfolding written
written-append t i [] ys = let n : i + 0 ≡ i = omega arith in rw n
written-append t i (x ∷ xs) ys =
    let n : i + suc (length xs) ≡ i + 1 + length xs = omega arith in
    rw n (written-append (set t i x) (i + 1) xs ys)

-- the first of those from the k-th on
pub padded_next : (n k : ℕ) (xs : List ℕ) → padded (suc n) (drop k xs) ≡ get_or xs k 0 ∷ padded n (drop (suc k) xs)
unfolding padded
padded_next n zero [] = refl
padded_next n zero (x ∷ xs) = refl
padded_next n (suc k) [] = refl
padded_next n (suc k) (x ∷ xs) = padded_next n k xs

-- the numbers of a loop's start, step and end
module _ (n : ℕ) where
  at_start_lem : n + 0 ≡ n
  at_start_lem = omega arith

  pub one_more : n + 1 ≡ suc n
  one_more = omega arith

module _ (count k : ℕ) where
  left_more : k < count → count - k ≡ suc (count - (k + 1))
  left_more h = omega arith

  left_none : count ≤ k → count - k ≡ 0
  left_none h = omega arith

-- a name's bytes
module _ (at : ℕ) (name : List ℕ) where
  pub bytes_start : (t : List ℕ) → written t (at + 0) (padded (32 - 0) (drop 0 name)) ≡ written t at (name_cell name)
  bytes_start t = rw (at_start_lem at)

  module _ (t : List ℕ) (k : ℕ) {x : List ℕ} (left : written t (at + k) (padded (32 - k) (drop k name)) ≡ x) where
    pub bytes_end : 32 ≤ k → t ≡ x
    unfolding written padded
    bytes_end h = rw (left_none 32 k h) at left

    pub bytes_next : {u : List ℕ} {b : ℕ} → k < 32 → b ≡ get_or name k 0 → u ≡ set t (at + k) b → written u (at + (k + 1)) (padded (32 - (k + 1)) (drop (k + 1) name)) ≡ x
    unfolding written
    bytes_next {u} {b} h e f =
        let n : at + (k + 1) ≡ at + k + 1 = omega arith in
        let p : u ≡ set t (at + k) (get_or name k 0) = f ∙ ap (set t (at + k)) e in
        let q : padded (32 - k) (drop k name) ≡ get_or name k 0 ∷ padded (32 - (k + 1)) (drop (k + 1) name) =
        ap (λ (n : ℕ). padded n (drop k name)) (left_more 32 k h) ∙ padded_next (32 - (k + 1)) k name ∙ ap (λ (n : ℕ). get_or name k 0 ∷ padded (32 - (k + 1)) (drop n name)) (sym (one_more k)) in
        ap (λ (s : List ℕ). written s (at + (k + 1)) (padded (32 - (k + 1)) (drop (k + 1) name))) p
        ∙ ap (λ (n : ℕ). written (set t (at + k) (get_or name k 0)) n (padded (32 - (k + 1)) (drop (k + 1) name))) n
        ∙ ap (written t (at + k)) (sym q) ∙ left

-- the names of a path of the log
module _ (text log : List ℕ) (steps at : ℕ) where
  pub steps_start : (t : List ℕ) → written t (at + 0 * 32) (names_in text log (steps + 0) (8 - 0)) ≡ written t at (names_in text log steps 8)
  steps_start t = rw (at_start_lem at, at_start_lem steps)

  module _ (t : List ℕ) (k : ℕ) {x : List ℕ} (left : written t (at + k * name_width) (names_in text log (steps + k) (8 - k)) ≡ x) where
    pub steps_end : 8 ≤ k → t ≡ x
    unfolding written names_in
    steps_end h = rw (left_none 8 k h) at left

    pub steps_next : {u name : List ℕ} {step a b : ℕ} → k < 8 → step ≡ cell_of log (steps + k) → (a ≡ step_start step) × (a < place_bound) → (b ≡ step_end step) × (b < place_bound) → name ≡ bytes_of text a b
        → u ≡ written t (at + k * name_width) (name_cell name) → written u (at + (k + 1) * 32) (names_in text log (steps + (k + 1)) (8 - (k + 1))) ≡ x
    unfolding names_in
    steps_next {u} {name} {step} {a} {b} h d e f g w =
        let others : List ℕ = names_in text log (steps + (k + 1)) (8 - (k + 1)) in
        let own : ℕ = cell_of log (steps + k) in
        let l : steps + k + 1 ≡ steps + (k + 1) = omega arith in
        let here : name ≡ bytes_of text (step_start own) (step_end own) =
        g ∙ ap (λ (n : ℕ). bytes_of text n b) e.0 ∙ ap (bytes_of text (step_start step)) f.0 ∙ ap (λ (n : ℕ). bytes_of text (step_start n) (step_end n)) d in
        let q : names_in text log (steps + k) (8 - k) ≡ name_cell name ++ others =
        ap (names_in text log (steps + k)) (left_more 8 k h) ∙ ap (λ (n : ℕ). name_cell (bytes_of text (step_start own) (step_end own)) ++ names_in text log n (8 - (k + 1))) l
        ∙ ap (λ (s : List ℕ). name_cell s ++ others) (sym here) in
        let n : at + k * name_width + length (name_cell name) ≡ at + (k + 1) * 32 = omega (arith, length-padded 32 name) in
        ap (λ (s : List ℕ). written s (at + (k + 1) * 32) others) w
        ∙ ap (λ (n : ℕ). written (written t (at + k * name_width) (name_cell name)) n others) (sym n)
        ∙ sym (written-append t (at + k * name_width) (name_cell name) others) ∙ ap (written t (at + k * name_width)) (sym q) ∙ left

-- the indices of a path of the log
module _ (log : List ℕ) (steps at : ℕ) where
  pub indices_start : (t : List ℕ) → written t (at + 0) (indices_in log (steps + 0) (8 - 0)) ≡ written t at (indices_in log steps 8)
  indices_start t = rw (at_start_lem at, at_start_lem steps)

  module _ (t : List ℕ) (k : ℕ) {x : List ℕ} (left : written t (at + k) (indices_in log (steps + k) (8 - k)) ≡ x) where
    pub indices_end : 8 ≤ k → t ≡ x
    unfolding written indices_in
    indices_end h = rw (left_none 8 k h) at left

    pub indices_next : {u : List ℕ} {step a : ℕ} → k < 8 → step ≡ cell_of log (steps + k) → a ≡ step_index step → u ≡ set t (at + k) a
        → written u (at + (k + 1)) (indices_in log (steps + (k + 1)) (8 - (k + 1))) ≡ x
    unfolding written indices_in
    indices_next {u} {step} {a} h d e w =
        let others : List ℕ = indices_in log (steps + (k + 1)) (8 - (k + 1)) in
        let l : steps + k + 1 ≡ steps + (k + 1) = omega arith in
        let n : at + (k + 1) ≡ at + k + 1 = omega arith in
        let q : indices_in log (steps + k) (8 - k) ≡ a ∷ others =
        ap (indices_in log (steps + k)) (left_more 8 k h) ∙ ap (λ (n : ℕ). step_index (cell_of log (steps + k)) ∷ indices_in log n (8 - (k + 1))) l
        ∙ ap (λ (n : ℕ). n ∷ others) (sym (e ∙ ap step_index d)) in
        ap (λ (s : List ℕ). written s (at + (k + 1)) others) w
        ∙ ap (λ (n : ℕ). written (set t (at + k) a) n others) n
        ∙ ap (written t (at + k)) (sym q) ∙ left

-- a path's row
pub path_put : (t : List ℕ) (at : ℕ) (name others : List ℕ) {label u v : List ℕ} → label ≡ name → u ≡ written t at (name_cell label) → v ≡ written u (at + 32) others
    → v ≡ written t at (name_cell name ++ others)
path_put t at name others d e f =
    let n : at + length (name_cell name) ≡ at + 32 = omega (arith, length-padded 32 name) in
    f ∙ ap (λ (s : List ℕ). written s (at + 32) others) (e ∙ ap (λ (x : List ℕ). written t at (name_cell x)) d)
    ∙ ap (λ (n : ℕ). written (written t at (name_cell name)) n others) (sym n) ∙ sym (written-append t at (name_cell name) others)

-- a register's row, cell by cell
six_put : (t : List ℕ) (i : ℕ) (a b c d e f : ℕ) (xs : List ℕ) {t1 t2 t3 t4 t5 t6 t7 : List ℕ} → t1 ≡ set t i a → t2 ≡ set t1 (i + 1) b → t3 ≡ set t2 (i + 2) c → t4 ≡ set t3 (i + 3) d
    → t5 ≡ set t4 (i + 4) e → t6 ≡ set t5 (i + 5) f → t7 ≡ written t6 (i + 6) xs → t7 ≡ written t i (a ∷ b ∷ c ∷ d ∷ e ∷ f ∷ xs)
unfolding written
six_put t i a b c d e f xs e1 e2 e3 e4 e5 e6 e7 =
    let n2 : i + 1 + 1 ≡ i + 2 = omega arith in
    let n3 : i + 2 + 1 ≡ i + 3 = omega arith in
    let n4 : i + 3 + 1 ≡ i + 4 = omega arith in
    let n5 : i + 4 + 1 ≡ i + 5 = omega arith in
    let n6 : i + 5 + 1 ≡ i + 6 = omega arith in
    rw (n2, n3, n4, n5, n6, e7, e6, e5, e4, e3, e2, e1)

module _ (cells log : List ℕ) (i first count : ℕ) {head row a d : ℕ} {c : Component} {r : Register} (p : head ≡ cell_of log (i * log_width)) (o : (row ≡ head_row head) × (row < definition_limit))
    (q : c ≡ component_in cells row) (s : r ≡ widths_of c) (k : a ≡ head_address head) (m : (d ≡ head_depth head) × (d < depth_bound)) where
  numbers_of : a ∷ r.width ∷ r.access ∷ first ∷ count ∷ d ∷ indices_in log (i * log_width + 1) nest_limit ≡ numbers_in cells log i first count
  unfolding numbers_in
  numbers_of = rw (m.0, k, s, q, o.0, p)

  pub register_put : (t : List ℕ) {t1 t2 t3 t4 t5 t6 t7 : List ℕ} → t1 ≡ set t (i * register_row_width) a → t2 ≡ set t1 (i * register_row_width + 1) r.width → t3 ≡ set t2 (i * register_row_width + 2) r.access
      → t4 ≡ set t3 (i * register_row_width + 3) first → t5 ≡ set t4 (i * register_row_width + 4) count → t6 ≡ set t5 (i * register_row_width + 5) d
      → t7 ≡ written t6 (i * register_row_width + 6) (indices_in log (i * log_width + 1) nest_limit) → t7 ≡ written t (i * register_row_width) (numbers_in cells log i first count)
  register_put t e1 e2 e3 e4 e5 e6 e7 =
      six_put t (i * register_row_width) a r.width r.access first count d (indices_in log (i * log_width + 1) nest_limit) e1 e2 e3 e4 e5 e6 e7 ∙ ap (written t (i * register_row_width)) numbers_of
