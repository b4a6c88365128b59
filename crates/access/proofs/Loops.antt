-- Laws of the loops: what has been done so far, or what is left from here, comes to the whole.
use mathlib.Core.Bool.{Bool, true, false, not, ◌&&◌}
use mathlib.Core.Path.{◌≡◌, refl, sym, ap, ap₂, ◌∙◌}
use mathlib.Core.List.{List, [], ◌∷◌, ◌++◌}
use Prim.Native.Nat.{ℕ, zero, suc, ◌+◌, ◌-◌, ◌/◌, ◌<◌, ◌≤◌}
use native.Mathlib.Omega.{arith}
use lib.Bits.{bit_or}
use lib.ListN.{length, get_or, set, drop}
use lib.Seq.{drop-cons, set_at, append_snoc}
use Rattle.basics.specs.Limits.{field_limit, register_row_width, field_row_width, index_bound}
use Rattle.fields.specs.declared.FieldAt.{FieldAt}
use Rattle.fields.specs.declared.Offset.{Offset}
use Rattle.bits.specs.Bits.{bit, number}
use Rattle.rows.specs.Rows.{Tables, tables}
use Rattle.rows.specs.declared.RegisterRow.{RegisterRow}
use Rattle.rows.specs.Lawful.{register_row, field_row}
use Rattle.model.specs.declared.View.{View}
use Rattle.model.specs.declared.Access.{Access}
use Rattle.model.specs.Model.{size, number_after, stepped, field_gives, gives, bits_of, reaches_register}
use Rattle.model.specs.Repeats.{repeats, all_below, repeats_bit}
use Rattle.field_access.specs.Ranges.{ViewInRange}
use Rattle.field_access.proofs.Tests.{failed, passed}
use Rattle.access.specs.Runs.{LawfulRows, Runs, RangedFields, register_of, stored_field, run_fields, row_fields, stored_rows, reached_rows, is_fitting, fitting_rows, reset_in, resets_from}
use Rattle.access.proofs.Facts as facts
use Rattle.model.proofs.Joined.{length-stepped, stepped_join, word_join, repeats_join}
use Rattle.access.proofs.Joined.{rows_last, stepped_field, word_field, no_word}

-- the numbers of a loop's start, step and end
module _ (start k : ℕ) where
  next_at : start + (k + 1) ≡ suc (start + k)
  next_at = omega arith

module _ (count k : ℕ) where
  left_more : k < count → count - k ≡ suc (count - (k + 1))
  left_more h = omega arith

  rows_more : k < count → count - k ≡ suc (count - suc k)
  rows_more h = omega arith

  left_none : count ≤ k → count - k ≡ 0
  left_none h = omega arith

module _ (n : ℕ) where
  next_k : n + 1 ≡ suc n
  next_k = omega arith

  at_start_lem : n + 0 ≡ n
  at_start_lem = omega arith

  all_left : n - 0 ≡ n
  all_left = omega arith

-- ---- one register, and one field

-- the field at a field row, of which calls answer the parts
field_at : (row : RegisterRow) (fields : List ℕ) (j : ℕ) {f : FieldAt} {c : View} → f ≡ field_row fields j → c ≡ stored_field row f j → c ≡ stored_field row (field_row fields j) j
field_at row fields j e g = g ∙ ap (λ (o : FieldAt). stored_field row o j) e

-- what the functions of one register and of one field ask
pub field_usable : (w : ℕ) (row : RegisterRow) (fields : List ℕ) (k : ℕ) {f : FieldAt} {c : View} → Runs w fields row → k < row.count → f ≡ field_row fields (row.first + k)
    → c ≡ stored_field row f (row.first + k) → ViewInRange w c
field_usable w row fields k r h p q = rw (field_at row fields (row.first + k) p q) (r.usable k h)

abbrev rows_of : {w : ℕ} {registers fields : List ℕ} → LawfulRows w registers fields → Tables
rows_of {registers = registers} {fields = fields} r = tables registers r.paths fields r.labels

module _ (w : ℕ) (registers fields : List ℕ) (i : ℕ) (r : LawfulRows w registers fields) (h : i < length registers / register_row_width) where
  pub row_small : i ≤ index_bound
  row_small = omega (arith, facts.rows_few (rows_of r) r.rows)

  module _ {row : RegisterRow} (p : row ≡ register_row registers i) where
    pub row_runs : Runs w fields row
    row_runs = rw p (facts.row_runs (rows_of r) r.rows w r.width i h)

    pub row_few : row.first ≤ field_limit
    row_few = omega (arith, row_runs.few)

    -- the store has a register's numbers
    module _ (s₀ s : List ℕ) (l : length fields / field_row_width ≤ length s₀) (e : length s ≡ length s₀) where
      pub row_room : row.first + row.count ≤ length s
      row_room = rw (p, e) (facts.row_room (rows_of r) r.rows s₀ l i h)

module _ (fields : List ℕ) (j : ℕ) {f : FieldAt} (r : RangedFields fields) (h : j < length fields / field_row_width) (p : f ≡ field_row fields j) where
  pub field_order : f.low.0 ≤ f.high.0
  field_order = rw p (r.order j h)

  pub field_top : f.high.0 < 64
  field_top = rw p (r.top j h)

-- a register's fields behind those of the registers before it
row_behind : (registers fields : List ℕ) (i : ℕ) {row : RegisterRow} → row ≡ register_row registers i
    → stored_rows registers fields 0 i ++ row_fields row fields ≡ stored_rows registers fields 0 (i + 1)
row_behind registers fields i p =
    let z : i ≡ 0 + i = omega arith in
    ap (λ (o : RegisterRow). stored_rows registers fields 0 i ++ row_fields o fields) (p ∙ ap (register_row registers) z)
    ∙ sym (rows_last registers fields 0 i)
    ∙ ap (stored_rows registers fields 0) (sym (next_k i))

-- ---- an access

module _ (x : Access) (row : RegisterRow) (fields : List ℕ) (first : ℕ) where
  pub step_start_lem : (s : List ℕ) → s ≡ stepped x (run_fields row fields first 0) s
  unfolding run_fields stepped
  step_start_lem s = refl

  module _ (k : ℕ) (s₀ s : List ℕ) (done : s ≡ stepped x (run_fields row fields first k) s₀) where
    pub step_end_lem : (count : ℕ) → k ≤ count → count ≤ k → s ≡ stepped x (run_fields row fields first count) s₀
    step_end_lem count l h = let z : k ≡ count = omega arith in rw (← z) done

    pub step_on : {f : FieldAt} {c : View} {n : ℕ} → f ≡ field_row fields (first + k) → c ≡ stored_field row f (first + k) → n ≡ number_after x c (get_or s (first + k) 0)
        → set s (first + k) n ≡ stepped x (run_fields row fields first (k + 1)) s₀
    step_on p q e = rw (next_k k, e, field_at row fields (first + k) p q, done) (stepped_field x row fields first k s₀)

pub ruleset step_loop = (step_start_lem, step_end_lem, step_on)

module _ (x : Access) (registers fields : List ℕ) where
  pub steps_start : (s : List ℕ) → s ≡ stepped x (stored_rows registers fields 0 0) s
  unfolding stored_rows stepped
  steps_start s = refl

  module _ (i : ℕ) (s₀ s : List ℕ) (done : s ≡ stepped x (stored_rows registers fields 0 i) s₀) where
    pub steps_end : (count : ℕ) → i ≤ count → count ≤ i → s ≡ stepped x (stored_rows registers fields 0 count) s₀
    steps_end count l h = let z : i ≡ count = omega arith in rw (← z) done

    pub steps_on : {row : RegisterRow} {u : List ℕ} → row ≡ register_row registers i → u ≡ stepped x (row_fields row fields) s
        → u ≡ stepped x (stored_rows registers fields 0 (i + 1)) s₀
    steps_on {row = row} p e =
        e ∙ ap (stepped x (row_fields row fields)) done
        ∙ sym (stepped_join x (stored_rows registers fields 0 i) (row_fields row fields) s₀)
        ∙ ap (λ (o : List View). stepped x o s₀) (row_behind registers fields i p)

pub steps_long : (x : Access) (cs : List View) (s₀ s u : List ℕ) → length s ≡ length s₀ → u ≡ stepped x cs s → length u ≡ length s₀
steps_long x cs s₀ s u h e = ap length e ∙ length-stepped x cs s ∙ h

pub ruleset steps_loop = (steps_start, steps_end, steps_on)

-- ---- the word of a read

module _ (a : Offset) (w : ℕ) (row : RegisterRow) (fields : List ℕ) (first : ℕ) (s : List ℕ) where
  pub join_start : 0 ≡ number w (gives (run_fields row fields first 0) a w (bits_of s))
  unfolding run_fields gives
  join_start = sym (no_word w)

  module _ (k word : ℕ) (done : word ≡ number w (gives (run_fields row fields first k) a w (bits_of s))) where
    pub join_end : (count : ℕ) → k ≤ count → count ≤ k → word ≡ number w (gives (run_fields row fields first count) a w (bits_of s))
    join_end count l h = let z : k ≡ count = omega arith in rw (← z) done

    pub join_on : {f : FieldAt} {c : View} {n : ℕ} → f ≡ field_row fields (first + k) → c ≡ stored_field row f (first + k) → n ≡ number w (field_gives a w c (bit (get_or s (first + k) 0)))
        → bit_or word n ≡ number w (gives (run_fields row fields first (k + 1)) a w (bits_of s))
    join_on p q e = rw (next_k k, e, field_at row fields (first + k) p q, done) (word_field row fields first k a w (bits_of s))

pub ruleset join_loop = (join_start, join_end, join_on)

module _ (a : Offset) (w : ℕ) (registers fields : List ℕ) (s : List ℕ) where
  pub joins_start : 0 ≡ number w (gives (stored_rows registers fields 0 0) a w (bits_of s))
  unfolding stored_rows gives
  joins_start = sym (no_word w)

  module _ (i word : ℕ) (done : word ≡ number w (gives (stored_rows registers fields 0 i) a w (bits_of s))) where
    pub joins_end : (count : ℕ) → i ≤ count → count ≤ i → word ≡ number w (gives (stored_rows registers fields 0 count) a w (bits_of s))
    joins_end count l h = let z : i ≡ count = omega arith in rw (← z) done

    pub joins_on : {row : RegisterRow} {n : ℕ} → row ≡ register_row registers i → n ≡ number w (gives (row_fields row fields) a w (bits_of s))
        → bit_or word n ≡ number w (gives (stored_rows registers fields 0 (i + 1)) a w (bits_of s))
    joins_on {row = row} p e =
        ap₂ bit_or done e
        ∙ word_join (stored_rows registers fields 0 i) (row_fields row fields) a w (bits_of s)
        ∙ ap (λ (o : List View). number w (gives o a w (bits_of s))) (row_behind registers fields i p)

pub ruleset joins_loop = (joins_start, joins_end, joins_on)

-- ---- whether a register is reached

module _ (a : Offset) (w : ℕ) (registers : List ℕ) (i count : ℕ) {y : Bool} where
  pub reach_on : (row : RegisterRow) → row ≡ register_row registers i → i < count → reached_rows a w registers i (count - i) ≡ y
      → reaches_register a w row.address (register_of row) ≡ false → reached_rows a w registers (i + 1) (count - (i + 1)) ≡ y
  unfolding reached_rows
  reach_on row p h left e = rw (next_k i) (rw (rows_more count i h, rw p at e) at left)

-- ---- whether the store fits

module _ (fields s : List ℕ) (j count : ℕ) {y : Bool} where
  pub fit_on : (f : FieldAt) → f ≡ field_row fields j → j < count → fitting_rows fields s j (count - j) ≡ y → is_fitting (get_or s j 0) f ≡ true
      → fitting_rows fields s (j + 1) (count - (j + 1)) ≡ y
  unfolding fitting_rows
  fit_on f p h left e = rw (next_k j) (rw (rows_more count j h, rw p at e) at left)

pub ruleset fit_loop = (fit_on, field_order, field_top)

-- ---- a reset

length-resets : (fields : List ℕ) (j n : ℕ) → length (resets_from fields j n) ≡ n
unfolding resets_from
length-resets fields j zero = refl
length-resets fields j (suc n) = ap suc (length-resets fields (suc j) n)

resets_last : (fields : List ℕ) (j n : ℕ) → resets_from fields j (suc n) ≡ resets_from fields j n ++ (reset_in (field_row fields (j + n)) ∷ [])
unfolding resets_from
resets_last fields j zero = let z : j ≡ j + 0 = omega arith in ap (λ (k : ℕ). reset_in (field_row fields k) ∷ []) z
resets_last fields j (suc n) =
    let z : suc j + n ≡ j + suc n = omega arith in
    ap (λ (l : List ℕ). reset_in (field_row fields j) ∷ l) (resets_last fields (suc j) n)
    ∙ ap (λ (k : ℕ). reset_in (field_row fields j) ∷ (resets_from fields (suc j) n ++ (reset_in (field_row fields k) ∷ []))) z

module _ (fields : List ℕ) where
  pub reset_start : (s : List ℕ) → s ≡ resets_from fields 0 0 ++ drop 0 s
  unfolding resets_from
  reset_start s = refl

  module _ (j : ℕ) (s₀ s : List ℕ) (done : s ≡ resets_from fields 0 j ++ drop j s₀) where
    pub reset_end : (count : ℕ) → j ≤ count → count ≤ j → s ≡ resets_from fields 0 count ++ drop count s₀
    reset_end count l h = let z : j ≡ count = omega arith in rw (← z) done

    pub reset_on : {f : FieldAt} {n : ℕ} → j < length s₀ → f ≡ field_row fields j → n ≡ reset_in f → set s j n ≡ resets_from fields 0 (j + 1) ++ drop (j + 1) s₀
    reset_on {f = f} {n = n} h p e =
        let z : 0 + j ≡ j = omega arith in
        ap (λ (l : List ℕ). set l j n) (done ∙ ap (λ (l : List ℕ). resets_from fields 0 j ++ l) (drop-cons s₀ j 0 h))
        ∙ set_at (resets_from fields 0 j) (get_or s₀ j 0) (drop (suc j) s₀) n j (length-resets fields 0 j)
        ∙ sym (append_snoc (resets_from fields 0 j) n (drop (suc j) s₀))
        ∙ ap (λ (l : List ℕ). l ++ drop (suc j) s₀) (ap (λ (v : ℕ). resets_from fields 0 j ++ (v ∷ [])) (e ∙ ap reset_in (p ∙ ap (field_row fields) (sym z))) ∙ sym (resets_last fields 0 j))
        ∙ ap (λ (k : ℕ). resets_from fields 0 k ++ drop k s₀) (sym (next_k j))

pub ruleset reset_loop = (reset_start, reset_end, reset_on)

-- ---- fields that let an access be made again

module _ (x : Access) (row : RegisterRow) (fields : List ℕ) (first count k : ℕ) {y : Bool} where
  pub again_on : (f : FieldAt) (c : View) → f ≡ field_row fields (first + k) → c ≡ stored_field row f (first + k) → k < count
      → repeats (run_fields row fields (first + k) (count - k)) x ≡ y → all_below (size c) (repeats_bit x c) ≡ true
      → repeats (run_fields row fields (first + (k + 1)) (count - (k + 1))) x ≡ y
  unfolding run_fields repeats
  again_on f c p q h left e =
      let at : all_below (size (stored_field row (field_row fields (first + k)) (first + k))) (repeats_bit x (stored_field row (field_row fields (first + k)) (first + k))) ≡ true =
      rw (field_at row fields (first + k) p q) at e in
      rw (next_at first k) (rw (left_more count k h, at) at left)

module _ (x : Access) (registers fields : List ℕ) (i count : ℕ) {y : Bool} {row : RegisterRow} {r : Bool} (left : repeats (stored_rows registers fields i (count - i)) x ≡ y) (h : i < count) (p : row ≡ register_row registers i) (e : r ≡ repeats (row_fields row fields) x) where
  repeat_at : r ≡ repeats (row_fields (register_row registers i) fields) x
  repeat_at = rw (← p) e

  rest_joined : (repeats (row_fields (register_row registers i) fields) x && repeats (stored_rows registers fields (suc i) (count - suc i)) x) ≡ y
  unfolding stored_rows
  rest_joined = sym (repeats_join x (row_fields (register_row registers i) fields) (stored_rows registers fields (suc i) (count - suc i))) ∙ (rw (rows_more count i h) at left)

  pub repeat_stop : not r ≡ true → false ≡ y
  repeat_stop z = rw (failed repeat_at z) at rest_joined

  pub repeat_on : not r ≡ false → repeats (stored_rows registers fields (i + 1) (count - (i + 1))) x ≡ y
  repeat_on z = rw (next_k i) (rw (passed repeat_at z) at rest_joined)

pub repeat_end : (x : Access) (registers fields : List ℕ) (i count : ℕ) {y : Bool} → repeats (stored_rows registers fields i (count - i)) x ≡ y → count ≤ i → true ≡ y
unfolding stored_rows repeats
repeat_end x registers fields i count left h = rw (left_none count i h) at left
