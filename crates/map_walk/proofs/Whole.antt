-- What a whole run says of the rules, one by one, and of the log.
use mathlib.Core.Path.{◌≡◌, refl, sym, ap, ◌∙◌}
use mathlib.Core.Bool.{Bool, true, false, ◌||◌, ◌&&◌, not}
use mathlib.Core.List.{List, [], ◌∷◌}
use Prim.Native.Nat.{ℕ, zero, suc, ◌+◌, ◌*◌, ◌%◌, ◌≤◌, ◌<◌}
use native.Mathlib.Omega.{arith}
use lib.Dec.{eqb, ltb}
use lib.ListN.{length}
use Rattle.std.specs.Prelude.{if◌then◌else◌}
use Rattle.chars.proofs.Laws.{either}
use Rattle.basics.specs.Judged.{first_of, Judged, fault, fine, unless, Verdict, Accepted, Refused}
use Rattle.basics.specs.Slices.{cell_of, written}
use Rattle.cells.specs.Definitions.{Definition, definition_of}
use Rattle.cells.proofs.Laws.{written-length, written_other, written_same}
use Rattle.register_log.specs.Log.{log_width}
use Rattle.layout.specs.declared.Shape.{Shape}
use Rattle.layout.specs.Layout.{shape_at}
use Rattle.basics.specs.Limits.{nest_limit, address_end}
use Rattle.map_rules.specs.Visits.{Visit}
use Rattle.map_rules.specs.Whole.{is_register_visit, offence, too_many, too_close, misplaced}
use Rattle.map_walk.specs.Runs.{Total, nothing_tallied, registers_with, fields_with, is_too_many, tallied, run, step_numbers, log_row, logged_one, logged}
use Rattle.map_rules.specs.Whole.{registers_among, fields_among}
use Rattle.map_walk.specs.Walks.{LogRow, visit_at, Logs}
use Rattle.map_walk.proofs.Runs.{run_step, run_none, logged_step}
use Rattle.rows.proofs.Padded.{length-padded}
use Rattle.map_walk.proofs.Visited.{first_none}

-- the first of three faults
first_three : (a b c : Verdict) → first_of (first_of a b) c ≡ first_of a (first_of b c)
first_three Accepted b c = refl
first_three (Refused n p) b c = refl

close_more : (v : Visit) (vs : List Visit) → too_close (v ∷ vs) ≡ first_of (too_close (v ∷ [])) (too_close vs)
unfolding too_close
close_more v vs = by v.short
  where
    by : (b : Bool) → (if b then offence 19 v else too_close vs) ≡ first_of (if b then offence 19 v else Accepted) (too_close vs)
    by true = refl
    by false = refl

misplaced_more : (table : List Definition) (shapes : List Shape) (v : Visit) (vs : List Visit) → misplaced table shapes (v ∷ vs) ≡ first_of (misplaced table shapes (v ∷ [])) (misplaced table shapes vs)
unfolding misplaced
misplaced_more table shapes v vs =
    by (is_register_visit table v && (not (eqb (v.address.0 % (shape_at shapes v.type).access) 0) || ltb address_end (v.address.0 + (shape_at shapes v.type).size)))
  where
    by : (b : Bool) → (if b then offence 20 v else misplaced table shapes vs) ≡ first_of (if b then offence 20 v else Accepted) (misplaced table shapes vs)
    by true = refl
    by false = refl

-- the rules that a run judges
pub run_many : (table : List Definition) (shapes : List Shape) (t : Total) (vs : List Visit) {n p : ℕ} → run table shapes t vs ≡ fault n p → too_many table t.registers t.fields vs ≡ Refused n p
unfolding run too_many is_too_many tallied unless
run_many table shapes t [] e = absurd cc
run_many table shapes t (v ∷ vs) {n} {p} e = by (is_too_many table t v) (λ f. run_many table shapes (tallied table shapes t v) vs f) e
  where
    by : (b : Bool) → (run table shapes (tallied table shapes t v) vs ≡ fault n p → too_many table (registers_with table t v) (fields_with table t v) vs ≡ Refused n p)
        → unless b 18 v.name.start (run table shapes (tallied table shapes t v) vs) ≡ fault n p → (if b then offence 18 v else too_many table (registers_with table t v) (fields_with table t v) vs) ≡ Refused n p
    by true f e = let a : 18 ≡ n = cc in let b : v.name.start ≡ p = cc in rw (a, b)
    by false f e = f e

pub record Sums (table : List Definition) (shapes : List Shape) (t : Total) (vs : List Visit) (u : Total) : Type 0 where
  pub many : too_many table t.registers t.fields vs ≡ Accepted
  pub close : u.close ≡ first_of t.close (too_close vs)
  pub misplaced : u.misplaced ≡ first_of t.misplaced (misplaced table shapes vs)
  pub registers : u.registers ≡ t.registers + length (registers_among table vs)
  pub fields : u.fields ≡ t.fields + fields_among table vs

sums_none : (table : List Definition) (shapes : List Shape) (t : Total) → Sums table shapes t [] t
unfolding too_many too_close misplaced registers_among fields_among
sums_none table shapes t =
    record { many = refl; close = sym (first_none t.close); misplaced = sym (first_none t.misplaced); registers = omega arith; fields = omega arith }

sums_more : (table : List Definition) (shapes : List Shape) (t : Total) (v : Visit) (vs : List Visit) {u : Total} → is_too_many table t v ≡ false → Sums table shapes (tallied table shapes t v) vs u
    → Sums table shapes t (v ∷ vs) u
unfolding too_many is_too_many tallied registers_among fields_among
sums_more table shapes t v vs {u} e s =
    record {
      many = rw e s.many;
      close = s.close ∙ first_three t.close (too_close (v ∷ [])) (too_close vs) ∙ ap (first_of t.close) (sym (close_more v vs));
      misplaced = s.misplaced ∙ first_three t.misplaced (misplaced table shapes (v ∷ [])) (misplaced table shapes vs) ∙ ap (first_of t.misplaced) (sym (misplaced_more table shapes v vs));
      registers = registers (is_register_visit table v) s.registers;
      fields = fields (is_register_visit table v) s.fields;
    }
  where
    registers : (b : Bool) → u.registers ≡ (if b then suc t.registers else t.registers) + length (registers_among table vs)
        → u.registers ≡ t.registers + length (if b then v ∷ registers_among table vs else registers_among table vs)
    registers true f = omega (arith, f)
    registers false f = f

    fields : (b : Bool) → u.fields ≡ (if b then t.fields + length (definition_of table v.type).instances else t.fields) + fields_among table vs
        → u.fields ≡ t.fields + (if b then length (definition_of table v.type).instances + fields_among table vs else fields_among table vs)
    fields true f = omega (arith, f)
    fields false f = f

pub run_sums : (table : List Definition) (shapes : List Shape) (t : Total) (vs : List Visit) {u : Total} → run table shapes t vs ≡ fine u → Sums table shapes t vs u
run_sums table shapes t [] e = rw (← run_none table shapes t e) (sums_none table shapes t)
run_sums table shapes t (v ∷ vs) e =
    let (f, g) = run_step table shapes t v vs e in
    sums_more table shapes t v vs f (run_sums table shapes (tallied table shapes t v) vs g)

-- the log
row_length : (v : Visit) → length (log_row v) ≡ log_width
unfolding log_row
row_length v = omega (arith, length-padded nest_limit (step_numbers v.path))

-- how many registers there are with an element
counted : (table : List Definition) (shapes : List Shape) (t : Total) (v : Visit) {b : Bool} → is_register_visit table v ≡ b → (tallied table shapes t v).registers ≡ (if b then suc t.registers else t.registers)
unfolding tallied
counted table shapes t v e = ap (λ (c : Bool). if c then suc t.registers else t.registers) e

-- more elements leave the rows before
tallied_more : (table : List Definition) (shapes : List Shape) (t : Total) (v : Visit) → t.registers ≤ (tallied table shapes t v).registers
unfolding tallied
tallied_more table shapes t v = either (λ (n : ℕ). t.registers ≤ n) (is_register_visit table v) (λ _. omega arith) (λ _. omega arith)

one_below : (table : List Definition) (log : List ℕ) (t : Total) (v : Visit) (j : ℕ) → j < t.registers * log_width → cell_of (logged_one table log t v) j ≡ cell_of log j
one_below table log t v j h =
    either (λ (l : List ℕ). cell_of l j ≡ cell_of log j) (is_register_visit table v) (λ _. written_other log (t.registers * log_width) (log_row v) j (λ l. absurd (omega (arith, h, l)))) (λ _. refl)

logged-below : (table : List Definition) (shapes : List Shape) (log : List ℕ) (t : Total) (vs : List Visit) (j : ℕ) → j < t.registers * log_width → cell_of (logged table shapes log t vs) j ≡ cell_of log j
unfolding logged
logged-below table shapes log t [] j h = refl
logged-below table shapes log t (v ∷ vs) j h =
    either (λ (l : List ℕ). cell_of l j ≡ cell_of log j) (is_too_many table t v) (λ _. refl)
    (λ _. logged-below table shapes (logged_one table log t v) (tallied table shapes t v) vs j (omega (arith, h, tallied_more table shapes t v)) ∙ one_below table log t v j h)

-- a row of the log, written
row_written : (log : List ℕ) (n : ℕ) (v : Visit) → suc n * log_width ≤ length log → LogRow (written log (n * log_width) (log_row v)) n v
unfolding log_row
row_written log n v h =
    let m : n * log_width + length (log_row v) ≤ length log = omega (arith, row_length v) in
    record {
      head = let z : n * log_width + 0 ≡ n * log_width = omega arith in rw z at (written_same log (n * log_width) (log_row v) 0 m (omega (arith, row_length v)));
      steps = λ k l.
          let z : n * log_width + 1 + k ≡ n * log_width + suc k = omega arith in
          rw z (written_same log (n * log_width) (log_row v) (suc k) m (omega (arith, row_length v)));
    }

row_kept : (table : List Definition) (shapes : List Shape) (log : List ℕ) (t : Total) (i : ℕ) (vs : List Visit) {v : Visit} → i < t.registers → LogRow log i v
    → LogRow (logged table shapes log t vs) i v
row_kept table shapes log t i vs h r =
    record {
      head = logged-below table shapes log t vs (i * log_width) (omega (arith, h)) ∙ r.head;
      steps = λ k l. logged-below table shapes log t vs (i * log_width + 1 + k) (omega (arith, h, l)) ∙ r.steps k l;
    }

-- the registers of a run that is fine, one a row
logged_rows : (table : List Definition) (shapes : List Shape) (log : List ℕ) (t : Total) (vs : List Visit) {u : Total} → run table shapes t vs ≡ fine u
    → (i : ℕ) → i < length (registers_among table vs) → (t.registers + length (registers_among table vs)) * log_width ≤ length log
    → LogRow (logged table shapes log t vs) (t.registers + i) (visit_at (registers_among table vs) i)
unfolding registers_among
logged_rows table shapes log t [] e i l h = absurd (omega arith)
logged_rows table shapes log t (v ∷ vs) e i l h =
    let (few, f) = run_step table shapes t v vs e in
    rw (logged_step table shapes log t v vs few)
    (by (is_register_visit table v) refl i l h (λ x j. logged_rows table shapes x (tallied table shapes t v) vs f j))
  where
    by : (b : Bool) → is_register_visit table v ≡ b → (i : ℕ) → i < length (if b then v ∷ registers_among table vs else registers_among table vs)
        → (t.registers + length (if b then v ∷ registers_among table vs else registers_among table vs)) * log_width ≤ length log
        → ((x : List ℕ) (j : ℕ) → j < length (registers_among table vs) → ((tallied table shapes t v).registers + length (registers_among table vs)) * log_width ≤ length x
        → LogRow (logged table shapes x (tallied table shapes t v) vs) ((tallied table shapes t v).registers + j) (visit_at (registers_among table vs) j))
        → LogRow (logged table shapes (if b then written log (t.registers * log_width) (log_row v) else log) (tallied table shapes t v) vs) (t.registers + i)
        (visit_at (if b then v ∷ registers_among table vs else registers_among table vs) i)
    by true e zero l h f =
        let z : t.registers + 0 ≡ t.registers = omega arith in
        let n : t.registers < (tallied table shapes t v).registers = omega (arith, counted table shapes t v e) in
        rw z (row_kept table shapes (written log (t.registers * log_width) (log_row v)) (tallied table shapes t v) t.registers vs n (row_written log t.registers v (omega (arith, h))))
    by true e (suc i) l h f =
        let z : t.registers + suc i ≡ (tallied table shapes t v).registers + i = omega (arith, counted table shapes t v e) in
        rw z (f (written log (t.registers * log_width) (log_row v)) i (omega (arith, l)) (omega (arith, h, counted table shapes t v e, written-length log (t.registers * log_width) (log_row v))))
    by false e i l h f =
        let z : t.registers + i ≡ (tallied table shapes t v).registers + i = omega (arith, counted table shapes t v e) in
        rw z (f log i l (omega (arith, h, counted table shapes t v e)))

pub logged_logs : (table : List Definition) (shapes : List Shape) (log : List ℕ) (vs : List Visit) {u : Total} {after : List ℕ} → run table shapes nothing_tallied vs ≡ fine u
    → length (registers_among table vs) * log_width ≤ length log → after ≡ logged table shapes log nothing_tallied vs → Logs after (registers_among table vs)
logged_logs table shapes log vs e h g =
    rw g (record { each = λ i l. let z : 0 + i ≡ i = omega arith in rw z at (logged_rows table shapes log nothing_tallied vs e i l (omega (arith, h))) })

-- a map that keeps 18 is walked over to its end
pub record RunsOut (table : List Definition) (shapes : List Shape) (t : Total) (vs : List Visit) : Type 0 where
  pub tally : Total
  pub runs : run table shapes t vs ≡ fine tally

pub few_run : (table : List Definition) (shapes : List Shape) (t : Total) (vs : List Visit) → too_many table t.registers t.fields vs ≡ Accepted → RunsOut table shapes t vs
few_run table shapes t vs e = by (run table shapes t vs) refl
  where
    by : (j : Judged Total) → run table shapes t vs ≡ j → RunsOut table shapes t vs
    by (fine u) q = record { tally = u; runs = q }
    by (fault n p) q =
        let z : Refused n p ≡ Accepted = sym (run_many table shapes t vs q) ∙ e in
        absurd (let w : ◌≡◌ {A = ℕ} 0 1 = cc in omega arith)
