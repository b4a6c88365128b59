-- Lawful rows are suited: each view shows the number of its own row, which has the field's bits.
use mathlib.Core.Path.{◌≡◌, refl, sym, ap, ◌∙◌, subst}
use mathlib.Core.Bool.{Bool, true, false}
use mathlib.Core.List.{List, [], ◌∷◌, ◌++◌}
use Prim.Native.Nat.{ℕ, zero, suc, ◌+◌, ◌-◌, ◌/◌, ◌<◌, ◌≤◌}
use native.Mathlib.Nat.{not-suc-le-zero, le_of_suc-le-suc}
use native.Mathlib.Omega.{arith}
use lib.ListN.{length, get_or, length-append, get_or-append}
use lib.Seq.{get_or-append-add}
use lib.Dec.{ltb}
use borrow.Author.Tests.{ltb-true, ltb-false}
use Rattle.basics.specs.Limits.{register_row_width, field_row_width}
use Rattle.chars.proofs.Laws.{and_left, and_right}
use Rattle.fields.specs.declared.Offset.{Offset}
use Rattle.rows.specs.Rows.{Tables}
use Rattle.rows.specs.declared.RegisterRow.{RegisterRow}
use Rattle.rows.specs.Lawful.{register_row, field_row, is_register_row, are_rows, lawful}
use Rattle.rows.proofs.Each.{row_first}
use Rattle.model.specs.declared.View.{View}
use Rattle.model.specs.Model.{size, view_in, no_view}
use Rattle.model.specs.Repeats.{Alone}
use Rattle.model.specs.Suited.{Suited}
use Rattle.model.proofs.Retry.{alone_own}
use Rattle.model.proofs.Suiting.{usable_by_12}
use Rattle.access.specs.Stored.{stored_fields, sizes_of, device_in}
use Rattle.access.specs.Runs.{run_fields, row_fields, stored_rows}
use Rattle.access.proofs.Facts.{all_within}
use Rattle.access.proofs.Joined.{length_run}
use Rattle.access.proofs.Fields.{whole_rows, stored_rows_lem, length_sizes, stored_count}

-- a view that shows the number j, of the field row j
record AtRow (fields : List ℕ) (j : ℕ) (c : View) : Type 0 where
  index : c.index ≡ j
  field : c.field ≡ field_row fields j

abbrev AtRows : List ℕ → ℕ → List View → Type 0
AtRows fields j cs = (k : ℕ) → k < length cs → AtRow fields (j + k) (view_in cs k)

run_own : (r : RegisterRow) (fields : List ℕ) (j n : ℕ) → AtRows fields j (run_fields r fields j n)
unfolding run_fields
run_own r fields j zero k h = absurd (not-suc-le-zero h)
run_own r fields j (suc n) zero h =
    let z : j ≡ j + 0 = omega arith in
    record { index = z; field = ap (field_row fields) z }
run_own r fields j (suc n) (suc k) h =
    let z : suc j + k ≡ j + suc k = omega arith in
    subst (λ (m : ℕ). AtRow fields m (view_in (run_fields r fields (suc j) n) k)) z (run_own r fields (suc j) n k (le_of_suc-le-suc h))

both_own : (fields : List ℕ) (j : ℕ) (cs es : List View) → AtRows fields j cs → AtRows fields (j + length cs) es → AtRows fields j (cs ++ es)
both_own fields j cs es p q k h = by (ltb k (length cs)) refl
  where
    by : (b : Bool) → ltb k (length cs) ≡ b → AtRow fields (j + k) (view_in (cs ++ es) k)
    by true e =
        let l = ltb-true k (length cs) e in
        subst (λ (c : View). AtRow fields (j + k) c) (sym (get_or-append cs es no_view k l)) (p k l)
    by false e =
        let l : length cs ≤ k = ltb-false k (length cs) e in
        let m : length cs + (k - length cs) ≡ k = omega arith in
        let n : (j + length cs) + (k - length cs) ≡ j + k = omega arith in
        let r : k - length cs < length es = omega (arith, length-append cs es) in
        subst (λ (c : View). AtRow fields (j + k) c) (sym (get_or-append-add cs es (k - length cs) no_view) ∙ ap (view_in (cs ++ es)) m)
        (subst (λ (i : ℕ). AtRow fields i (view_in es (k - length cs))) n (q (k - length cs) r))

rows_own : (t : Tables) (all i first n : ℕ) → are_rows t all i first n ≡ true → AtRows t.fields first (stored_rows t.registers t.fields i n)
unfolding are_rows stored_rows
rows_own t all i first zero e = λ k h. absurd (not-suc-le-zero h)
rows_own t all i first (suc n) e =
    let own : is_register_row t all i first ≡ true = and_left (is_register_row t all i first) _ e in
    let r : RegisterRow = register_row t.registers i in
    let f : r.first ≡ first = row_first t all i first own in
    both_own t.fields first (row_fields r t.fields) (stored_rows t.registers t.fields (suc i) n)
    (subst (λ (j : ℕ). AtRows t.fields j (row_fields r t.fields)) f (run_own r t.fields r.first r.count))
    (subst (λ (m : ℕ). AtRows t.fields (first + m) (stored_rows t.registers t.fields (suc i) n)) (sym (length_run r t.fields r.first r.count))
    (rows_own t all (suc i) (first + r.count) n (and_right (is_register_row t all i first) _ e)))

sizes_at : (cs : List View) (k : ℕ) → k < length cs → get_or (sizes_of cs) k 0 ≡ size (view_in cs k)
unfolding sizes_of
sizes_at [] k h = absurd (not-suc-le-zero h)
sizes_at (c ∷ cs) zero h = refl
sizes_at (c ∷ cs) (suc k) h = sizes_at cs k (le_of_suc-le-suc h)

module _ (t : Tables) (e : lawful t ≡ true) where
  own_row : (k : ℕ) → k < length (stored_fields t) → AtRow t.fields k (view_in (stored_fields t) k)
  own_row k h =
      let z : 0 + k ≡ k = omega arith in
      subst (λ (j : ℕ). AtRow t.fields j (view_in (stored_fields t) k)) z
      (subst (λ (cs : List View). AtRows t.fields 0 cs) (sym (stored_rows_lem t e)) (rows_own t (length t.fields / field_row_width) 0 0 (length t.registers / register_row_width) (whole_rows t e)) k h)

  below : (k : ℕ) → k < length (stored_fields t) → k < length t.fields / field_row_width
  below k h = omega (arith, stored_count t e, length_sizes (stored_fields t))

  pub lawful_suited : Suited (device_in t)
  lawful_suited =
      record {
        narrow = λ f h. let k : f < length (stored_fields t) = omega (arith, length_sizes (stored_fields t)) in
            let c = view_in (stored_fields t) f in
            let top = (all_within t e f (below f k)).top in
            let q : c.field.high.0 < 64 = rw (own_row f k).field top in
            let z : size c ≤ 64 = omega arith in
            subst (λ (n : ℕ). n ≤ 64) (sym (sizes_at (stored_fields t) f k)) z;
        each = λ k h. let c = view_in (stored_fields t) k in let o = own_row k h in
            record {
              row = subst (λ (n : ℕ). n < length (sizes_of (stored_fields t))) (sym o.index) (omega (arith, length_sizes (stored_fields t)));
              same = ap (λ (n : ℕ). get_or (sizes_of (stored_fields t)) n 0) o.index ∙ sizes_at (stored_fields t) k h;
              usable = usable_by_12 c.field.values (rw o.field (all_within t e k (below k h)).usable);
            };
      }

  -- no number is written through two views: each has its own
  pub lawful_alone : (a : Offset) (w : ℕ) → Alone (device_in t) a w
  lawful_alone a w = alone_own (device_in t) a w (λ k h. (own_row k h).index)
