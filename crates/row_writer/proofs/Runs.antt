-- Laws of a register's fields: those of the instances that are left follow the ones that are written.
use mathlib.Core.Path.{◌≡◌, refl, sym, ap, ◌∙◌}
use mathlib.Core.List.{List, [], ◌∷◌, ◌++◌, append_assoc}
use Prim.Native.Nat.{ℕ, suc, ◌+◌, ◌-◌, ◌*◌, ◌<◌, ◌≤◌}
use native.Mathlib.Omega.{arith}
use lib.ListN.{length, length-append}
use Rattle.parts.specs.declared.Name.{Name}
use Rattle.parts.specs.declared.Instance.{Instance}
use Rattle.suffixes.specs.Suffixes.{instance_fault}
use Rattle.basics.specs.Limits.{field_limit, field_row_width, name_width, index_bound, sum_bound}
use Rattle.components.specs.Components.{kind_of}
use Rattle.fields.specs.declared.BitPlace.{BitPlace}
use Rattle.fields.specs.declared.FieldAt.{FieldAt}
use Rattle.components.specs.declared.Component.{Component}
use Rattle.basics.specs.Slices.{cell_of, written}
use Rattle.cells.specs.Cells.{entries_at, component_in, first_in, count_in, instance_room, size}
use Rattle.cells.specs.Definitions.{Child, Definition, definition_of}
use Rattle.cells.specs.Decoded.{child_in}
use Rattle.cells.proofs.Laws.{child_entry}
use Rattle.cells.specs.Relation.{Block}
use Rattle.cells.proofs.Laws.{written-length}
use Rattle.closing_rules.specs.Registers.{placement, bit_above, first_bit}
use Rattle.closing_rules.specs.Decoded.{placed_as, top_of}
use Rattle.closing_rules.proofs.Laws.{placed_top, placed-sound}
use Rattle.definition_laws.specs.Sensible.{ChildrenFit}
use Rattle.rows.specs.Rows.{Field, name_cell, field_cells, field_run, label_run}
use Rattle.sizes.specs.declared.Extent.{Extent}
use Rattle.sizes.specs.Ready.{known, Ready}
use Rattle.sizes.proofs.Rows.{RowFits}
use Rattle.sizes.proofs.Laws.{fine_parts, ready_is_row, ready_row, ready_block, ready_count, ready_within, Ahead, ahead_of, none_left}
use Rattle.row_writer.specs.Entries.{bytes_in, with_field, row_fields}
use Rattle.row_writer.specs.Writes.{RunWrites, fields_in}
use Rattle.rows.proofs.Padded.{length-padded}
use Rattle.row_writer.proofs.Cells.{written-append}
use Rattle.basics.specs.Judged.{Accepted, Judged, fine, fault}
use Rattle.std.specs.Prelude.{Option, Some, None}

-- the rows of fields behind those of others
cells_length : (f : FieldAt) → length (field_cells f) ≡ 8
unfolding field_cells
cells_length f = refl

pub fields_length : (fs : List Field) → length (field_run fs) ≡ length fs * 8
unfolding field_run
fields_length [] = refl
fields_length (f ∷ fs) = length-append (field_cells f.at) (field_run fs) ∙ omega (arith, fields_length fs, cells_length f.at)

pub labels_length : (fs : List Field) → length (label_run fs) ≡ length fs * 32
unfolding label_run
labels_length [] = refl
labels_length (f ∷ fs) = length-append (name_cell f.name) (label_run fs) ∙ omega (arith, labels_length fs, length-padded 32 f.name)

pub fields_append : (fs gs : List Field) → field_run (fs ++ gs) ≡ field_run fs ++ field_run gs
unfolding field_run
fields_append [] gs = refl
fields_append (f ∷ fs) gs = ap (λ (xs : List ℕ). field_cells f.at ++ xs) (fields_append fs gs) ∙ sym (append_assoc (field_cells f.at) (field_run fs) (field_run gs))

pub labels_append : (fs gs : List Field) → label_run (fs ++ gs) ≡ label_run fs ++ label_run gs
unfolding label_run
labels_append [] gs = refl
labels_append (f ∷ fs) gs = ap (λ (xs : List ℕ). name_cell f.name ++ xs) (labels_append fs gs) ∙ sym (append_assoc (name_cell f.name) (label_run fs) (label_run gs))

-- nothing is written
pub run_none : (f l : List ℕ) (j : ℕ) → RunWrites f f l l j [] j
unfolding field_run label_run written
run_none f l j = record { next = omega arith; rows = refl; names = refl }

-- a run behind another
pub run_more : (j : ℕ) {f f1 f2 l l1 l2 : List ℕ} {k r : ℕ} {xs ys : List Field} → RunWrites f f1 l l1 j xs k → RunWrites f1 f2 l1 l2 k ys r → RunWrites f f2 l l2 j (xs ++ ys) r
run_more j {f} {f1} {f2} {l} {l1} {l2} {k} {r} {xs} {ys} a b =
    let m : k * 8 ≡ j * field_row_width + length (field_run xs) = omega (arith, a.next, fields_length xs) in
    let n : k * name_width ≡ j * name_width + length (label_run xs) = omega (arith, a.next, labels_length xs) in
    record {
      next = omega (arith, a.next, b.next, length-append xs ys);
      rows =
          b.rows ∙ ap (λ (t : List ℕ). written t (k * 8) (field_run ys)) a.rows ∙ ap (λ (i : ℕ). written (written f (j * field_row_width) (field_run xs)) i (field_run ys)) m
          ∙ sym (written-append f (j * field_row_width) (field_run xs) (field_run ys)) ∙ ap (written f (j * field_row_width)) (sym (fields_append xs ys));
      names =
          b.names ∙ ap (λ (t : List ℕ). written t (k * name_width) (label_run ys)) a.names ∙ ap (λ (i : ℕ). written (written l (j * name_width) (label_run xs)) i (label_run ys)) n
          ∙ sym (written-append l (j * name_width) (label_run xs) (label_run ys)) ∙ ap (written l (j * name_width)) (sym (labels_append xs ys));
    }

pub run_fields_lem : {f f1 l l1 : List ℕ} {j r : ℕ} {fs : List Field} → RunWrites f f1 l l1 j fs r → length f1 ≡ length f
run_fields_lem {f} {j = j} {fs = fs} a = ap length a.rows ∙ written-length f (j * field_row_width) (field_run fs)

pub run_labels : {f f1 l l1 : List ℕ} {j r : ℕ} {fs : List Field} → RunWrites f f1 l l1 j fs r → length l1 ≡ length l
run_labels {l = l} {j = j} {fs = fs} a = ap length a.names ∙ written-length l (j * name_width) (label_run fs)

-- one instance
nothing_behind : (xs : List ℕ) → xs ≡ xs ++ []
nothing_behind [] = refl
nothing_behind (x ∷ xs) = ap (λ (ys : List ℕ). x ∷ ys) (nothing_behind xs)

module _ (f l : List ℕ) (j : ℕ) (text : List ℕ) (name : Name) (p : Option FieldAt) where
  pub placed_other : p ≡ None → RunWrites f f l l j (with_field (bytes_in text name) p []) j
  placed_other e = rw e (run_none f l j)

  pub placed_field : {at : FieldAt} {f1 l1 label : List ℕ} → p ≡ Some at → f1 ≡ written f (j * field_row_width) (field_cells at) → label ≡ bytes_in text name → l1 ≡ written l (j * name_width) (name_cell label)
      → RunWrites f f1 l l1 j (with_field (bytes_in text name) p []) (j + 1)
  unfolding field_run label_run
  placed_field {at} {f1} {l1} {label} e a g b =
      let w : RunWrites f f1 l l1 j (record { name = bytes_in text name; at = at } ∷ []) (j + 1) =
      record {
        next = omega arith;
        rows = a ∙ ap (written f (j * field_row_width)) (nothing_behind (field_cells at));
        names = b ∙ ap (λ (s : List ℕ). written l (j * name_width) (name_cell s)) g ∙ ap (written l (j * name_width)) (nothing_behind (name_cell (bytes_in text name)));
      } in
      rw e w

-- the fields of the instances that are left, one first
with_front : (name : List ℕ) (p : Option FieldAt) (fs : List Field) → with_field name p fs ≡ with_field name p [] ++ fs
with_front name (Some f) fs = refl
with_front name None fs = refl

with_few : (name : List ℕ) (p : Option FieldAt) → length (with_field name p []) ≤ 1
with_few name (Some f) = omega arith
with_few name None = omega arith

above_low : (p : Option FieldAt) (next : BitPlace) → top_of p ≤ next.0 + 63 → (bit_above p next).0 ≤ next.0 + 64
above_low (Some f) next h = omega arith
above_low None next h = omega arith

fields_more : (text : List ℕ) (table : List Definition) (next : BitPlace) (c : Child) (cs : List Child) {p : Option FieldAt} → p ≡ placement (definition_of table c.type).component next c.instance
    → row_fields text table next (c ∷ cs) ≡ with_field (bytes_in text c.instance.name) p [] ++ row_fields text table (bit_above p next) cs
unfolding row_fields
fields_more text table next c cs {p} e =
    ap (λ (q : Option FieldAt). with_field (bytes_in text c.instance.name) q (row_fields text table (bit_above q next) cs)) (sym e)
    ∙ with_front (bytes_in text c.instance.name) p (row_fields text table (bit_above p next) cs)

fields_none : (text : List ℕ) (table : List Definition) (next : BitPlace) → row_fields text table next [] ≡ []
unfolding row_fields
fields_none text table next = refl

none_behind : (xs : List Field) → xs ++ [] ≡ xs
none_behind [] = refl
none_behind (x ∷ xs) = ap (λ (ys : List Field). x ∷ ys) (none_behind xs)

-- the instances that are left, and the fields that are written
pub record Running (text t : List ℕ) (e : Extent) (row : ℕ) (f f1 l l1 : List ℕ) (first to i : ℕ) (next : BitPlace) (j : ℕ) : Type 0 where
  pub fits : RowFits e.mode (known text t e) row
  pub rest : List Child
  pub block : Block text t i rest
  pub until : i + length rest ≡ to
  pub children : ChildrenFit fits.before (definition_of (known text t e) row).component rest
  pub done : List Field
  pub wrote : RunWrites f f1 l l1 first done j
  pub same : done ++ row_fields text (known text t e) next rest ≡ fields_in text t e row

pub record RunWriting (text t : List ℕ) (row : ℕ) (f f1 l l1 : List ℕ) (first to i : ℕ) (next : BitPlace) (j : ℕ) : Type 0 where
  pub bits : next.0 + 64 * (to - i) ≤ 64 * size
  pub few : j + (to - i) ≤ field_limit + size
  pub fields : length f1 ≡ length f
  pub labels : length l1 ≡ length l
  pub each : (e : Extent) → Ready text t e → row < e.rows → Running text t e row f f1 l l1 first to i next j

module _ (text t : List ℕ) (row : ℕ) (f l : List ℕ) (first : ℕ) where
  pub runs_start : {e : Extent} {from to : ℕ} → Ready text t e → row < e.rows → first ≤ field_limit → from ≡ entries_at + first_in t row → to ≡ from + count_in t row
      → RunWriting text t row f f l l first to from first_bit first
  runs_start {e} {from} {to} ready low h p q =
      let w : first_in t row + count_in t row ≤ instance_room = ready_within text t e row ready low in
      record {
        bits = omega (arith, p, q, w);
        few = omega (arith, h, p, q, w);
        fields = refl;
        labels = refl;
        each = λ e ready low.
            let fits : RowFits e.mode (known text t e) row = ready_row text t e row ready low in
            record {
              fits = fits;
              rest = (definition_of (known text t e) row).instances;
              block = rw p (ready_block text t e row ready low);
              until = omega (arith, q, ready_count text t e row ready low);
              children = fits.fits.children;
              done = [];
              wrote = run_none f l first;
              same = refl;
            };
      }

module _ (text t : List ℕ) (row : ℕ) {f f1 l l1 : List ℕ} {first to i : ℕ} {next : BitPlace} {j : ℕ} (s : RunWriting text t row f f1 l l1 first to i next j) where
  pub runs_end : {e : Extent} → Ready text t e → row < e.rows → to ≤ i → RunWrites f f1 l l1 first (fields_in text t e row) j
  runs_end {e} ready low h =
      let r : Running text t e row f f1 l l1 first to i next j = s.each e ready low in
      let table : List Definition = known text t e in
      let z : r.rest ≡ [] = none_left h r.until r.block in
      let w : r.done ≡ fields_in text t e row =
      sym (none_behind r.done) ∙ ap (λ (fs : List Field). r.done ++ fs) (sym (ap (row_fields text table next) z ∙ fields_none text table next)) ∙ r.same in
      rw w at r.wrote

  pub runs_bits : next.0 < sum_bound
  runs_bits = omega (arith, s.bits)

  pub runs_low : j ≤ index_bound
  runs_low = omega (arith, s.few)

  module _ (h : i < to) where
    pub runs_top : (d : Component) (it : Instance) {p : Option FieldAt} → p ≡ placed_as d next it → top_of p < sum_bound
    runs_top d it o = rw o (omega (arith, s.bits, placed_top d next it))

    module _ {y : Judged (ℕ × Instance)} (r : y ≡ child_in text (cell_of t i)) where
      pub runs_stop : {e : Extent} {n q : ℕ} → Ready text t e → row < e.rows → y ≡ fault n q → RunWrites f f1 l l1 first (fields_in text t e row) j
      runs_stop {e} ready low g =
          let v : Running text t e row f f1 l l1 first to i next j = s.each e ready low in
          let ahead : Ahead text t v.fits.before (definition_of (known text t e) row).component i v.rest = ahead_of h v.until v.block v.children in
          let w : y ≡ fine (ahead.child.type, ahead.child.instance) = r ∙ child_entry text (cell_of t i) ahead.entry in
          absurd cc

      module _ {it : Instance} {k : ℕ} {d : Component} {a : Option FieldAt} (g : y ≡ fine (k, it)) (m : d ≡ component_in t k) (b : a ≡ placed_as d next it) where
        -- the first of the instances that are left, as a field
        module _ (e : Extent) (ready : Ready text t e) (low : row < e.rows) where
          at_run : Running text t e row f f1 l l1 first to i next j
          at_run = s.each e ready low

          ahead_run : Ahead text t at_run.fits.before (definition_of (known text t e) row).component i at_run.rest
          ahead_run = ahead_of h at_run.until at_run.block at_run.children

          run_child : y ≡ fine (ahead_run.child.type, ahead_run.child.instance)
          run_child = r ∙ child_entry text (cell_of t i) ahead_run.entry

          run_instance : it ≡ ahead_run.child.instance
          run_instance = (fine_parts (sym g ∙ run_child)).1

          run_type : k ≡ ahead_run.child.type
          run_type = (fine_parts (sym g ∙ run_child)).0

          run_before : ahead_run.child.type < row
          run_before = omega (arith, ahead_run.fits.before, at_run.fits.count)

          run_component : d ≡ (definition_of (known text t e) ahead_run.child.type).component
          run_component = m ∙ ap (component_in t) run_type ∙ (ready_is_row text t e ahead_run.child.type ready (omega (arith, run_before, low))).component

          run_sound : instance_fault (kind_of d) it ≡ Accepted
          run_sound =
              let u : definition_of at_run.fits.before ahead_run.child.type ≡ definition_of (known text t e) ahead_run.child.type = at_run.fits.rows ahead_run.child.type run_before in
              let z : (definition_of at_run.fits.before ahead_run.child.type).component ≡ d = ap (λ (q : Definition). q.component) u ∙ sym run_component in
              ap (instance_fault (kind_of d)) run_instance
              ∙ ap (λ (q : Component). instance_fault (kind_of q) ahead_run.child.instance) (sym z) ∙ ahead_run.fits.sound

          run-placed : a ≡ placement (definition_of (known text t e) ahead_run.child.type).component next ahead_run.child.instance
          run-placed = b ∙ placed-sound d next it run_sound ∙ ap (λ (q : Component). placement q next it) run_component ∙ ap (placement (definition_of (known text t e) ahead_run.child.type).component next) run_instance

        pub runs_next : {f2 l2 : List ℕ} {j1 : ℕ} {up : BitPlace} → RunWrites f1 f2 l1 l2 j (with_field (bytes_in text it.name) a []) j1 → up ≡ bit_above a next
            → RunWriting text t row f f2 l l2 first to (i + 1) up j1
        runs_next {f2} {l2} {j1} {up} w z =
            record {
              bits = let q = above_low a next (rw b (placed_top d next it)) in let v : up.0 ≡ (bit_above a next).0 = ap (λ (b : BitPlace). b.0) z in omega (arith, q, v, s.bits, h);
              few = omega (arith, w.next, with_few (bytes_in text it.name) a, s.few, h);
              fields = run_fields_lem w ∙ s.fields;
              labels = run_labels w ∙ s.labels;
              each = λ e ready low.
                  let v : Running text t e row f f1 l l1 first to i next j = at_run e ready low in
                  let ahead : Ahead text t v.fits.before (definition_of (known text t e) row).component i v.rest = ahead_run e ready low in
                  let table : List Definition = known text t e in
                  let name : List ℕ = bytes_in text it.name in
                  let left : List Field = row_fields text table (bit_above a next) ahead.others in
                  let q : row_fields text table next v.rest ≡ with_field name a [] ++ left =
                  ap (row_fields text table next) ahead.whole ∙ fields_more text table next ahead.child ahead.others (run-placed e ready low)
                  ∙ ap (λ (c : Instance). with_field (bytes_in text c.name) a [] ++ left) (sym (run_instance e ready low)) in
                  record {
                    fits = v.fits;
                    rest = ahead.others;
                    block = ahead.block;
                    until = let k : length v.rest ≡ suc (length ahead.others) = ap length ahead.whole in omega (arith, k, v.until);
                    children = ahead.children;
                    done = v.done ++ with_field name a [];
                    wrote = run_more first v.wrote w;
                    same =
                        append_assoc v.done (with_field name a []) (row_fields text table up ahead.others)
                        ∙ ap (λ (b : BitPlace). v.done ++ (with_field name a [] ++ row_fields text table b ahead.others)) z
                        ∙ ap (λ (fs : List Field). v.done ++ fs) (sym q) ∙ v.same;
                  };
            }
