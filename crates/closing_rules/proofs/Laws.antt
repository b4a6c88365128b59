-- Laws of what is judged at a closing brace, in the form that the proofs use.
use mathlib.Core.Bool.{Bool, true, false, ◌||◌}
use mathlib.Core.Path.{◌≡◌, refl, sym, ap, ◌∙◌}
use mathlib.Core.List.{List, [], ◌∷◌, ◌++◌, append_assoc, append-nil}
use Prim.Native.Nat.{ℕ, suc, ◌+◌, ◌-◌, ◌*◌, ◌<◌, ◌≤◌}
use native.Mathlib.Numerals.{add-one}
use native.Mathlib.Omega.{arith}
use lib.Dec.{eqb}
use borrow.Author.Tests.{eq-eqb, ne_eqb}
use Rattle.chars.proofs.Laws.{or_false}
use Rattle.parts.specs.declared.Kind.TheVariants as kind
use Rattle.parts.specs.declared.Instance.{Instance}
use Rattle.basics.specs.Limits.{sum_bound}
use Rattle.suffixes.specs.Suffixes.{instance_fault}
use Rattle.components.specs.Components.{kind_of}
use Rattle.components.specs.Fields.{field_at}
use Rattle.fields.specs.declared.BitPlace.{BitPlace}
use Rattle.fields.specs.declared.FieldAt.{FieldAt}
use Rattle.fields.specs.declared.Register.{Register}
use Rattle.components.specs.declared.Component.{Component}
use Rattle.components.specs.declared.Component.TheVariants as component
use Rattle.fields.specs.declared.Probe.{Probe}
use Rattle.fields.specs.declared.Probe.TheVariants.{Wide, Outside, Span}
use Rattle.components.proofs.Laws.{sound_high}
use Rattle.basics.specs.Slices.{cell_of}
use Rattle.cells.specs.Cells.{entry_places, component_in}
use Rattle.cells.specs.Decoded.{child_in}
use Rattle.cells.proofs.Laws.{child_entry}
use Rattle.cells.specs.Definitions.{Child, Definition, definition_of}
use Rattle.cells.specs.Relation.{IsEntry}
use Rattle.closing_rules.specs.declared.Broken.{Broken}
use Rattle.closing_rules.specs.Registers.{placement, bit_above, with_placed, fields_from, first_bit, some, overlaps, is_empty, closing_fault}
use Rattle.closing_rules.specs.Decoded.{unless_broken, placed_as, placed_read, placed_in, fields_in_cells, fields_between, top_of, breaks_in, broken_by, broken_with, overlaps_earlier, closing_in}
use Rattle.closing_rules.specs.Relation.{HeldBetween, stored_end, stored_on}
use Rattle.closing_rules.proofs.Overlaps.{overlaps_last, overlaps_kept}
use Rattle.basics.specs.Judged.{Verdict, Accepted, Refused, Judged, fine, fault}
use Rattle.std.specs.Prelude.{Option, Some, None}

-- a field ends within 64 bits
pub placed_top : (d : Component) (next : BitPlace) (i : Instance) → top_of (placed_as d next i) ≤ next.0 + 63
unfolding placed_as field_at
placed_top (component.Field f) next i = by (instance_fault kind.Field i) refl
  where
    by : (e : Verdict) → instance_fault kind.Field i ≡ e → top_of (unless_broken e (field_at next i f)) ≤ next.0 + 63
    by Accepted q = sound_high next i q
    by (Refused n p) q = omega arith
placed_top (component.Register r) next i = omega arith
placed_top (component.Regfile a) next i = omega arith
placed_top (component.Addrmap a m) next i = omega arith

read_top : (t : List ℕ) (next : BitPlace) (r : Judged (ℕ × Instance)) → top_of (placed_read t next r) ≤ next.0 + 63
read_top t next (fine (row, i)) = placed_top (component_in t row) next i
read_top t next (fault n p) = omega arith

-- an instance with sound suffixes
pub placed-sound : (d : Component) (next : BitPlace) (i : Instance) → instance_fault (kind_of d) i ≡ Accepted → placed_as d next i ≡ placement d next i
unfolding placed_as
placed-sound (component.Field f) next i e = rw e
placed-sound (component.Register r) next i e = refl
placed-sound (component.Regfile a) next i e = refl
placed-sound (component.Addrmap a m) next i e = refl

-- the instance of a cell
module _ (text t : List ℕ) (x : ℕ) (next : BitPlace) where
  cell_top : top_of (placed_in text t next x) ≤ next.0 + 63
  unfolding placed_in
  cell_top = read_top t next (child_in text x)

  cell_sound : {c : Child} {d : Component} → IsEntry text x c → component_in t c.type ≡ d → instance_fault (kind_of d) c.instance ≡ Accepted → placed_in text t next x ≡ placement d next c.instance
  unfolding placed_in
  cell_sound {c} {d} k g s = rw (child_entry text x k, g) (placed-sound d next c.instance s)

-- where the next field starts
above_fits : (p : Option FieldAt) (next : BitPlace) {to i : ℕ} → i < to → top_of p ≤ next.0 + 63 → next.0 + 64 * (to - i) < sum_bound → (bit_above p next).0 + 64 * (to - (i + 1)) < sum_bound
above_fits (Some f) next h m l = omega arith
above_fits None next h m l = omega arith

-- what is asked of the fields, with one more before them
some_here : (probe : Probe) (p : Option FieldAt) (fs : List FieldAt) → breaks_in probe p ≡ true → true ≡ some probe (with_placed p fs)
unfolding some
some_here probe (Some f) fs e = rw e
some_here probe None fs e = cc

some_next : (probe : Probe) (p : Option FieldAt) (fs : List FieldAt) → breaks_in probe p ≡ false → some probe (with_placed p fs) ≡ some probe fs
unfolding some
some_next probe (Some f) fs e = rw e
some_next probe None fs e = refl

-- fields with one more behind them
placed_last : (fs : List FieldAt) (p : Option FieldAt) (gs : List FieldAt) → fs ++ with_placed p gs ≡ (fs ++ with_placed p []) ++ gs
placed_last fs (Some f) gs = sym (append_assoc fs (f ∷ []) gs)
placed_last fs None gs = rw (append-nil fs)

overlap_last : (fs : List FieldAt) (p : Option FieldAt) {b : Bool} → b ≡ overlaps_earlier p fs → overlaps fs ≡ false → overlaps (fs ++ with_placed p []) ≡ b
overlap_last fs (Some f) e h = overlaps_last fs f ∙ (rw (h, e))
overlap_last fs None e h = rw (append-nil fs, e) h

-- the field of the first cell, with those behind it
fields_on : (text t : List ℕ) (next : BitPlace) (i to : ℕ) {p : Option FieldAt} → i < to → p ≡ placed_in text t next (cell_of t i)
    → fields_in_cells text t next i (to - i) ≡ with_placed p (fields_in_cells text t (bit_above p next) (i + 1) (to - (i + 1)))
unfolding fields_in_cells
fields_on text t next i to h f =
    let n : to - i ≡ suc (to - (i + 1)) = omega arith in
    let m : i + 1 ≡ suc i = add-one i in
    rw (n, m, f)

pub fields_none : (text t : List ℕ) (next : BitPlace) (i to : ℕ) → to ≤ i → fields_in_cells text t next i (to - i) ≡ []
unfolding fields_in_cells
fields_none text t next i to h = let n : to - i ≡ 0 = omega arith in rw n

-- what is asked of the fields that are left is what is asked of all
pub record Asking (text t : List ℕ) (from to : ℕ) (first : BitPlace) (probe : Probe) (i : ℕ) (next : BitPlace) : Type 0 where
  pub low : next.0 + 64 * (to - i) < sum_bound
  pub same : some probe (fields_in_cells text t next i (to - i)) ≡ some probe (fields_in_cells text t first from (to - from))

-- whether some field breaks a rule
module _ (text t : List ℕ) (from to : ℕ) (first : BitPlace) (probe : Probe) where
  pub ask_start : first.0 + 64 * (to - from) < sum_bound → Asking text t from to first probe from first
  ask_start h = record { low = h; same = refl }

module _ (text t : List ℕ) (from to : ℕ) (first : BitPlace) (probe : Probe) {i : ℕ} {next : BitPlace} (s : Asking text t from to first probe i next) where
  pub next_fits : next.0 < sum_bound
  next_fits = let l = s.low in omega arith

  pub top_fits : {p : Option FieldAt} → i < to → p ≡ placed_in text t next (cell_of t i) → top_of p < sum_bound
  top_fits h f = let l = s.low in let m = cell_top text t (cell_of t i) next in rw f (omega arith)

  pub find_end : to ≤ i → false ≡ some probe (fields_in_cells text t first from (to - from))
  unfolding some
  find_end h = rw (fields_none text t next i to h) at s.same

  module _ {p : Option FieldAt} {b : Bool} (h : i < to) (f : p ≡ placed_in text t next (cell_of t i)) (g : b ≡ breaks_in probe p) where
    abbrev later : List FieldAt
    later = fields_in_cells text t (bit_above p next) (i + 1) (to - (i + 1))

    pub find_here : b ≡ true → true ≡ some probe (fields_in_cells text t first from (to - from))
    find_here y = some_here probe p later (sym g ∙ y) ∙ (rw (fields_on text t next i to h f) at s.same)

    pub find_on : {n : BitPlace} → b ≡ false → n ≡ bit_above p next → Asking text t from to first probe (i + 1) n
    find_on y z =
        record {
          low = rw z (above_fits p next h (rw f (cell_top text t (cell_of t i) next)) s.low);
          same = rw z (sym (some_next probe p later (sym g ∙ y)) ∙ (rw (fields_on text t next i to h f) at s.same));
        }

-- what some field breaks, so far or among those that are left, is what some of all breaks
some_with : (probe : Probe) (p : Option FieldAt) (fs : List FieldAt) → some probe (with_placed p fs) ≡ (breaks_in probe p || some probe fs)
unfolding some
some_with probe (Some f) fs = refl
some_with probe None fs = refl

or_moved : (a b c : Bool) → ((a || b) || c) ≡ (a || (b || c))
or_moved true b c = refl
or_moved false b c = refl

pub record Breaking (text t : List ℕ) (from to : ℕ) (reg : Register) (i : ℕ) (next : BitPlace) (b : Broken) : Type 0 where
  pub low : next.0 + 64 * (to - i) < sum_bound
  pub wide : (b.wide || some Wide (fields_in_cells text t next i (to - i))) ≡ some Wide (fields_between text t from to)
  pub outside : (b.outside || some (Outside reg.width) (fields_in_cells text t next i (to - i))) ≡ some (Outside reg.width) (fields_between text t from to)
  pub split : (b.split || some (Span reg.access) (fields_in_cells text t next i (to - i))) ≡ some (Span reg.access) (fields_between text t from to)

module _ (text t : List ℕ) (from to : ℕ) (reg : Register) where
  pub break_start : to ≤ entry_places → Breaking text t from to reg from first_bit (record { wide = false; outside = false; split = false })
  break_start h = record { low = omega arith; wide = refl; outside = refl; split = refl }

  module _ {i : ℕ} {next : BitPlace} {b : Broken} (s : Breaking text t from to reg i next b) where
    pub break_fits : next.0 < sum_bound
    break_fits = let l = s.low in omega arith

    pub break_top : {p : Option FieldAt} → i < to → p ≡ placed_in text t next (cell_of t i) → top_of p < sum_bound
    break_top h f = let l = s.low in let m = cell_top text t (cell_of t i) next in rw f (omega arith)

    flag_end : (a : Bool) (probe : Probe) → to ≤ i → (a || some probe (fields_in_cells text t next i (to - i))) ≡ some probe (fields_between text t from to) → a ≡ some probe (fields_between text t from to)
    unfolding some
    flag_end a probe h e = sym (or_false a) ∙ (rw (fields_none text t next i to h) at e)

    pub break_end : to ≤ i → b ≡ broken_by reg (fields_between text t from to)
    break_end h =
        let w = flag_end b.wide Wide h s.wide in
        let o = flag_end b.outside (Outside reg.width) h s.outside in
        let p = flag_end b.split (Span reg.access) h s.split in
        rw (← w, ← o, ← p)

    module _ {p : Option FieldAt} (h : i < to) (f : p ≡ placed_in text t next (cell_of t i)) where
      flag_on : (a : Bool) (probe : Probe) → (a || some probe (fields_in_cells text t next i (to - i))) ≡ some probe (fields_between text t from to)
          → ((a || breaks_in probe p) || some probe (fields_in_cells text t (bit_above p next) (i + 1) (to - (i + 1)))) ≡ some probe (fields_between text t from to)
      flag_on a probe e =
          let later : List FieldAt = fields_in_cells text t (bit_above p next) (i + 1) (to - (i + 1)) in
          or_moved a (breaks_in probe p) (some probe later) ∙ ap (λ x. a || x) (sym (some_with probe p later)) ∙ (rw (fields_on text t next i to h f) at e)

      pub break_on : {c : Broken} {n : BitPlace} → c ≡ broken_with b reg p → n ≡ bit_above p next → Breaking text t from to reg (i + 1) n c
      break_on y z =
          rw (y, z)
          (record {
            low = above_fits p next h (rw f (cell_top text t (cell_of t i) next)) s.low;
            wide = flag_on b.wide Wide s.wide;
            outside = flag_on b.outside (Outside reg.width) s.outside;
            split = flag_on b.split (Span reg.access) s.split;
          })

-- of the fields that are passed none overlaps another, and those that are left stand behind them
pub record Passing (text t : List ℕ) (from to i : ℕ) (next : BitPlace) : Type 0 where
  pub low : next.0 + 64 * (to - i) < sum_bound
  pub begun : from ≤ i
  pub reached : i - from ≤ to - from
  pub split : (n : ℕ) → fields_in_cells text t first_bit from (i - from + n) ≡ fields_between text t from i ++ fields_in_cells text t next i n
  pub apart : overlaps (fields_between text t from i) ≡ false

-- whether some field overlaps an earlier one
module _ (text t : List ℕ) (from to : ℕ) where
  pub pass_start : to ≤ entry_places → Passing text t from to from first_bit
  unfolding fields_in_cells overlaps
  pass_start h =
      let z : from - from ≡ 0 = omega arith in
      record { low = omega arith; begun = omega arith; reached = omega arith; split = λ n. let m : 0 + n ≡ n = omega arith in rw (z, m); apart = rw z }

  module _ {i : ℕ} {next : BitPlace} (s : Passing text t from to i next) where
    pub pass_fits : next.0 < sum_bound
    pass_fits = let l = s.low in omega arith

    pub pass_top : {p : Option FieldAt} → i < to → p ≡ placed_in text t next (cell_of t i) → top_of p < sum_bound
    pass_top h f = let l = s.low in let m = cell_top text t (cell_of t i) next in rw f (omega arith)

    pub overlap_end : to ≤ i → false ≡ overlaps (fields_between text t from to)
    overlap_end h = let a = s.reached in let b = s.begun in let z : to - from ≡ i - from = omega arith in rw z (sym s.apart)

    module _ {p : Option FieldAt} {b : Bool} (h : i < to) (f : p ≡ placed_in text t next (cell_of t i)) (g : b ≡ overlaps_earlier p (fields_between text t from i)) where
      -- the fields with so many behind this one
      fields_more : (n : ℕ) → fields_in_cells text t first_bit from (i + 1 - from + n) ≡ (fields_between text t from i ++ with_placed p []) ++ fields_in_cells text t (bit_above p next) (i + 1) n
      unfolding fields_in_cells
      fields_more n =
          let a = s.begun in
          let z : i + 1 - from + n ≡ i - from + suc n = omega arith in
          let m : i + 1 ≡ suc i = add-one i in
          let q : Option FieldAt = placed_in text t next (cell_of t i) in
          rw (z, s.split (suc n), m, f) (placed_last (fields_between text t from i) q (fields_in_cells text t (bit_above q next) (suc i) n))

      pub fields_last : fields_between text t from (i + 1) ≡ fields_between text t from i ++ with_placed p []
      unfolding fields_in_cells
      fields_last =
          let z : i + 1 - from + 0 ≡ i + 1 - from = omega arith in
          (rw z at (fields_more 0)) ∙ append-nil (fields_between text t from i ++ with_placed p [])

      pub overlap_here : b ≡ true → true ≡ overlaps (fields_between text t from to)
      overlap_here y =
          let a = s.begun in
          let z : to - from ≡ i + 1 - from + (to - (i + 1)) = omega arith in
          let w = overlap_last (fields_between text t from i) p g s.apart ∙ y in
          let rest = fields_in_cells text t (bit_above p next) (i + 1) (to - (i + 1)) in
          rw (z, fields_more (to - (i + 1))) (sym (overlaps_kept (fields_between text t from i ++ with_placed p []) rest w))

      pub overlap_on : {n : BitPlace} → b ≡ false → n ≡ bit_above p next → Passing text t from to (i + 1) n
      overlap_on y z =
          let a = s.begun in
          record {
            low = rw z (above_fits p next h (rw f (cell_top text t (cell_of t i) next)) s.low);
            begun = omega arith;
            reached = omega arith;
            split = λ k. rw (z, fields_last) (fields_more k);
            apart = rw fields_last (overlap_last (fields_between text t from i) p g s.apart ∙ y);
          }

-- the fields of the instances that stand in cells are those that the cells decode to
stored_fields_lem : {text t : List ℕ} {table : List Definition} {to i : ℕ} {cs : List Child} (next : BitPlace) → HeldBetween text t table to i cs → fields_in_cells text t next i (to - i) ≡ fields_from table next cs
unfolding fields_in_cells fields_from
stored_fields_lem {text = text} {t = t} {to = to} next stored_end = fields_none text t next to to (omega arith)
stored_fields_lem {text = text} {t = t} {table = table} {to = to} next (stored_on {i = i} {c = c} l k g s r) =
    let n : to - i ≡ suc (to - suc i) = omega arith in
    let p = placement (definition_of table c.type).component next c.instance in
    rw (n, cell_sound text t (cell_of t i) next k g s, stored_fields_lem (bit_above p next) r)

-- there is no cell exactly where there is no instance
missing_at : {text t : List ℕ} {table : List Definition} (to i : ℕ) {cs : List Child} → HeldBetween text t table to i cs → eqb i to ≡ is_empty cs
missing_at to i stored_end = eq-eqb to to refl
missing_at to i (stored_on l k g s r) = ne_eqb i to (λ e. omega arith)

-- a body's instances at its closing brace
pub stored_closing : {text t : List ℕ} {table : List Definition} {to from : ℕ} {cs : List Child} (d : Component) → HeldBetween text t table to from cs → closing_in text t from to d ≡ closing_fault table d cs
unfolding closing_in closing_fault
stored_closing (component.Field f) s = refl
stored_closing {to = to} {from = from} (component.Register r) s = rw (missing_at to from s, stored_fields_lem first_bit s)
stored_closing {to = to} {from = from} (component.Regfile a) s = rw (missing_at to from s)
stored_closing {to = to} {from = from} (component.Addrmap a m) s = rw (missing_at to from s)
