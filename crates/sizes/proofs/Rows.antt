-- The shapes of sensible definitions: each is made of those before it, and none but a field's is empty.
use mathlib.Core.Bool.{Bool, true, false, ◌||◌}
use mathlib.Core.Path.{◌≡◌, refl, sym, ◌∙◌}
use mathlib.Core.List.{List, [], ◌∷◌, ◌++◌}
use Prim.Native.Nat.{ℕ, ◌+◌, ◌<◌, ◌≤◌}
use native.Mathlib.Omega.{arith}
use lib.Dec.{eqb, ltb}
use lib.ListN.{length}
use borrow.Author.Tests.{ltb-true, ltb-false, eqb-true}
use Rattle.std.specs.Prelude.{if◌then◌else◌, Option, Some}
use Rattle.parts.specs.declared.Kind.{Kind}
use Rattle.parts.specs.declared.Kind.TheVariants as kind
use Rattle.parts.specs.declared.Instance.{Instance}
use Rattle.fields.specs.Codes.{is_width}
use Rattle.property_values.specs.Settings.{is_field, is_power_to, is_alignment}
use Rattle.basics.specs.Given.{or_else}
use Rattle.components.specs.Components.{kind_of}
use Rattle.fields.specs.declared.Offset.{Offset}
use Rattle.components.specs.declared.Component.{Component}
use Rattle.cells.specs.Definitions.{Child, Definition, no_definition, definition_of}
use Rattle.closing_rules.specs.Registers.{is_empty, closing_fault}
use Rattle.scopes.specs.Places.{may_hold}
use Rattle.rules.proofs.Instances.{length_more}
use Rattle.rules.proofs.Closing.{get_or_before, get_or_last}
use Rattle.definition_laws.specs.Sensible.{AlignmentFits, no_alignment, alignment, ValuesFit, field_fits, register_fits, regfile_fits, map-fits, ChildFits, ChildrenFit, children_none, children_more, DefinitionFits, Sensible, sensible_none, sensible_more}
use Rattle.capped.specs.Offsets.{larger}
use Rattle.capped.proofs.Laws.{cut_bound, cut_positive}
use Rattle.layout.specs.Layout.{span_of, laid, bottom, no_shape, shape_at, laid_from, highest_end, largest_access, group_shape, shape_of, shapes_from, cut_shape}
use Rattle.layout.specs.Fitting.{Layable}
use Rattle.layout.specs.declared.Shape.{Shape}
use Rattle.sizes.specs.Shapes.{GroupOf, of_regfile, of_map}

-- the shapes of definitions with one more behind them
pub shapes_more : (m : ℕ) (shapes : List Shape) (ds : List Definition) (d : Definition)
    → shapes_from m shapes (ds ++ (d ∷ [])) ≡ shapes_from m shapes ds ++ (shape_of m (shapes_from m shapes ds) d.component d.instances ∷ [])
unfolding shapes_from
shapes_more m shapes [] d = refl
shapes_more m shapes (x ∷ ds) d = shapes_more m (shapes ++ (shape_of m shapes x.component x.instances ∷ [])) ds d

pub shapes_length : (m : ℕ) (shapes : List Shape) (ds : List Definition) → length (shapes_from m shapes ds) ≡ length shapes + length ds
unfolding shapes_from
shapes_length m shapes [] = omega arith
shapes_length m shapes (d ∷ ds) =
    let s : Shape = shape_of m shapes d.component d.instances in
    omega (arith, shapes_length m (shapes ++ (s ∷ [])) ds, length_more shapes s)

module _ (m : ℕ) (table : List Definition) (d : Definition) where
  earlier_shape : (r : ℕ) → r < length table → shape_at (shapes_from m [] (table ++ (d ∷ []))) r ≡ shape_at (shapes_from m [] table) r
  earlier_shape r l =
      rw (shapes_more m [] table d) (get_or_before (shapes_from m [] table) (shape_of m (shapes_from m [] table) d.component d.instances) no_shape r (omega (arith, l, shapes_length m [] table)))

  last_shape : (r : ℕ) → r ≡ length table → shape_at (shapes_from m [] (table ++ (d ∷ []))) r ≡ shape_of m (shapes_from m [] table) d.component d.instances
  last_shape r e =
      let z : r ≡ length (shapes_from m [] table) = omega (arith, e, shapes_length m [] table) in
      rw (z, shapes_more m [] table d) (get_or_last (shapes_from m [] table) (shape_of m (shapes_from m [] table) d.component d.instances) no_shape)

  earlier_definition : (r : ℕ) → r < length table → definition_of (table ++ (d ∷ [])) r ≡ definition_of table r
  earlier_definition r l = get_or_before table d no_definition r l

  last_definition : (r : ℕ) → r ≡ length table → definition_of (table ++ (d ∷ [])) r ≡ d
  last_definition r e = rw e (get_or_last table d no_definition)

-- a definition of a row, with those before it: its shape is made of theirs
pub record RowFits (m : ℕ) (t : List Definition) (row : ℕ) : Type 0 where
  pub before : List Definition
  pub sensible : Sensible before
  pub count : length before ≡ row
  pub fits : DefinitionFits before (definition_of t row)
  pub rows : (r : ℕ) → r < row → definition_of before r ≡ definition_of t r
  pub same : (r : ℕ) → r < row → shape_at (shapes_from m [] before) r ≡ shape_at (shapes_from m [] t) r
  pub shape : shape_at (shapes_from m [] t) row ≡ shape_of m (shapes_from m [] before) (definition_of t row).component (definition_of t row).instances

row_last : (m : ℕ) (table : List Definition) (d : Definition) (row : ℕ) → row ≡ length table → Sensible table → DefinitionFits table d → RowFits m (table ++ (d ∷ [])) row
row_last m table d row e s f =
    let z : definition_of (table ++ (d ∷ [])) row ≡ d = last_definition m table d row e in
    record {
      before = table;
      sensible = s;
      count = sym e;
      fits = rw z f;
      rows = λ r l. sym (earlier_definition m table d r (rw e at l));
      same = λ r l. sym (earlier_shape m table d r (rw e at l));
      shape = rw z (last_shape m table d row e);
    }

row_earlier : (m : ℕ) (table : List Definition) (d : Definition) (row : ℕ) → row < length table → RowFits m table row → RowFits m (table ++ (d ∷ [])) row
row_earlier m table d row l f =
    let z : definition_of (table ++ (d ∷ [])) row ≡ definition_of table row = earlier_definition m table d row l in
    record {
      before = f.before;
      sensible = f.sensible;
      count = f.count;
      fits = rw z f.fits;
      rows = λ r k. f.rows r k ∙ sym (earlier_definition m table d r (omega (arith, k, l)));
      same = λ r k. f.same r k ∙ sym (earlier_shape m table d r (omega (arith, k, l)));
      shape = rw z (earlier_shape m table d row l ∙ f.shape);
    }

pub row_fits : (m : ℕ) {t : List Definition} → Sensible t → (row : ℕ) → row < length t → RowFits m t row
row_fits m sensible_none row l = absurd (omega arith)
row_fits m (sensible_more {table = table} {d = d} s f) row l = by (ltb row (length table)) refl (λ k. row_fits m s row k)
  where
    by : (b : Bool) → ltb row (length table) ≡ b → (row < length table → RowFits m table row) → RowFits m (table ++ (d ∷ [])) row
    by true e h = row_earlier m table d row (ltb-true row (length table) e) (h (ltb-true row (length table) e))
    by false e h = row_last m table d row (omega (arith, l, length_more table d, ltb-false row (length table) e)) s f

-- a size and an access width of one byte at least
pub record Positive (s : Shape) : Type 0 where
  pub size : 1 ≤ s.size
  pub access : 1 ≤ s.access

pub width_range : (n : ℕ) → is_width n ≡ true → (8 ≤ n) × (n ≤ 64)
unfolding is_width
width_range n t = by (eqb n 8) (eqb n 16) (eqb n 32) (eqb n 64) refl refl refl refl t
  where
    by : (a b c d : Bool) → eqb n 8 ≡ a → eqb n 16 ≡ b → eqb n 32 ≡ c → eqb n 64 ≡ d → (a || (b || (c || d))) ≡ true → (8 ≤ n) × (n ≤ 64)
    by true b c d e f g h t = let z : n ≡ 8 = eqb-true n 8 e in (omega arith, omega arith)
    by false true c d e f g h t = let z : n ≡ 16 = eqb-true n 16 f in (omega arith, omega arith)
    by false false true d e f g h t = let z : n ≡ 32 = eqb-true n 32 g in (omega arith, omega arith)
    by false false false true e f g h t = let z : n ≡ 64 = eqb-true n 64 h in (omega arith, omega arith)
    by false false false false e f g h t = absurd cc

larger-reaches : (x y : ℕ) → x ≤ larger x y
larger-reaches x y = omega arith

pub laid-reaches : (m : ℕ) (a : Option ℕ) (s : Shape) (i : Instance) (end : Offset) → s.size ≤ (laid m a s i end).end.0
unfolding laid span_of
laid-reaches m a s i end = omega arith

-- what may stand in a regfile or a map is no field
pub held_addressed : {h : Component} {a : Option ℕ} → GroupOf h a → (k : Kind) → may_hold (Some (kind_of h)) k ≡ true → is_field k ≡ false
unfolding may_hold
held_addressed of_regfile kind.Addrmap e = refl
held_addressed of_regfile kind.Regfile e = refl
held_addressed of_regfile kind.Reg e = refl
held_addressed of_regfile kind.Field e = absurd cc
held_addressed of_map kind.Addrmap e = refl
held_addressed of_map kind.Regfile e = refl
held_addressed of_map kind.Reg e = refl
held_addressed of_map kind.Field e = absurd cc

-- the shape of a body that holds something
module _ (m : ℕ) (table : List Definition) (p : (r : ℕ) → r < length table → is_field (kind_of (definition_of table r).component) ≡ false → Positive (shape_at (shapes_from m [] table) r)) where
  group_positive : {h : Component} {a : Option ℕ} {cs : List Child} → GroupOf h a → ChildrenFit table h cs → is_empty cs ≡ false → Positive (group_shape m a (shapes_from m [] table) cs)
  unfolding laid_from highest_end largest_access
  group_positive g children_none e = absurd cc
  group_positive {a = a} g (children_more {c = c} {cs = cs} x xs) e =
      let shapes : List Shape = shapes_from m [] table in
      let s : Shape = shape_at shapes c.type in
      let q : Positive s = p c.type x.before (held_addressed g (kind_of (definition_of table c.type).component) x.held) in
      let end : Offset = (laid m a s c.instance bottom).end in
      record {
        size = omega (arith, q.size, laid-reaches m a s c.instance bottom, larger-reaches end.0 (highest_end (laid_from m a shapes end cs)).0);
        access = omega (arith, q.access, larger-reaches s.access (largest_access shapes cs));
      }

-- "Every body but a field's needs at least one instance"
some_held : (b : Bool) {n : ℕ} → n ≡ (if b then 10 else 0) → n ≡ 0 → b ≡ false
some_held true e f = absurd (omega arith)
some_held false e f = refl

module _ (m : ℕ) (table : List Definition) (p : (r : ℕ) → r < length table → is_field (kind_of (definition_of table r).component) ≡ false → Positive (shape_at (shapes_from m [] table) r)) where
  definition_positive : {c : Component} (cs : List Child) → ValuesFit c → ChildrenFit table c cs → closing_fault table c cs ≡ 0 → is_field (kind_of c) ≡ false → Positive (shape_of m (shapes_from m [] table) c cs)
  unfolding closing_fault
  definition_positive cs (field_fits a b c d) x e f = absurd cc
  definition_positive cs (register_fits {width = width} {access = access} a b) x e f =
      let w = width_range width a in
      let v = width_range access b in
      record { size = omega (arith, w); access = omega (arith, v) }
  definition_positive cs (regfile_fits a) x e f = group_positive m table p of_regfile x (some_held (is_empty cs) refl e)
  definition_positive cs (map-fits a b) x e f = group_positive m table p of_map x (some_held (is_empty cs) refl e)

pub shapes_positive : (m : ℕ) {t : List Definition} → Sensible t → (r : ℕ) → r < length t → is_field (kind_of (definition_of t r).component) ≡ false → Positive (shape_at (shapes_from m [] t) r)
shapes_positive m sensible_none r l f = absurd (omega arith)
shapes_positive m (sensible_more {table = table} {d = d} s fits) r l f = by (ltb r (length table)) refl (λ n k g. shapes_positive m s n k g)
  where
    by : (b : Bool) → ltb r (length table) ≡ b → ((n : ℕ) → n < length table → is_field (kind_of (definition_of table n).component) ≡ false → Positive (shape_at (shapes_from m [] table) n))
        → Positive (shape_at (shapes_from m [] (table ++ (d ∷ []))) r)
    by true e h =
        let z : r < length table = ltb-true r (length table) e in
        rw (earlier_shape m table d r z) (h r z (rw (earlier_definition m table d r z) at f))
    by false e h =
        let z : r ≡ length table = omega (arith, l, length_more table d, ltb-false r (length table) e) in
        rw (last_shape m table d r z)
        (definition_positive m table h d.instances fits.values fits.children fits.sound (rw (last_definition m table d r z) at f))

-- a body's own alignment, or 1
one_aligned : is_alignment 1 ≡ true
unfolding is_power_to
one_aligned = refl

given_aligned : {a : Option ℕ} → AlignmentFits a → is_alignment (or_else 1 a) ≡ true
given_aligned no_alignment = one_aligned
given_aligned (alignment e) = e

pub group_aligned : {h : Component} {a : Option ℕ} → GroupOf h a → ValuesFit h → is_alignment (or_else 1 a) ≡ true
group_aligned of_regfile (regfile_fits f) = given_aligned f
group_aligned of_map (map-fits f g) = given_aligned f

pub group_shape_lem : (m : ℕ) (shapes : List Shape) (cs : List Child) {h : Component} {a : Option ℕ} → GroupOf h a → shape_of m shapes h cs ≡ group_shape m a shapes cs
group_shape_lem m shapes cs of_regfile = refl
group_shape_lem m shapes cs of_map = refl

-- an instance in a regfile or a map: what `lay` asks for
module _ (m : ℕ) (table : List Definition) (h : Component) (c : Child) (s : Sensible table) {a : Option ℕ} (g : GroupOf h a) (x : ChildFits table h c) where
  pub child_addressed : is_field (kind_of (definition_of table c.type).component) ≡ false
  child_addressed = held_addressed g (kind_of (definition_of table c.type).component) x.held

  pub child_positive : Positive (shape_at (shapes_from m [] table) c.type)
  child_positive = shapes_positive m s c.type x.before child_addressed

  pub child_fitting : ValuesFit h → Layable a (cut_shape (shape_at (shapes_from m [] table) c.type)) c.instance
  child_fitting f =
      let k : Shape = shape_at (shapes_from m [] table) c.type in
      record {
        aligned = group_aligned g f;
        sized = (cut_positive k.size child_positive.size, cut_bound k.size);
        accessed = (cut_positive k.access child_positive.access, cut_bound k.access);
        kind = kind_of (definition_of table c.type).component;
        addressed = child_addressed;
        sound = x.sound;
      }
