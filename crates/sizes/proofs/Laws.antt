-- Laws of ready cells and of the shapes in cells, in the form that the proofs use.
use mathlib.Core.Bool.{true}
use mathlib.Core.Path.{◌≡◌, refl, sym, ap, ◌∙◌}
use mathlib.Core.List.{List, [], ◌∷◌, ◌++◌}
use mathlib.Core.Logic.{◌⊎◌, inl, inr}
use Prim.Native.Nat.{ℕ, zero, suc, ◌+◌, ◌*◌, ◌/◌, ◌<◌, ◌≤◌}
use native.Mathlib.Numerals.{add-one}
use native.Mathlib.Omega.{arith}
use lib.ListN.{length, set, get_or, take, drop, length-append, length-drop}
use lib.Seq.{length-take-le, take_all, take-suc, drop-cons, append_snoc, set_at, get_or-take}
use Rattle.basics.specs.Limits.{definition_limit}
use Rattle.parts.specs.declared.Instance.{Instance}
use Rattle.fields.specs.Codes.{is_width}
use Rattle.components.specs.Components.{kind_of}
use Rattle.fields.specs.declared.Offset.{Offset}
use Rattle.fields.specs.declared.FieldType.{FieldType}
use Rattle.fields.specs.declared.Register.{Register}
use Rattle.components.specs.declared.Component.{Component}
use Rattle.components.specs.declared.Component.TheVariants as component
use Rattle.basics.specs.Slices.{cell_of}
use Rattle.cells.specs.Cells.{entries_at, instance_room, component_in, first_in, count_in}
use Rattle.cells.specs.Decoded.{child_in}
use Rattle.cells.proofs.Laws.{child_entry}
use Rattle.cells.specs.Definitions.{Child, Definition, definition_of}
use Rattle.cells.specs.Relation.{IsEntry, Block, block_end, block_on, IsRow}
use Rattle.definition_laws.specs.Sensible.{ValuesFit, register_fits, ChildFits, ChildrenFit, children_more}
use Rattle.capped.specs.Offsets.{cap, cut, larger}
use Rattle.capped.proofs.Laws.{cut_bound, cut_low, cut_stays, cut-larger}
use Rattle.layout.specs.Layout.{laid, bottom, no_shape, shape_at, laid_from, highest_end, largest_access, group_shape, shape_of, shapes_from, cut_shape, cut_offset, cut_laid}
use Rattle.layout.specs.Fitting.{Layable}
use Rattle.layout.specs.declared.Shape.{Shape}
use Rattle.layout.specs.declared.Laid.{Laid}
use Rattle.layout.proofs.Laws.{cut-laid}
use Rattle.sizes.specs.declared.Extent.{Extent}
use Rattle.sizes.specs.Ready.{known, Ready}
use Rattle.sizes.specs.Shapes.{shape_width, shapes_size, shape_in, shape_cells, ShapesIn, GroupOf, of_regfile, of_map, GroupRow, all_shapes, ShapesBefore, RowShape}
use Rattle.sizes.proofs.Rows.{shapes_length, RowFits, row_fits, Positive, width_range, group_aligned, group_shape_lem, child_addressed, child_positive, child_fitting}
use Rattle.std.specs.Prelude.{Option}
use Rattle.basics.specs.Judged.{Judged, fine, fault}

-- the parts of two pairs that are the same
pub fine_parts : {A B : Type 0} {a x : A} {b y : B} → ◌≡◌ {A = Judged (A × B)} (fine (a, b)) (fine (x, y)) → (a ≡ x) × (b ≡ y)
fine_parts {A} {B} {a} {x} {b} {y} e =
    let p : ◌≡◌ {A = A × B} (a, b) (x, y) = cc in
    (ap (λ (q : A × B). q.0) p, ap (λ (q : A × B). q.1) p)

-- a row of ready cells
module _ (text t : List ℕ) (e : Extent) (row : ℕ) (ready : Ready text t e) (low : row < e.rows) where
  pub ready_is_row : IsRow text t instance_room row (definition_of (known text t e) row)
  ready_is_row = ready.holds.each row low

  -- its definition, with those before it
  pub ready_row : RowFits e.mode (known text t e) row
  ready_row = row_fits e.mode ready.sensible row (rw ready.holds.count low)

  -- its instances
  pub ready_block : Block text t (entries_at + first_in t row) (definition_of (known text t e) row).instances
  ready_block = ready_is_row.instances

  pub ready_count : count_in t row ≡ length (definition_of (known text t e) row).instances
  ready_count = ready_is_row.count

  pub ready_within : first_in t row + count_in t row ≤ instance_room
  ready_within = omega (arith, ready_is_row.within, ready_is_row.count)

  pub ready_low : row < definition_limit
  ready_low = omega (arith, ready.few, low)

  -- what `instances_of` asks for
  pub ready_span : (row < definition_limit) × (first_in t row + count_in t row ≤ instance_room)
  ready_span = (ready_low, ready_within)

-- one more, cut
larger-cut : (n x y : ℕ) → larger (larger n (cut x)) (cut y) ≡ larger n (cut (larger x y))
larger-cut n x y = omega (arith, cut-larger x y)

larger_none : (n : ℕ) → n ≡ larger n (cut 0)
larger_none n = omega (arith, cut_low 0)

larger_first : (n : ℕ) → larger 0 n ≡ n
larger_first n = omega arith

-- the shapes of the rows before one are those of its definition's table
stored_shape : (text t s : List ℕ) (e : Extent) (row : ℕ) (before : ShapesBefore text t s e row) (f : RowFits e.mode (known text t e) row) (r : ℕ) → r < row
    → shape_in s r ≡ cut_shape (shape_at (shapes_from e.mode [] f.before) r)
stored_shape text t s e row before f r l = before.stored.each r l ∙ ap cut_shape (before.each r l ∙ sym (f.same r l))

-- the instances of a body that are left to lay, behind the offset `behind`, whose cut is known
pub record Laying (text t s : List ℕ) (e : Extent) (row : ℕ) (a : Option ℕ) (to i : ℕ) (end : Offset) (size access : ℕ) : Type 0 where
  pub stored : ShapesBefore text t s e row
  pub fits : RowFits e.mode (known text t e) row
  pub group : GroupOf (definition_of (known text t e) row).component a
  pub rest : List Child
  pub block : Block text t i rest
  pub until : i + length rest ≡ to
  pub children : ChildrenFit fits.before (definition_of (known text t e) row).component rest
  pub behind : Offset
  pub cut_end : end ≡ cut_offset behind
  pub sized : larger size (cut (highest_end (laid_from e.mode a (shapes_from e.mode [] fits.before) behind rest)).0) ≡ cut (shape_at (all_shapes text t e) row).size
  pub accessed : larger access (cut (largest_access (shapes_from e.mode [] fits.before) rest)) ≡ cut (shape_at (all_shapes text t e) row).access

module _ (text t s : List ℕ) (e : Extent) (row : ℕ) (a : Option ℕ) where
  pub laying_start : {from to : ℕ} → Ready text t e → row < e.rows → ShapesBefore text t s e row → GroupRow t row a → from ≡ entries_at + first_in t row → to ≡ from + count_in t row
      → Laying text t s e row a to from (record { 0 = 0 }) 0 0
  laying_start {from} {to} ready low stored g p q =
      let f : RowFits e.mode (known text t e) row = ready_row text t e row ready low in
      let d : Definition = definition_of (known text t e) row in
      let k : GroupOf d.component a = rw (← (ready_is_row text t e row ready low).component) g in
      let shapes : List Shape = shapes_from e.mode [] f.before in
      let z : shape_at (all_shapes text t e) row ≡ group_shape e.mode a shapes d.instances = f.shape ∙ group_shape_lem e.mode shapes d.instances k in
      record {
        stored = stored;
        fits = f;
        group = k;
        rest = d.instances;
        block = rw p (ready_block text t e row ready low);
        until = omega (arith, q, ready_count text t e row ready low);
        children = f.fits.children;
        behind = bottom;
        cut_end = let w : cut 0 ≡ 0 = cut_low 0 (omega arith) in rw w;
        sized = larger_first (cut (highest_end (laid_from e.mode a shapes bottom d.instances)).0) ∙ ap (λ (s : Shape). cut s.size) (sym z);
        accessed = larger_first (cut (largest_access shapes d.instances)) ∙ ap (λ (s : Shape). cut s.access) (sym z);
      }

-- the first of the instances that are left
pub record Ahead (text t : List ℕ) (table : List Definition) (h : Component) (i : ℕ) (rest : List Child) : Type 0 where
  pub child : Child
  pub others : List Child
  pub whole : rest ≡ child ∷ others
  pub entry : IsEntry text (cell_of t i) child
  pub block : Block text t (i + 1) others
  pub fits : ChildFits table h child
  pub children : ChildrenFit table h others

pub ahead_of : {text t : List ℕ} {table : List Definition} {h : Component} {i to : ℕ} {rest : List Child} → i < to → i + length rest ≡ to → Block text t i rest → ChildrenFit table h rest → Ahead text t table h i rest
ahead_of l e block_end f = absurd (omega arith)
ahead_of l e (block_on {c = c} {cs = cs} x b) (children_more y f) =
    record { child = c; others = cs; whole = refl; entry = x; block = rw add-one b; fits = y; children = f }

pub none_left : {text t : List ℕ} {i to : ℕ} {rest : List Child} → to ≤ i → i + length rest ≡ to → Block text t i rest → rest ≡ []
none_left l e block_end = refl
none_left l e (block_on x b) = absurd (omega arith)

same_made : (m : ℕ) (a : Option ℕ) {s z : Shape} {i j : Instance} {end behind : Offset} → s ≡ z → i ≡ j → end ≡ behind → cut_laid (laid m a s i end) ≡ cut_laid (laid m a z j behind)
same_made m a p q r = rw (p, q, r)

-- one instance more, laid
module _ (m : ℕ) (a : Option ℕ) (shapes : List Shape) (end : Offset) (c : Child) (cs : List Child) where
  highest_more : (highest_end (laid_from m a shapes end (c ∷ cs))).0
      ≡ larger (laid m a (shape_at shapes c.type) c.instance end).end.0 (highest_end (laid_from m a shapes (laid m a (shape_at shapes c.type) c.instance end).end cs)).0
  unfolding laid_from highest_end
  highest_more = refl

  access_more : largest_access shapes (c ∷ cs) ≡ larger (shape_at shapes c.type).access (largest_access shapes cs)
  unfolding largest_access
  access_more = refl

highest_none : (m : ℕ) (a : Option ℕ) (shapes : List Shape) (end : Offset) → (highest_end (laid_from m a shapes end [])).0 ≡ 0
unfolding laid_from highest_end
highest_none m a shapes end = refl

access_none : (shapes : List Shape) → largest_access shapes [] ≡ 0
unfolding largest_access
access_none shapes = refl

module _ (text t s : List ℕ) (e : Extent) (row : ℕ) (a : Option ℕ) {to i : ℕ} {end : Offset} {size access : ℕ} (l : Laying text t s e row a to i end size access) where
  pub laying_end : to ≤ i → RowShape text t e row (record { size = size; access = access })
  laying_end h =
      let table : List Shape = shapes_from e.mode [] l.fits.before in
      let z : l.rest ≡ [] = none_left h l.until l.block in
      let p : (highest_end (laid_from e.mode a table l.behind l.rest)).0 ≡ 0 =
      ap (λ (cs : List Child). (highest_end (laid_from e.mode a table l.behind cs)).0) z ∙ highest_none e.mode a table l.behind in
      let q : largest_access table l.rest ≡ 0 = ap (largest_access table) z ∙ access_none table in
      let u : size ≡ cut (shape_at (all_shapes text t e) row).size = larger_none size ∙ ap (λ (n : ℕ). larger size (cut n)) (sym p) ∙ l.sized in
      let v : access ≡ cut (shape_at (all_shapes text t e) row).access = larger_none access ∙ ap (λ (n : ℕ). larger access (cut n)) (sym q) ∙ l.accessed in
      record { same = rw (u, v) }

  pub laying_low : end.0 ≤ cap
  laying_low = rw l.cut_end (cut_bound l.behind.0)

  module _ (h : i < to) where
    ahead : Ahead text t l.fits.before (definition_of (known text t e) row).component i l.rest
    ahead = ahead_of h l.until l.block l.children

    module _ {y : Judged (ℕ × Instance)} (r : y ≡ child_in text (cell_of t i)) where
      same_child : y ≡ fine (ahead.child.type, ahead.child.instance)
      same_child = r ∙ child_entry text (cell_of t i) ahead.entry

      pub laying_stop : {n q : ℕ} → y ≡ fault n q → RowShape text t e row (record { size = size; access = access })
      laying_stop f = absurd (let w = same_child in cc)

      module _ {it : Instance} {k : ℕ} {shape : Shape} (d : y ≡ fine (k, it)) (z : shape ≡ shape_in s k) where
        same_instance : it ≡ ahead.child.instance
        same_instance = (fine_parts (sym d ∙ same_child)).1

        same_type : k ≡ ahead.child.type
        same_type = (fine_parts (sym d ∙ same_child)).0

        same_shape : shape ≡ cut_shape (shape_at (shapes_from e.mode [] l.fits.before) ahead.child.type)
        same_shape =
            z ∙ ap (shape_in s) same_type
            ∙ stored_shape text t s e row l.stored l.fits ahead.child.type (omega (arith, ahead.fits.before, l.fits.count))

        pub laying_fits : Layable a shape it
        laying_fits =
            rw (same_shape, same_instance)
            (child_fitting e.mode l.fits.before (definition_of (known text t e) row).component ahead.child l.fits.sensible l.group ahead.fits l.fits.fits.values)

        module _ {u : Laid} (f : (u ≡ cut_laid (laid e.mode a shape it end)) × (u.end.0 ≤ cap)) where
          abbrev whole : Laid
          whole = laid e.mode a (shape_at (shapes_from e.mode [] l.fits.before) ahead.child.type) ahead.child.instance l.behind

          same_laid : u ≡ cut_laid whole
          same_laid =
              let g : Positive (shape_at (shapes_from e.mode [] l.fits.before) ahead.child.type) =
              child_positive e.mode l.fits.before (definition_of (known text t e) row).component ahead.child l.fits.sensible l.group ahead.fits in
              f.0 ∙ same_made e.mode a same_shape same_instance l.cut_end
              ∙ cut-laid e.mode a (shape_at (shapes_from e.mode [] l.fits.before) ahead.child.type) ahead.child.instance l.behind
              (group_aligned l.group l.fits.fits.values) g.size g.access (kind_of (definition_of l.fits.before ahead.child.type).component)
              (child_addressed e.mode l.fits.before (definition_of (known text t e) row).component ahead.child l.fits.sensible l.group ahead.fits) ahead.fits.sound

          pub laying_next : {v w : ℕ} → v ≡ larger size u.end.0 → w ≡ larger access shape.access → Laying text t s e row a to (i + 1) u.end v w
          laying_next {v} {w} g q =
              let table : List Shape = shapes_from e.mode [] l.fits.before in
              let own : Shape = shape_at table ahead.child.type in
              let other : ℕ = (highest_end (laid_from e.mode a table whole.end ahead.others)).0 in
              let b : v ≡ larger size (cut whole.end.0) = g ∙ ap (λ (n : Laid). larger size n.end.0) same_laid in
              let b' : w ≡ larger access (cut own.access) = q ∙ ap (λ (n : Shape). larger access n.access) same_shape in
              let m : (highest_end (laid_from e.mode a table l.behind l.rest)).0 ≡ larger whole.end.0 other =
              ap (λ (cs : List Child). (highest_end (laid_from e.mode a table l.behind cs)).0) ahead.whole ∙ highest_more e.mode a table l.behind ahead.child ahead.others in
              let m' : largest_access table l.rest ≡ larger own.access (largest_access table ahead.others) =
              ap (largest_access table) ahead.whole ∙ access_more e.mode a table l.behind ahead.child ahead.others in
              record {
                stored = l.stored;
                fits = l.fits;
                group = l.group;
                rest = ahead.others;
                block = ahead.block;
                until = let k : length l.rest ≡ suc (length ahead.others) = ap length ahead.whole in omega (arith, k, l.until);
                children = ahead.children;
                behind = whole.end;
                cut_end = ap (λ (n : Laid). n.end) same_laid;
                sized = ap (λ (n : ℕ). larger n (cut other)) b ∙ larger-cut size whole.end.0 other ∙ ap (λ (n : ℕ). larger size (cut n)) (sym m) ∙ l.sized;
                accessed =
                    ap (λ (n : ℕ). larger n (cut (largest_access table ahead.others))) b' ∙ larger-cut access own.access (largest_access table ahead.others)
                    ∙ ap (λ (n : ℕ). larger access (cut n)) (sym m') ∙ l.accessed;
              }

-- a row's shape by its component
shape_of_parts : {s : Shape} {x y : ℕ} → s.size ≡ x → s.access ≡ y → s ≡ record { size = x; access = y }
shape_of_parts p q = rw (← p, ← q)

cut_zero : 0 ≡ cut 0
cut_zero = cut_stays 0 (omega arith)

width_cut : (n : ℕ) → is_width n ≡ true → n / 8 ≡ cut (n / 8)
width_cut n w = cut_stays (n / 8) (omega (arith, width_range n w))

register_cut : {r : Register} → ValuesFit (component.Register r) → (r.width / 8 ≡ cut (r.width / 8)) × (r.access / 8 ≡ cut (r.access / 8))
register_cut (register_fits {width = width} {access = access} p q) = (width_cut width p, width_cut access q)

-- a row of a regfile or a map
pub group_row : (t : List ℕ) (row : ℕ) {c : Component} {a : Option ℕ} → c ≡ component_in t row
    → (c ≡ component.Regfile a) ⊎ ((m : Option ℕ) × (c ≡ component.Addrmap a m)) → GroupRow t row a
group_row t row g (inl f) = rw (← g, f) of_regfile
group_row t row g (inr (m, f)) = rw (← g, f) of_map

module _ (text t : List ℕ) (e : Extent) (row : ℕ) {c : Component} (g : c ≡ component_in t row) where
  module _ (ready : Ready text t e) (low : row < e.rows) where
    same_component : (definition_of (known text t e) row).component ≡ c
    same_component = sym (ready_is_row text t e row ready low).component ∙ sym g

    shape_by : {d : Component} → c ≡ d
        → shape_at (all_shapes text t e) row ≡ shape_of e.mode (shapes_from e.mode [] (ready_row text t e row ready low).before) d (definition_of (known text t e) row).instances
    shape_by {d} f =
        let r : RowFits e.mode (known text t e) row = ready_row text t e row ready low in
        let k : (definition_of (known text t e) row).component ≡ d = same_component ∙ f in
        r.shape ∙ ap (λ (d : Component). shape_of e.mode (shapes_from e.mode [] r.before) d (definition_of (known text t e) row).instances) k

    pub shape_field : {f : FieldType} → c ≡ component.Field f → RowShape text t e row (record { size = 0; access = 0 })
    shape_field f =
        let k : record { size = 0; access = 0 } ≡ cut_shape no_shape = rw (← cut_zero) in
        record { same = k ∙ ap cut_shape (sym (shape_by f)) }

    pub shape_register : {r : Register} {s : Shape} → c ≡ component.Register r → (s.size ≡ r.width / 8) × (s.access ≡ r.access / 8) → RowShape text t e row s
    shape_register {r} {s} f (p, q) =
        let k : (definition_of (known text t e) row).component ≡ component.Register r = same_component ∙ f in
        let w = register_cut {r = r} (rw k at (ready_row text t e row ready low).fits.values) in
        let a : s.size ≡ cut (r.width / 8) = p ∙ w.0 in
        let b : s.access ≡ cut (r.access / 8) = q ∙ w.1 in
        let z : s ≡ cut_shape (record { size = r.width / 8; access = r.access / 8 }) = shape_of_parts a b in
        record { same = z ∙ ap cut_shape (sym (shape_by f)) }

-- the cells of some shapes
cells_length : (shapes : List Shape) → length (shape_cells shapes) ≡ length shapes * shape_width
unfolding shape_cells
cells_length [] = refl
cells_length (s ∷ shapes) = omega (arith, cells_length shapes)

cells_more : (shapes : List Shape) (s : Shape) (rest : List ℕ) → shape_cells (shapes ++ (s ∷ [])) ++ rest ≡ shape_cells shapes ++ ((cut_shape s).size ∷ (cut_shape s).access ∷ rest)
unfolding shape_cells
cells_more [] s rest = refl
cells_more (x ∷ shapes) s rest = rw (cells_more shapes s rest)

cells_shape : (shapes : List Shape) (rest : List ℕ) (r : ℕ) → r < length shapes → shape_in (shape_cells shapes ++ rest) r ≡ cut_shape (shape_at shapes r)
unfolding shape_cells shape_in
cells_shape [] rest r l = absurd (omega (arith, l))
cells_shape (s ∷ shapes) rest zero l = refl
cells_shape (s ∷ shapes) rest (suc r) l =
    let z : suc r * shape_width ≡ suc (suc (r * shape_width)) = omega arith in
    let w : suc r * shape_width + 1 ≡ suc (suc (r * shape_width + 1)) = omega arith in
    rw (w, z) (cells_shape shapes rest r (omega (arith, l)))

-- two cells put behind others
cells_put : (xs : List ℕ) (x y a b n : ℕ) (rest : List ℕ) → length xs ≡ n → set (set (xs ++ (x ∷ y ∷ rest)) n a) (n + 1) b ≡ xs ++ (a ∷ b ∷ rest)
cells_put xs x y a b n rest e =
    ap (λ (l : List ℕ). set l (n + 1) b) (set_at xs x (y ∷ rest) a n e ∙ sym (append_snoc xs a (y ∷ rest)))
    ∙ set_at (xs ++ (a ∷ [])) y rest b (n + 1) (length-append xs (a ∷ []) ∙ omega (arith, e)) ∙ append_snoc xs a (b ∷ rest)

-- what the cells of all shapes say of each row
module _ (text t : List ℕ) (e : Extent) (ready : Ready text t e) where
  all_length : length (all_shapes text t e) ≡ e.rows
  all_length = shapes_length e.mode [] (known text t e) ∙ (let k = ready.holds.count in omega (arith, k))

  pub shapes_stored : {s : List ℕ} (rest : List ℕ) → s ≡ shape_cells (all_shapes text t e) ++ rest → ShapesIn s e.rows (all_shapes text t e)
  shapes_stored rest g =
      record {
        count = all_length;
        each = λ r l. ap (λ (x : List ℕ). shape_in x r) g ∙ cells_shape (all_shapes text t e) rest r (omega (arith, all_length, l));
      }

-- the rows up to one are filled
pub record Filling (text t s₀ s : List ℕ) (e : Extent) (row : ℕ) : Type 0 where
  pub ready : Ready text t e
  pub same : s ≡ shape_cells (take row (all_shapes text t e)) ++ drop (row * shape_width) s₀
  pub before : ShapesBefore text t s e row
  pub kept : length s ≡ length s₀
  pub long : shapes_size ≤ length s₀
  pub low : row ≤ e.rows

filling_by : (text t s₀ : List ℕ) (e : Extent) {s : List ℕ} {row : ℕ} → Ready text t e → shapes_size ≤ length s₀ → row ≤ e.rows
    → s ≡ shape_cells (take row (all_shapes text t e)) ++ drop (row * shape_width) s₀ → Filling text t s₀ s e row
filling_by text t s₀ e {s} {row} ready h l g =
    let shapes : List Shape = take row (all_shapes text t e) in
    let n : length shapes ≡ row = length-take-le row (all_shapes text t e) (omega (arith, l, all_length text t e ready)) in
    let m : length (shape_cells shapes) ≡ row * shape_width = cells_length shapes ∙ omega (arith, n) in
    record {
      ready = ready;
      same = g;
      before =
          record {
            shapes = shapes;
            stored = record { count = n; each = λ r k. ap (λ (x : List ℕ). shape_in x r) g ∙ cells_shape shapes (drop (row * shape_width) s₀) r (omega (arith, n, k)) };
            each = λ r k. get_or-take row (all_shapes text t e) r no_shape k;
          };
      kept = ap length g ∙ length-append (shape_cells shapes) (drop (row * shape_width) s₀) ∙ omega (arith, m, length-drop (row * shape_width) s₀, h, l, ready.few);
      long = h;
      low = l;
    }

pub filling_start : (text t s : List ℕ) (e : Extent) → Ready text t e → shapes_size ≤ length s → Filling text t s s e 0
unfolding shape_cells
filling_start text t s e ready h = filling_by text t s e ready h (omega arith) refl

module _ (text t s₀ : List ℕ) (e : Extent) {s : List ℕ} {row : ℕ} (f : Filling text t s₀ s e row) where
  pub filling_end : e.rows ≤ row → s ≡ shape_cells (all_shapes text t e) ++ drop (e.rows * shape_width) s₀
  filling_end h =
      let z : row ≡ e.rows = omega (arith, h, f.low) in
      let w : take e.rows (all_shapes text t e) ≡ all_shapes text t e = take_all e.rows (all_shapes text t e) (omega (arith, all_length text t e f.ready)) in
      f.same ∙ ap (λ (n : ℕ). shape_cells (take n (all_shapes text t e)) ++ drop (n * shape_width) s₀) z
      ∙ ap (λ (l : List Shape). shape_cells l ++ drop (e.rows * shape_width) s₀) w

  module _ (h : row < e.rows) where
    pub filling_low : row < definition_limit
    filling_low = omega (arith, h, f.ready.few)

    pub filling_next : (shape : Shape) {u : List ℕ} → RowShape text t e row shape → u ≡ set (set s (row * shape_width) shape.size) (row * shape_width + 1) shape.access
        → Filling text t s₀ u e (row + 1)
    filling_next shape {u} o g =
        let all : List Shape = all_shapes text t e in
        let at : ℕ = row * shape_width in
        let front : List ℕ = shape_cells (take row all) in
        let rest : List ℕ = drop ((row + 1) * shape_width) s₀ in
        let n : length (take row all) ≡ row = length-take-le row all (omega (arith, h, all_length text t e f.ready)) in
        let m : length front ≡ at = cells_length (take row all) ∙ omega (arith, n) in
        let k : at + 1 < length s₀ = omega (arith, filling_low, f.long) in
        let z : suc (suc at) ≡ (row + 1) * shape_width = omega arith in
        let behind : drop at s₀ ≡ get_or s₀ at 0 ∷ get_or s₀ (suc at) 0 ∷ rest =
        drop-cons s₀ at 0 (omega (arith, k))
        ∙ ap (λ (l : List ℕ). get_or s₀ at 0 ∷ l) (drop-cons s₀ (suc at) 0 (omega (arith, k)) ∙ ap (λ (j : ℕ). get_or s₀ (suc at) 0 ∷ drop j s₀) z) in
        let more : take (row + 1) all ≡ take row all ++ (shape_at all row ∷ []) =
        ap (λ (j : ℕ). take j all) (add-one row) ∙ take-suc all row no_shape (omega (arith, h, all_length text t e f.ready)) in
        filling_by text t s₀ e f.ready f.long (omega (arith, h))
        (g ∙ ap (λ (l : List ℕ). set (set l at shape.size) (at + 1) shape.access) (f.same ∙ ap (λ (l : List ℕ). front ++ l) behind)
        ∙ cells_put front (get_or s₀ at 0) (get_or s₀ (suc at) 0) shape.size shape.access at rest m
        ∙ ap (λ (x : Shape). front ++ (x.size ∷ x.access ∷ rest)) o.same
        ∙ sym (cells_more (take row all) (shape_at all row) rest)
        ∙ ap (λ (l : List Shape). shape_cells l ++ rest) (sym more))
