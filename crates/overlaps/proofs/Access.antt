-- Laws of the access of a register's fields, in the form that the proofs use.
use mathlib.Core.Bool.{Bool, true, false, ◌&&◌, not}
use mathlib.Core.Path.{◌≡◌, refl, sym, ap, ap₂, ◌∙◌}
use mathlib.Core.List.{List, [], ◌∷◌}
use Prim.Native.Nat.{ℕ, suc, ◌+◌, ◌<◌, ◌≤◌}
use native.Mathlib.Omega.{arith}
use lib.Dec.{eqb}
use lib.ListN.{length}
use borrow.Author.Tests.{eqb-true, not-true, not-false}
use Rattle.parts.specs.declared.Instance.{Instance}
use Rattle.parts.specs.declared.Kind.TheVariants as kind
use Rattle.fields.specs.Codes.{access_code}
use Rattle.fields.specs.declared.AccessRight.TheVariants as access
use Rattle.basics.specs.Limits.{definition_limit}
use Rattle.components.specs.Fields.{field_at}
use Rattle.components.specs.Components.{kind_of}
use Rattle.fields.specs.declared.BitPlace.{BitPlace}
use Rattle.fields.specs.declared.FieldAt.{FieldAt}
use Rattle.fields.specs.declared.Register.{Register}
use Rattle.components.specs.declared.Component.{Component}
use Rattle.components.specs.declared.Component.TheVariants as component
use Rattle.basics.specs.Slices.{cell_of}
use Rattle.cells.specs.Cells.{entries_at, component_in, first_in, count_in, row_in}
use Rattle.cells.specs.Definitions.{Child, Definition, definition_of}
use Rattle.cells.specs.Relation.{Block}
use Rattle.closing_rules.specs.Registers.{placement, bit_above, with_placed, fields_from, first_bit, fields_of, closing_fault}
use Rattle.scopes.specs.Places.{may_hold}
use Rattle.definition_laws.specs.Sensible.{ChildrenFit, children_none, children_more}
use Rattle.sizes.specs.declared.Extent.{Extent}
use Rattle.sizes.specs.Ready.{known, Ready}
use Rattle.sizes.proofs.Rows.{RowFits}
use Rattle.sizes.proofs.Laws.{ready_is_row, ready_row, ready_block, ready_count, Ahead, ahead_of, none_left}
use Rattle.map_rules.specs.Whole.{every_access, has_access}
use Rattle.overlaps.specs.Charted.{has_in}
use Rattle.std.specs.Prelude.{Some}

-- the fields of some instances, with one more before them
every-placed : (a : ℕ) (c : Component) (next : BitPlace) (i : Instance) (fs : List FieldAt) → every_access a (with_placed (placement c next i) fs) ≡ (has_in a c && every_access a fs)
unfolding every_access field_at
every-placed a (component.Field f) next i fs = refl
every-placed a (component.Register r) next i fs = refl
every-placed a (component.Regfile l) next i fs = refl
every-placed a (component.Addrmap l m) next i fs = refl

every_more : (a : ℕ) (table : List Definition) (next : BitPlace) (c : Child) (cs : List Child)
    → every_access a (fields_from table next (c ∷ cs))
    ≡ (has_in a (definition_of table c.type).component && every_access a (fields_from table (bit_above (placement (definition_of table c.type).component next c.instance) next) cs))
unfolding fields_from
every_more a table next c cs =
    let d : Component = (definition_of table c.type).component in
    every-placed a d next c.instance (fields_from table (bit_above (placement d next c.instance) next) cs)

every_none : (a : ℕ) (table : List Definition) (next : BitPlace) → every_access a (fields_from table next []) ≡ true
unfolding fields_from every_access
every_none a table next = refl

-- the instances of a register that are left to look at
pub record Left (text t : List ℕ) (e : Extent) (row a to i : ℕ) : Type 0 where
  pub fits : RowFits e.mode (known text t e) row
  pub rest : List Child
  pub block : Block text t i rest
  pub until : i + length rest ≡ to
  pub children : ChildrenFit fits.before (definition_of (known text t e) row).component rest
  pub next : BitPlace
  pub same : every_access a (fields_from (known text t e) next rest) ≡ has_access (known text t e) a row

pub record Asking (text t : List ℕ) (row a to i : ℕ) : Type 0 where
  pub each : (e : Extent) → Ready text t e → row < e.rows → Left text t e row a to i

pub asking_start : (text t : List ℕ) (row a : ℕ) {from to : ℕ} → from ≡ entries_at + first_in t row → to ≡ from + count_in t row → Asking text t row a to from
asking_start text t row a p q = record {
  each = λ e ready low.
      let f : RowFits e.mode (known text t e) row = ready_row text t e row ready low in
      record {
        fits = f;
        rest = (definition_of (known text t e) row).instances;
        block = rw p (ready_block text t e row ready low);
        until = omega (arith, q, ready_count text t e row ready low);
        children = f.fits.children;
        next = first_bit;
        same = refl;
      };
}

module _ (text t : List ℕ) (row a : ℕ) {to i : ℕ} (s : Asking text t row a to i) where
  pub asking_end : (e : Extent) → Ready text t e → row < e.rows → to ≤ i → true ≡ has_access (known text t e) a row
  asking_end e ready low h =
      let l : Left text t e row a to i = s.each e ready low in
      let z : l.rest ≡ [] = none_left h l.until l.block in
      sym (every_none a (known text t e) l.next) ∙ ap (λ (cs : List Child). every_access a (fields_from (known text t e) l.next cs)) (sym z) ∙ l.same

  module _ {x k : ℕ} {c : Component} {r : Bool} (h : i < to) (p : x ≡ cell_of t i) (q : (k ≡ row_in x) × (k < definition_limit)) (g : c ≡ component_in t k) (b : r ≡ has_in a c) where
    module _ (e : Extent) (ready : Ready text t e) (low : row < e.rows) where
      left : Left text t e row a to i
      left = s.each e ready low

      ahead : Ahead text t left.fits.before (definition_of (known text t e) row).component i left.rest
      ahead = ahead_of h left.until left.block left.children

      same_component : c ≡ (definition_of (known text t e) ahead.child.type).component
      same_component =
          let l : ahead.child.type < e.rows = omega (arith, ahead.fits.before, left.fits.count, low) in
          let w : k ≡ ahead.child.type = q.0 ∙ ap row_in p ∙ ahead.entry.type in
          g ∙ ap (component_in t) w ∙ (ready_is_row text t e ahead.child.type ready l).component

      abbrev above : BitPlace
      above = bit_above (placement (definition_of (known text t e) ahead.child.type).component left.next ahead.child.instance) left.next

      ahead_same : (r && every_access a (fields_from (known text t e) above ahead.others)) ≡ has_access (known text t e) a row
      ahead_same =
          let rest : Bool = every_access a (fields_from (known text t e) above ahead.others) in
          ap (λ (y : Bool). y && rest) (b ∙ ap (has_in a) same_component) ∙ sym (every_more a (known text t e) left.next ahead.child ahead.others)
          ∙ ap (λ (cs : List Child). every_access a (fields_from (known text t e) left.next cs)) (sym ahead.whole) ∙ left.same

      pub asking_stop : not r ≡ true → false ≡ has_access (known text t e) a row
      asking_stop y =
          let rest : Bool = every_access a (fields_from (known text t e) above ahead.others) in
          ap (λ (z : Bool). z && rest) (sym (not-true r y)) ∙ ahead_same

      left_next : not r ≡ false → Left text t e row a to (i + 1)
      left_next y =
          let rest : Bool = every_access a (fields_from (known text t e) above ahead.others) in
          record {
            fits = left.fits;
            rest = ahead.others;
            block = ahead.block;
            until = let m : length left.rest ≡ suc (length ahead.others) = ap length ahead.whole in omega (arith, m, left.until);
            children = ahead.children;
            next = above;
            same = ap (λ (z : Bool). z && rest) (sym (not-false r y)) ∙ ahead_same;
          }

    pub asking_next : not r ≡ false → Asking text t row a to (i + 1)
    asking_next y = record { each = λ e ready low. left_next e ready low y }

-- ---- a register has a field, and no field is both only read and only written: so no register is both read-only and write-only

one_access : (n : ℕ) (x y : Bool) → ((eqb n (access_code access.R) && x) && (eqb n (access_code access.W) && y)) ≡ false
one_access n x y = by (eqb n (access_code access.R)) refl (eqb n (access_code access.W)) refl x
  where
    by : (a : Bool) → eqb n (access_code access.R) ≡ a → (b : Bool) → eqb n (access_code access.W) ≡ b → (x : Bool)
        → ((a && x) && (b && y)) ≡ false
    by false e b f x = refl
    by true e false f true = refl
    by true e false f false = refl
    by true e true f x =
        let z : n ≡ access_code access.R = eqb-true n (access_code access.R) e in
        let w : n ≡ access_code access.W = eqb-true n (access_code access.W) f in
        absurd (omega arith)

module _ (x y : Bool) where
  component_once : (c : Component) → may_hold (Some kind.Reg) (kind_of c) ≡ true
      → ((has_in (access_code access.R) c && x) && (has_in (access_code access.W) c && y)) ≡ false
  unfolding may_hold
  component_once (component.Field f) h = one_access f.sw x y
  component_once (component.Register r) h = absurd cc
  component_once (component.Regfile a) h = absurd cc
  component_once (component.Addrmap a m) h = absurd cc

body_once : (table before : List Definition) (r : Register) (cs : List Child)
    → ((k : ℕ) → k < length before → definition_of before k ≡ definition_of table k)
    → ChildrenFit before (component.Register r) cs → closing_fault before (component.Register r) cs ≡ 0
    → (every_access (access_code access.R) (fields_of table cs) && every_access (access_code access.W) (fields_of table cs)) ≡ false
unfolding closing_fault
body_once table before r [] same children_none f = absurd (omega arith)
body_once table before r (c ∷ cs) same (children_more p ps) f =
    let d : Component = (definition_of table c.type).component in
    let e : (definition_of before c.type).component ≡ d = ap (λ (x : Definition). x.component) (same c.type p.before) in
    let others : List FieldAt = fields_from table (bit_above (placement d first_bit c.instance) first_bit) cs in
    ap₂ ◌&&◌ (every_more (access_code access.R) table first_bit c cs) (every_more (access_code access.W) table first_bit c cs)
    ∙ component_once (every_access (access_code access.R) others) (every_access (access_code access.W) others) d (rw e at p.held)

pub register_once : (text t : List ℕ) (e : Extent) (row : ℕ) {r : Register} → Ready text t e → row < e.rows
    → (definition_of (known text t e) row).component ≡ component.Register r
    → (has_access (known text t e) (access_code access.R) row && has_access (known text t e) (access_code access.W) row) ≡ false
register_once text t e row {r} ready low k =
    let f : RowFits e.mode (known text t e) row = ready_row text t e row ready low in
    let n = f.count in
    body_once (known text t e) f.before r (definition_of (known text t e) row).instances
    (λ j h. f.rows j (omega arith))
    (rw k at f.fits.children)
    (rw k at f.fits.sound)
