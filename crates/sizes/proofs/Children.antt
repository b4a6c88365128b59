-- The instances of a regfile or map of ready cells, over all shapes: what a walk over the definitions asks for.
use mathlib.Core.Path.{◌≡◌}
use mathlib.Core.List.{List, [], ◌∷◌}
use mathlib.Core.Bool.{false}
use Prim.Native.Nat.{ℕ, ◌<◌}
use native.Mathlib.Omega.{arith}
use Rattle.property_values.specs.Settings.{is_field}
use Rattle.suffixes.specs.Suffixes.{instance_fault}
use Rattle.components.specs.Components.{kind_of}
use Rattle.fields.specs.declared.Offset.{Offset}
use Rattle.components.specs.declared.Component.{Component}
use Rattle.cells.specs.Definitions.{Child, definition_of}
use Rattle.definition_laws.specs.Sensible.{ChildFits, ChildrenFit, children_none, children_more}
use Rattle.layout.specs.Layout.{laid, shape_at, shapes_from, cut_shape, cut_offset, cut_laid}
use Rattle.layout.specs.Fitting.{Layable}
use Rattle.layout.proofs.Laws.{cut-laid}
use Rattle.sizes.specs.declared.Extent.{Extent}
use Rattle.sizes.specs.Ready.{known, Ready}
use Rattle.sizes.specs.Shapes.{GroupOf, GroupRow, all_shapes}
use Rattle.sizes.proofs.Rows.{RowFits, Positive, child_addressed, child_positive, child_fitting}
use Rattle.sizes.proofs.Laws.{ready_is_row, ready_row}
use Rattle.basics.specs.Judged.{Accepted}
use Rattle.std.specs.Prelude.{Option}

-- an instance in the body of a row, whose own alignment is `a`
pub record ReadyChild (text t : List ℕ) (e : Extent) (row : ℕ) (a : Option ℕ) (c : Child) : Type 0 where
  pub below : c.type < row
  pub addressed : is_field (kind_of (definition_of (known text t e) c.type).component) ≡ false
  pub sound : instance_fault (kind_of (definition_of (known text t e) c.type).component) c.instance ≡ Accepted
  pub positive : Positive (shape_at (all_shapes text t e) c.type)
  pub fitting : Layable a (cut_shape (shape_at (all_shapes text t e) c.type)) c.instance

pub data ReadyChildren (text t : List ℕ) (e : Extent) (row : ℕ) (a : Option ℕ) : List Child → Type 0 where
  ready_none : ReadyChildren text t e row a []
  ready_more : {c : Child} {cs : List Child} → ReadyChild text t e row a c → ReadyChildren text t e row a cs → ReadyChildren text t e row a (c ∷ cs)

-- where it lies: what is made of cut numbers, cut again, is what is made of the true ones, cut
pub ready_laid : (text t : List ℕ) (e : Extent) (row : ℕ) (a : Option ℕ) (c : Child) (end : Offset) → ReadyChild text t e row a c
    → cut_laid (laid e.mode a (cut_shape (shape_at (all_shapes text t e) c.type)) c.instance (cut_offset end)) ≡ cut_laid (laid e.mode a (shape_at (all_shapes text t e) c.type) c.instance end)
ready_laid text t e row a c end r =
    cut-laid e.mode a (shape_at (all_shapes text t e) c.type) c.instance end r.fitting.aligned r.positive.size r.positive.access
    (kind_of (definition_of (known text t e) c.type).component) r.addressed r.sound

module _ (text t : List ℕ) (e : Extent) (row : ℕ) (a : Option ℕ) (ready : Ready text t e) (low : row < e.rows) (f : RowFits e.mode (known text t e) row) where
  abbrev holder : Component
  holder = (definition_of (known text t e) row).component

  child_ready : (c : Child) → GroupOf (definition_of (known text t e) row).component a → ChildFits f.before (definition_of (known text t e) row).component c → ReadyChild text t e row a c
  child_ready c g x =
      let l : c.type < row = omega (arith, x.before, f.count) in
      let z : definition_of f.before c.type ≡ definition_of (known text t e) c.type = f.rows c.type l in
      let w : shape_at (shapes_from e.mode [] f.before) c.type ≡ shape_at (all_shapes text t e) c.type = f.same c.type l in
      record {
        below = l;
        addressed = rw z at (child_addressed e.mode f.before holder c f.sensible g x);
        sound = rw z at x.sound;
        positive = rw w at (child_positive e.mode f.before holder c f.sensible g x);
        fitting = rw w at (child_fitting e.mode f.before holder c f.sensible g x f.fits.values);
      }

  children_ready : {cs : List Child} → GroupOf (definition_of (known text t e) row).component a → ChildrenFit f.before (definition_of (known text t e) row).component cs → ReadyChildren text t e row a cs
  children_ready g children_none = ready_none
  children_ready g (children_more {c = c} x xs) = ready_more (child_ready c g x) (children_ready g xs)

-- a row of a regfile or a map
module _ (text t : List ℕ) (e : Extent) (row : ℕ) (a : Option ℕ) (ready : Ready text t e) (low : row < e.rows) (g : GroupRow t row a) where
  pub ready_group_of : GroupOf (definition_of (known text t e) row).component a
  ready_group_of = rw (← (ready_is_row text t e row ready low).component) g

  pub ready_children : ReadyChildren text t e row a (definition_of (known text t e) row).instances
  ready_children =
      let f : RowFits e.mode (known text t e) row = ready_row text t e row ready low in
      children_ready text t e row a ready low f ready_group_of f.fits.children
