-- Rows of the table: a register's shape, and an element of a row without its content.
use mathlib.Core.Path.{◌≡◌, refl, ap, subst, ◌∙◌}
use mathlib.Core.Bool.{true, false}
use mathlib.Core.List.{List, [], ◌∷◌}
use Prim.Native.Nat.{ℕ, ◌+◌, ◌-◌, ◌*◌, ◌≤◌, ◌<◌}
use native.Mathlib.Omega.{arith}
use lib.ListN.{length}
use Rattle.basics.specs.Judged.{first_of, Verdict, Judged, fine, fault}
use Rattle.fields.specs.declared.Offset.{Offset}
use Rattle.fields.specs.declared.Register.{Register}
use Rattle.components.specs.declared.Component.{Component}
use Rattle.components.specs.declared.Component.TheVariants as component
use Rattle.basics.specs.Slices.{written}
use Rattle.cells.specs.Cells.{entries_at, component_in, first_in, count_in, instance_room}
use Rattle.cells.specs.Definitions.{Child, definition_of}
use Rattle.definition_laws.specs.Sensible.{ValuesFit, register_fits}
use Rattle.register_log.specs.Log.{log_width, head_of}
use Rattle.capped.specs.Offsets.{cap}
use Rattle.capped.proofs.Laws.{cut_low}
use Rattle.layout.specs.declared.Shape.{Shape}
use Rattle.layout.specs.Layout.{shape_at, shape_of, shapes_from, cut_shape}
use Rattle.basics.specs.Limits.{nest_limit, register_limit, field_limit, definition_limit}
use Rattle.map_rules.specs.Visits.{Visit}
use Rattle.map_rules.specs.Whole.{is_register, is_register_visit, misplaced}
use Rattle.sizes.specs.declared.Extent.{Extent}
use Rattle.sizes.specs.Ready.{known, Ready}
use Rattle.sizes.specs.Shapes.{shape_in, all_shapes}
use Rattle.sizes.proofs.Rows.{RowFits, width_range}
use Rattle.sizes.proofs.Laws.{ready_is_row, ready_row, ready_count, ready_span}
use Rattle.map_walk.specs.declared.Trail.{Trail}
use Rattle.map_walk.specs.declared.Element.{Element}
use Rattle.map_walk.specs.Runs.{Total, log_row}
use Rattle.map_walk.specs.Walks.{Shaped, Small, IsRegisterOf, of_register, IsRegisterRow, close_fault, place_fault, GroupVisited, visit_of, VisitWalks}
use Rattle.map_walk.proofs.Visited.{close_same, place_same, group_on, register_many, register_fields, register_on}

-- a register's shape: up to eight bytes
record Eight (s : Shape) : Type 0 where
  size : s.size ≤ 8
  low : 1 ≤ s.access
  access : s.access ≤ 8

register_eight : (m : ℕ) (shapes : List Shape) (cs : List Child) {c : Component} → IsRegisterOf c → ValuesFit c → Eight (shape_of m shapes c cs)
register_eight m shapes cs of_register (register_fits {width = width} {access = access} a b) =
    let w = width_range width a in
    let v = width_range access b in
    record { size = omega (arith, w); low = omega (arith, v); access = omega (arith, v) }

register_is : {c : Component} → IsRegisterOf c → is_register c ≡ true
register_is of_register = refl

pub answer_same : {r : Judged Total} {u v : Total} → r ≡ fine u → r ≡ fine v → u ≡ v
answer_same e f = cc

module _ (text t : List ℕ) (e : Extent) (row : ℕ) (ready : Ready text t e) (low : row < e.rows) where
  pub known_component : component_in t row ≡ (definition_of (known text t e) row).component
  known_component = (ready_is_row text t e row ready low).component

  module _ (r : IsRegisterRow t row) where
    known_register : is_register (definition_of (known text t e) row).component ≡ true
    known_register = rw (← known_component) (register_is r)

    known_eight : Eight (shape_at (all_shapes text t e) row)
    known_eight =
        let f : RowFits e.mode (known text t e) row = ready_row text t e row ready low in
        rw f.shape (register_eight e.mode (shapes_from e.mode [] f.before) (definition_of (known text t e) row).instances (rw known_component at r) f.fits.values)

-- `visit_register`
-- what `instances_of` asks for
pub shaped_span : (text t s : List ℕ) (e : Extent) (row : ℕ) → Shaped text t s e → row < e.rows → (row < definition_limit) × (first_in t row + count_in t row ≤ instance_room)
shaped_span text t s e row sh low = ready_span text t e row sh.ready low

module _ (text t s : List ℕ) (e : Extent) (x : Element) (tally : Total) (sh : Shaped text t s e) (low : x.row < e.rows) (small : Small tally) where
  module _ {from to : ℕ} (span : (from ≡ entries_at + first_in t x.row) × (to ≡ from + count_in t x.row)) where
    fields_same : tally.fields + (to - from) ≡ tally.fields + length (definition_of (known text t e) x.row).instances
    fields_same = omega (arith, span.1, ready_count text t e x.row sh.ready low)

    -- 18
    pub register_full : {log : List ℕ} {trail : Trail} → IsRegisterRow t x.row → register_limit ≤ tally.registers → VisitWalks text t log log e x trail tally (fault 18 x.name.start)
    register_full {log} r h =
        record {
          small = λ u q. absurd cc;
          each = λ path index address tr a.
              let v : Visit = visit_of x path index address in
              register_many (known text t e) (all_shapes text t e) log tally v (known_register text t e x.row sh.ready low r) h;
        }

    pub register_fielded : {log : List ℕ} {trail : Trail} → IsRegisterRow t x.row → field_limit < tally.fields + (to - from) → VisitWalks text t log log e x trail tally (fault 18 x.name.start)
    register_fielded {log} r h =
        record {
          small = λ u q. absurd cc;
          each = λ path index address tr a.
              let v : Visit = visit_of x path index address in
              register_fields (known text t e) (all_shapes text t e) log tally v (known_register text t e x.row sh.ready low r) fields_same h;
        }

    module _ (r : IsRegisterRow t x.row) {shape : Shape} (z : shape ≡ shape_in s x.row) where
      stored : shape ≡ cut_shape (shape_at (all_shapes text t e) x.row)
      stored = z ∙ sh.shapes.each x.row low

      pub shape_fits : (1 ≤ shape.access) × (shape.size ≤ cap)
      shape_fits =
          let k : Eight (shape_at (all_shapes text t e) x.row) = known_eight text t e x.row sh.ready low r in
          rw stored (
            rw (cut_low (shape_at (all_shapes text t e) x.row).access (omega (arith, k.access))) k.low,
            rw (cut_low (shape_at (all_shapes text t e) x.row).size (omega (arith, k.size))) (omega (arith, k.size)),
          )

      pub register_walked : {log after : List ℕ} {trail : Trail} {close place f g : Verdict} → trail.depth ≤ nest_limit → tally.registers < register_limit → tally.fields + (to - from) ≤ field_limit
          → after ≡ written log (tally.registers * log_width) (head_of x.address.0 x.row trail.depth ∷ trail.steps) → close ≡ close_fault x → f ≡ first_of tally.close close
          → place ≡ place_fault x shape → g ≡ first_of tally.misplaced place
          → VisitWalks text t log after e x trail tally (fine (record { registers = tally.registers + 1; fields = tally.fields + (to - from); close = f; misplaced = g }))
      unfolding log_row
      register_walked {log} {after} {trail} {close} {place} {f} {g} d m n w c p q o =
          record {
            small = λ u y.
                let h : record { registers = tally.registers + 1; fields = tally.fields + (to - from); close = f; misplaced = g } ≡ u = cc in
                subst Small h (record { registers = omega (arith, m); fields = n });
            each = λ path index address tr a.
                let v : Visit = visit_of x path index address in
                let k : Eight (shape_at (all_shapes text t e) x.row) = known_eight text t e x.row sh.ready low r in
                let is : is_register_visit (known text t e) v ≡ true = known_register text t e x.row sh.ready low r in
                let l : length v.path ≤ nest_limit = rw (← tr.depth) d in
                let row : after ≡ written log (tally.registers * log_width) (log_row v) = rw (← ap (λ (o : Offset). o.0) a, ← tr.depth, ← tr.steps) w in
                let there : place_fault x shape ≡ misplaced (known text t e) (all_shapes text t e) (v ∷ []) =
                place_same (known text t e) (all_shapes text t e) x path index address is (omega (arith, k.size)) (omega (arith, k.access)) a stored in
                register_on (known text t e) (all_shapes text t e) log tally v is fields_same l m n row (c ∙ close_same x path index address) (q ∙ there) refl (rw (p, o));
          }

-- an element that is no register
module _ (text t s : List ℕ) (e : Extent) (x : Element) (tally : Total) (sh : Shaped text t s e) (low : x.row < e.rows) (small : Small tally) where
  pub group_walked : {log : List ℕ} {trail : Trail} {c : Component} {r : Judged Total} → trail.depth ≤ nest_limit → c ≡ component_in t x.row → is_register c ≡ false → GroupVisited tally x r
      → VisitWalks text t log log e x trail tally r
  group_walked {log} d q n g =
      record {
        small = λ u y. subst Small (answer_same g y) (record { registers = small.registers; fields = small.fields });
        each = λ path index address tr a.
            let v : Visit = visit_of x path index address in
            let is : is_register_visit (known text t e) v ≡ false = rw (← known_component text t e x.row sh.ready low, ← q) n in
            group_on (known text t e) (all_shapes text t e) log tally v (rw (← tr.depth) d) is small (close_same x path index address) g;
      }

-- what the component of a row says
module _ {c : Component} where
  pub register_row_lem : (t : List ℕ) (row : ℕ) {r : Register} → c ≡ component_in t row → c ≡ component.Register r → IsRegisterRow t row
  register_row_lem t row {r} e f = rw (← e, f) (of_register {r = r})

  pub other_row : ((r : Register) → c ≡ component.Register r → ⊥) → is_register c ≡ false
  other_row n = by c n
    where
      by : (d : Component) → ((r : Register) → d ≡ component.Register r → ⊥) → is_register d ≡ false
      by (component.Field f) m = refl
      by (component.Register r) m = absurd (m r refl)
      by (component.Regfile a) m = refl
      by (component.Addrmap a b) m = refl
