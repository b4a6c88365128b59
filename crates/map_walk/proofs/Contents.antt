-- The content of a definition, and an element with its content.
use mathlib.Core.Path.{◌≡◌, refl, sym, ap, subst, ◌∙◌}
use mathlib.Core.Bool.{false}
use mathlib.Core.List.{List, [], ◌∷◌, ◌++◌}
use mathlib.Core.Logic.{◌⊎◌, inl, inr}
use Prim.Native.Nat.{ℕ, zero, suc, ◌+◌, ◌-◌, ◌≤◌, ◌<◌}
use native.Mathlib.Omega.{arith}
use lib.ListN.{length, set, length-append}
use Rattle.basics.specs.Limits.{nest_limit}
use Rattle.fields.specs.declared.Offset.{Offset}
use Rattle.fields.specs.declared.FieldType.{FieldType}
use Rattle.fields.specs.declared.Register.{Register}
use Rattle.components.specs.declared.Component.{Component}
use Rattle.components.specs.declared.Component.TheVariants as component
use Rattle.cells.specs.Cells.{component_in}
use Rattle.cells.specs.Definitions.{Definition, definition_of}
use Rattle.layout.specs.declared.Shape.{Shape}
use Rattle.layout.specs.Layout.{bottom, laid_from, alignment_of}
use Rattle.map_rules.specs.Visits.{PathStep, Visit, is_group, of_group, child_visits, visits_in}
use Rattle.sizes.specs.declared.Extent.{Extent}
use Rattle.sizes.specs.Ready.{known}
use Rattle.sizes.specs.Shapes.{all_shapes, GroupOf, of_regfile, of_map, GroupRow}
use Rattle.map_walk.specs.declared.Trail.{Trail}
use Rattle.map_walk.specs.declared.Site.{Site}
use Rattle.map_walk.specs.declared.Element.{Element}
use Rattle.register_log.specs.Log.{step_of}
use Rattle.map_walk.specs.Runs.{Total, run, logged}
use Rattle.map_walk.specs.Walks.{Shaped, SiteFits, Small, Walks, visit_of, VisitWalks, ContentWalks, ElementWalks, ChildrenWalk}
use Rattle.map_walk.proofs.Runs.{onto_start, onto_fault, onto_then}
use Rattle.map_walk.proofs.Trails.{trails_more}
use Rattle.map_walk.proofs.Visited.{deep_stops}
use Rattle.map_walk.proofs.Rowed.{known_component}
use Rattle.std.specs.Prelude.{Option}
use Rattle.basics.specs.Judged.{Judged, fine, fault}

-- an answer with the counts as they were
pub small_same : {start : Total} → Small start → (u : Total) → fine start ≡ fine u → Small u
small_same {start} s u e = let q : start ≡ u = cc in subst Small q s

pub small_none : {n p : ℕ} (u : Total) → fault n p ≡ fine u → Small u
small_none u e = absurd cc

-- nothing to walk over
walks_none : {table : List Definition} {shapes : List Shape} {log : List ℕ} {t : Total} {vs : List Visit} → vs ≡ [] → Walks table shapes log log t vs (fine t)
unfolding run logged
walks_none e = rw e (record { runs = refl; logs = refl })

module _ (m : ℕ) (table : List Definition) (shapes : List Shape) (row : ℕ) (base : Offset) (path : List PathStep) where
  visits_none : (levels : ℕ) → levels ≡ 0 → visits_in levels m table shapes row base path ≡ []
  unfolding visits_in
  visits_none levels e = rw e

  visits_leaf : (levels : ℕ) → is_group (definition_of table row).component ≡ false → visits_in levels m table shapes row base path ≡ []
  unfolding visits_in
  visits_leaf zero e = refl
  visits_leaf (suc levels) e = rw e

  visits_group : (levels : ℕ) {a : Option ℕ} → GroupOf (definition_of table row).component a
      → visits_in (suc levels) m table shapes row base path ≡ child_visits (visits_in levels m table shapes) shapes path base (definition_of table row).instances (laid_from m a shapes bottom (definition_of table row).instances)
  unfolding visits_in
  visits_group levels {a} g = by (definition_of table row).component g
    where
      by : (c : Component) → GroupOf c a
          → of_group (is_group c) (child_visits (visits_in levels m table shapes) shapes path base (definition_of table row).instances (laid_from m (alignment_of c) shapes bottom (definition_of table row).instances))
          ≡ child_visits (visits_in levels m table shapes) shapes path base (definition_of table row).instances (laid_from m a shapes bottom (definition_of table row).instances)
      by (component.Field _) x'' = elim x'' [ ]
      by (component.Register _) x3 = elim x3 [ ]
      by (component.Regfile b) of_regfile = refl
      by (component.Addrmap b n) of_map = refl

-- a body with a level less below it
module _ (site : Site) {inside : Site} (q : inside ≡ record { row = site.row; address = site.address; trail = site.trail; levels = site.levels - 1 }) where
  pub inside_level : inside.levels ≡ site.levels - 1
  inside_level = ap (λ (s : Site). s.levels) q

  pub inside_fits : {e : Extent} → SiteFits e site → SiteFits e inside
  inside_fits f = rw q (record { row = f.row; address = f.address; depth = f.depth })

  pub inside_group : (t : List ℕ) {a : Option ℕ} → GroupRow t site.row a → GroupRow t inside.row a
  inside_group t g = rw q g

  pub inside_children : {text t before after : List ℕ} {e : Extent} {a : Option ℕ} {start : Total} {r : Judged Total}
      → ChildrenWalk text t before after e inside.levels inside.row a inside.address inside.trail start r
      → ChildrenWalk text t before after e (site.levels - 1) site.row a site.address site.trail start r
  inside_children w = rw q at w

-- a row of a field or a register
pub leaf_row : {c : Component} → ((f : FieldType) × (c ≡ component.Field f)) ⊎ ((r : Register) × (c ≡ component.Register r)) → is_group c ≡ false
leaf_row (inl (f, e)) = rw e
leaf_row (inr (r, e)) = rw e

-- `walk_content`
module _ (text t : List ℕ) (e : Extent) (levels row : ℕ) (base : Offset) (trail : Trail) (start : Total) (small : Small start) where
  pub content_none : {log : List ℕ} → levels ≡ 0 → ContentWalks text t log log e levels row base trail start (fine start)
  content_none z = record { small = small_same small; each = λ path address tr b. walks_none (visits_none e.mode (known text t e) (all_shapes text t e) row address path levels z) }

  module _ {s : List ℕ} (sh : Shaped text t s e) (low : row < e.rows) {c : Component} (q : c ≡ component_in t row) where
    pub content_leaf : {log : List ℕ} → is_group c ≡ false → ContentWalks text t log log e levels row base trail start (fine start)
    content_leaf n =
        let is : is_group (definition_of (known text t e) row).component ≡ false = rw (← known_component text t e row sh.ready low, ← q) n in
        record { small = small_same small; each = λ path address tr b. walks_none (visits_leaf e.mode (known text t e) (all_shapes text t e) row address path levels is) }

    pub content_group : {before after : List ℕ} {a : Option ℕ} {r : Judged Total} → (levels ≡ 0 → ⊥) → GroupRow t row a → ChildrenWalk text t before after e (levels - 1) row a base trail start r
        → ContentWalks text t before after e levels row base trail start r
    content_group {before} {after} {a} {r} n g w =
        let k : GroupOf (definition_of (known text t e) row).component a = rw (← known_component text t e row sh.ready low) g in
        let z : levels ≡ suc (levels - 1) = omega (arith, n) in
        record {
          small = w.small;
          each = λ path address tr b.
              subst (λ (vs : List Visit). Walks (known text t e) (all_shapes text t e) before after start vs r)
              (sym (ap (λ (l : ℕ). visits_in l e.mode (known text t e) (all_shapes text t e) row address path) z ∙ visits_group e.mode (known text t e) (all_shapes text t e) row address path (levels - 1) k))
              (w.each path address tr b);
        }

-- `walk_element`
module _ (text t : List ℕ) (e : Extent) (levels : ℕ) (x : Element) (before : Trail) (start : Total) where
  pub element_deep : {log : List ℕ} → before.depth ≡ nest_limit → ElementWalks text t log log e levels x before start (fault 18 x.name.start)
  element_deep {log} d =
      record {
        small = small_none;
        each = λ path index address tr i a.
            let v : Visit = visit_of x path index address in
            let n : length v.path ≡ length path + 1 = length-append path (record { name = x.name; index = index } ∷ []) in
            deep_stops (known text t e) (all_shapes text t e) log start v (omega (arith, n, tr.depth, d))
            (visits_in levels e.mode (known text t e) (all_shapes text t e) x.row address (path ++ (record { name = x.name; index = index } ∷ [])));
      }

  module _ (high : before.depth ≤ nest_limit) (d : before.depth ≡ nest_limit → ⊥) where
    depth_fits : before.depth < nest_limit
    depth_fits = omega (arith, high, d)

    module _ {trail : Trail} (f : (trail.depth ≡ before.depth + 1) × (trail.steps ≡ set before.steps before.depth (step_of x.name.start x.name.end x.index))) where
      module _ {log after : List ℕ} {r : Judged Total} (w : VisitWalks text t log after e x trail start r) where
        pub element_stops : {n p : ℕ} → r ≡ fault n p → ElementWalks text t log after e levels x before start (fault n p)
        element_stops q =
            record {
              small = small_none;
              each = λ path index address tr i a.
                  onto_fault (visit_of x path index address ∷ [])
                  (visits_in levels e.mode (known text t e) (all_shapes text t e) x.row address (path ++ (record { name = x.name; index = index } ∷ [])))
                  onto_start (w.each path index address (trails_more path x.name index tr depth_fits i f) a) q;
            }

        pub element_goes : {u : Total} {last : List ℕ} {q : Judged Total} → r ≡ fine u → ContentWalks text t after last e levels x.row x.address trail u q
            → ElementWalks text t log last e levels x before start q
        element_goes g k =
            record {
              small = k.small;
              each = λ path index address tr i a.
                  let tr' = trails_more path x.name index tr depth_fits i f in
                  onto_then (visit_of x path index address ∷ [])
                  (visits_in levels e.mode (known text t e) (all_shapes text t e) x.row address (path ++ (record { name = x.name; index = index } ∷ [])))
                  onto_start (w.each path index address tr' a) g (k.each (path ++ (record { name = x.name; index = index } ∷ [])) address tr' a);
            }
