-- The elements of an instance, one after another.
use mathlib.Core.Path.{◌≡◌, refl, sym, ap, ◌∙◌}
use mathlib.Core.List.{List, [], ◌∷◌, ◌++◌}
use Prim.Native.Nat.{ℕ, suc, ◌+◌, ◌-◌, ◌*◌, ◌≤◌, ◌<◌}
use native.Mathlib.Numerals.{add-one}
use native.Mathlib.Omega.{arith}
use lib.ListN.{length}
use Rattle.basics.specs.Limits.{sum_bound}
use Rattle.fields.specs.declared.Offset.{Offset}
use Rattle.cells.specs.Definitions.{Child, Definition}
use Rattle.capped.specs.Offsets.{cap, cut}
use Rattle.capped.proofs.Laws.{cut_sum}
use Rattle.layout.specs.declared.Shape.{Shape}
use Rattle.layout.specs.declared.Laid.{Laid}
use Rattle.layout.specs.Layout.{shape_at, elements, cut_offset}
use Rattle.map_rules.specs.Visits.{PathStep, Visit, index_in, address_of, element_visits, visits_in}
use Rattle.sizes.specs.declared.Extent.{Extent}
use Rattle.sizes.specs.Ready.{known}
use Rattle.sizes.specs.Shapes.{all_shapes}
use Rattle.map_walk.specs.declared.Trail.{Trail}
use Rattle.map_walk.specs.Runs.{Total}
use Rattle.map_walk.specs.declared.Kid.{Kid}
use Rattle.map_walk.specs.declared.Element.{Element}
use Rattle.rows.specs.Rows.{index_code}
use Rattle.map_walk.specs.Walks.{Small, Trails, Walks, visit_of, ElementWalks, KidOf, KidFits, ArrayWalks}
use Rattle.map_walk.proofs.Runs.{Onto, onto_start, onto_end, onto_on, onto_fault}
use Rattle.map_walk.proofs.Contents.{small_same, small_none}
use Rattle.basics.specs.Judged.{Judged, fine, fault}

-- an element of an instance, by its index and its address
abbrev pub element_of : Kid → ℕ → Offset → Element
element_of kid k address = record { row = kid.row; name = kid.instance.name; index = index_code (index_in kid.instance.array k); address = address; short = kid.short }

-- an element and its content, as they are walked over
abbrev element_with : ℕ → ℕ → List Definition → List Shape → Kid → List PathStep → ℕ → Offset → List Visit
element_with levels m table shapes kid path k place =
    visit_of (element_of kid k place) path (index_in kid.instance.array k) place ∷
    visits_in levels m table shapes kid.row place (path ++ (record { name = kid.instance.name; index = index_in kid.instance.array k } ∷ []))

elements_none : (content : Offset → List PathStep → List Visit) (path : List PathStep) (c : Child) (base : Offset) (s : Shape) (l : Laid) (k : ℕ) {n : ℕ} → n ≡ 0 → element_visits content path c base s l k n ≡ []
unfolding element_visits
elements_none content path c base s l k e = rw e

elements_more : (levels m : ℕ) (table : List Definition) (shapes : List Shape) {kid : Kid} (path : List PathStep) (c : Child) (base : Offset) {s : Shape} (l : Laid) (k : ℕ) {n r : ℕ} → KidOf kid c s l base → n ≡ suc r
    → element_visits (visits_in levels m table shapes c.type) path c base s l k n
    ≡ element_with levels m table shapes kid path k (address_of base l k) ++ element_visits (visits_in levels m table shapes c.type) path c base s l (suc k) r
unfolding element_visits
elements_more levels m table shapes path c base l k o e = rw (e, o.row, o.instance, o.short)

pub record ArrayLeft (text t before : List ℕ) (e : Extent) (levels : ℕ) (start : Total) (k : ℕ) (address : Offset) (tally : Total) (log : List ℕ) (path : List PathStep) (c : Child) (l : Laid) (base : Offset) : Type 0 where
  pub place : address ≡ cut_offset (address_of base l k)
  pub onto : Onto (known text t e) (all_shapes text t e) before start
      (element_visits (visits_in levels e.mode (known text t e) (all_shapes text t e) c.type) path c base (shape_at (all_shapes text t e) c.type) l 0 (elements c.instance.array))
      log tally
      (element_visits (visits_in levels e.mode (known text t e) (all_shapes text t e) c.type) path c base (shape_at (all_shapes text t e) c.type) l k (elements c.instance.array - k))

pub record Arraying (text t before : List ℕ) (e : Extent) (levels : ℕ) (kid : Kid) (trail : Trail) (start : Total) (k : ℕ) (address : Offset) (tally : Total) (log : List ℕ) : Type 0 where
  pub low : address.0 ≤ cap
  pub small : Small tally
  pub long : length log ≡ length before
  pub each : (path : List PathStep) (c : Child) (l : Laid) (base : Offset) → Trails trail path → KidOf kid c (shape_at (all_shapes text t e) c.type) l base
      → ArrayLeft text t before e levels start k address tally log path c l base

module _ (text t before : List ℕ) (e : Extent) (levels : ℕ) (kid : Kid) (trail : Trail) (start : Total) where
  pub array_start : KidFits e kid → Small start → Arraying text t before e levels kid trail start 0 kid.address start before
  array_start f s =
      record {
        low = f.address;
        small = s;
        long = refl;
        each = λ path c l base tr o.
            let z : base.0 + (l.start.0 + l.stride * 0) ≡ base.0 + l.start.0 = omega arith in
            let n : elements c.instance.array - 0 ≡ elements c.instance.array = omega arith in
            record { place = ap (λ (m : ℕ). record { 0 = m }) (o.address ∙ ap cut (sym z)); onto = rw n onto_start };
      }

  pub element_fits : {k : ℕ} {address : Offset} {tally : Total} {log : List ℕ} → Arraying text t before e levels kid trail start k address tally log
      → KidFits e kid → {x : Element} → x ≡ element_of kid k address → (x.row < e.rows) × (x.address.0 ≤ cap)
  element_fits g f q = rw q (f.row, g.low)

  module _ {k : ℕ} {address : Offset} {tally : Total} {log : List ℕ} (g : Arraying text t before e levels kid trail start k address tally log) {count : ℕ} (m : count ≡ elements kid.instance.array) where
    pub array_end : count ≤ k → ArrayWalks text t before log e levels kid trail start (fine tally)
    array_end h =
        record {
          small = small_same g.small;
          each = λ path c l base tr o.
              let n : elements c.instance.array - k ≡ 0 = rw (← o.instance, ← m) (omega (arith, h)) in
              let z : element_visits (visits_in levels e.mode (known text t e) (all_shapes text t e) c.type) path c base (shape_at (all_shapes text t e) c.type) l k (elements c.instance.array - k) ≡ [] =
              elements_none (visits_in levels e.mode (known text t e) (all_shapes text t e) c.type) path c base (shape_at (all_shapes text t e) c.type) l k n in
              onto_end (rw z at (g.each path c l base tr o).onto);
        }

    module _ (h : k < count) where
      pub index_fits : KidFits e kid → k < sum_bound
      index_fits f = omega (arith, h, m, f.count)

    module _ (h : k < count) {x : Element} (q : x ≡ element_of kid k address) {after : List ℕ} {r : Judged Total} (w : ElementWalks text t log after e levels x trail tally r) where
      -- what is left, with the next element first
      next : (path : List PathStep) (c : Child) (l : Laid) (base : Offset) → Trails trail path → KidOf kid c (shape_at (all_shapes text t e) c.type) l base
          → Onto (known text t e) (all_shapes text t e) before start
          (element_visits (visits_in levels e.mode (known text t e) (all_shapes text t e) c.type) path c base (shape_at (all_shapes text t e) c.type) l 0 (elements c.instance.array))
          log tally
          (element_with levels e.mode (known text t e) (all_shapes text t e) kid path k (address_of base l k) ++
          element_visits (visits_in levels e.mode (known text t e) (all_shapes text t e) c.type) path c base (shape_at (all_shapes text t e) c.type) l (suc k) (elements c.instance.array - suc k))
      next path c l base tr o =
          let n : elements c.instance.array - k ≡ suc (elements c.instance.array - suc k) = rw (← o.instance, ← m) (omega (arith, h)) in
          rw (elements_more levels e.mode (known text t e) (all_shapes text t e) path c base l k o n) at (g.each path c l base tr o).onto

      walks : (path : List PathStep) (c : Child) (l : Laid) (base : Offset) → Trails trail path → KidOf kid c (shape_at (all_shapes text t e) c.type) l base
          → Walks (known text t e) (all_shapes text t e) log after tally
          (element_with levels e.mode (known text t e) (all_shapes text t e) kid path k (address_of base l k)) r
      walks path c l base tr o = (rw q at w).each path (index_in kid.instance.array k) (address_of base l k) tr refl (g.each path c l base tr o).place

      pub array_fault_lem : {n p : ℕ} → r ≡ fault n p → ArrayWalks text t before after e levels kid trail start (fault n p)
      array_fault_lem f =
          record {
            small = small_none;
            each = λ path c l base tr o.
                onto_fault (element_with levels e.mode (known text t e) (all_shapes text t e) kid path k (address_of base l k))
                (element_visits (visits_in levels e.mode (known text t e) (all_shapes text t e) c.type) path c base (shape_at (all_shapes text t e) c.type) l (suc k) (elements c.instance.array - suc k))
                (next path c l base tr o) (walks path c l base tr o) f;
          }

      pub array_on : {u : Total} {past : ℕ} → length after ≡ length log → r ≡ fine u → (past ≡ cut (address.0 + kid.stride)) × (past ≤ cap)
          → Arraying text t before e levels kid trail start (k + 1) (record { 0 = past }) u after
      array_on {u} {past} long f y =
          let z : k + 1 ≡ suc k = add-one k in
          rw z
          (record {
            low = y.1;
            small = w.small u f;
            long = long ∙ g.long;
            each = λ path c l base tr o.
                let p : (address_of base l k).0 + l.stride ≡ (address_of base l (suc k)).0 = omega arith in
                record {
                  place =
                      ap (λ (n : ℕ). record { 0 = n })
                      (y.0 ∙ ap (λ (n : Offset). cut (n.0 + kid.stride)) (g.each path c l base tr o).place ∙ ap (λ (n : ℕ). cut (cut (address_of base l k).0 + n)) o.stride
                      ∙ cut_sum (address_of base l k).0 l.stride ∙ ap cut p);
                  onto =
                      onto_on (element_with levels e.mode (known text t e) (all_shapes text t e) kid path k (address_of base l k))
                      (element_visits (visits_in levels e.mode (known text t e) (all_shapes text t e) c.type) path c base (shape_at (all_shapes text t e) c.type) l (suc k) (elements c.instance.array - suc k))
                      (next path c l base tr o) (walks path c l base tr o) f;
                };
          })
