-- The elements of a map: each is of a definition, and its path ends with its own step. Said once, of any property of the steps.
use mathlib.Core.Bool.{Bool, true, false}
use mathlib.Core.Path.{◌≡◌, refl}
use mathlib.Core.List.{List, [], ◌∷◌, ◌++◌}
use Prim.Native.Nat.{ℕ, zero, suc, ◌+◌, ◌<◌, ◌≤◌}
use native.Mathlib.Omega.{arith}
use lib.ListN.{length}
use Rattle.fields.specs.declared.Offset.{Offset}
use Rattle.cells.specs.Definitions.{Child, Definition, definition_of}
use Rattle.rules.proofs.Instances.{length_more}
use Rattle.layout.specs.Layout.{elements, bottom, shape_at, laid_from, alignment_of}
use Rattle.layout.specs.declared.Shape.{Shape}
use Rattle.layout.specs.declared.Laid.{Laid}
use Rattle.basics.specs.All.{All, all_none, all_more}
use Rattle.basics.proofs.All.{all_append, all_map}
use Rattle.map_rules.specs.Visits.{PathStep, Visit, index_in, is_group, address_of, element_visits, child_visits, of_group, visits_in}

-- the step of an instance's element
abbrev pub step_for : Child → ℕ → PathStep
step_for c k = record { name = c.instance.name; index = index_in c.instance.array k }

-- an instance of one of the first `rows` definitions, the steps of whose elements keep P
pub record Stepped (rows : ℕ) (P : PathStep → Type 0) (c : Child) : Type 0 where
  pub below : c.type < rows
  pub step : (k : ℕ) → k < elements c.instance.array → P (step_for c k)

-- an element: of one of these definitions, and its path, longer than `depth`, keeps P and ends with its own step
pub record Seen (rows : ℕ) (P : PathStep → Type 0) (depth : ℕ) (v : Visit) : Type 0 where
  pub low : v.type < rows
  pub before : List PathStep
  pub last : PathStep
  pub whole : v.path ≡ before ++ (last ∷ [])
  pub named : last.name ≡ v.name
  pub steps : All P v.path
  pub deeper : depth < length v.path

seen_above : {rows : ℕ} {P : PathStep → Type 0} {d k : ℕ} (v : Visit) → d ≤ k → Seen rows P k v → Seen rows P d v
seen_above v h s =
    record { low = s.low; before = s.before; last = s.last; whole = s.whole; named = s.named; steps = s.steps; deeper = omega (arith, h, s.deeper) }

group_all : {P : Visit → Type 0} (b : Bool) {vs : List Visit} → (b ≡ true → All P vs) → All P (of_group b vs)
group_all true h = h refl
group_all false h = all_none

module _ (rows : ℕ) (P : PathStep → Type 0) where
  elements_seen : (content : Offset → List PathStep → List Visit) (path : List PathStep) (c : Child) (base : Offset) (s : Shape) (l : Laid) (k n : ℕ)
      → Stepped rows P c → All P path → k + n ≤ elements c.instance.array
      → ((address : Offset) (here : List PathStep) → All P here → All (Seen rows P (length here)) (content address here))
      → All (Seen rows P (length path)) (element_visits content path c base s l k n)
  unfolding element_visits
  elements_seen content path c base s l k zero h a f inner = all_none
  elements_seen content path c base s l k (suc n) h a f inner =
      let step : PathStep = step_for c k in
      let here : List PathStep = path ++ (step ∷ []) in
      let long : length here ≡ suc (length path) = length_more path step in
      let b : All P here = all_append a (all_more (h.step k (omega (arith, f))) all_none) in
      all_more (record { low = h.below; before = path; last = step; whole = refl; named = refl; steps = b; deeper = omega (arith, long) })
      (all_append (all_map (λ v s. seen_above v (omega (arith, long)) s) (inner (address_of base l k) here b))
      (elements_seen content path c base s l (suc k) n h a (omega (arith, f)) inner))

  children_seen : (content : ℕ → Offset → List PathStep → List Visit) (shapes : List Shape) (path : List PathStep) (base : Offset) {cs : List Child} (ls : List Laid)
      → All (Stepped rows P) cs → All P path
      → ((d : ℕ) (address : Offset) (here : List PathStep) → d < rows → All P here → All (Seen rows P (length here)) (content d address here))
      → All (Seen rows P (length path)) (child_visits content shapes path base cs ls)
  unfolding child_visits
  children_seen content shapes path base ls all_none a inner = all_none
  children_seen content shapes path base [] (all_more h hs) a inner = all_none
  children_seen content shapes path base (l ∷ ls) (all_more {x = c} h hs) a inner =
      all_append
      (elements_seen (content c.type) path c base (shape_at shapes c.type) l 0 (elements c.instance.array) h a (omega arith) (λ address here b. inner c.type address here h.below b))
      (children_seen content shapes path base ls hs a inner)

  module _ (table : List Definition) (shapes : List Shape) (mode : ℕ)
      (instances : (d : ℕ) → d < rows → is_group (definition_of table d).component ≡ true → All (Stepped rows P) (definition_of table d).instances) where
    pub visits_seen : (levels row : ℕ) (base : Offset) (path : List PathStep) → row < rows → All P path → All (Seen rows P (length path)) (visits_in levels mode table shapes row base path)
    unfolding visits_in
    visits_seen zero row base path low a = all_none
    visits_seen (suc levels) row base path low a =
        let d : Definition = definition_of table row in
        group_all (is_group d.component)
        (λ g. children_seen (visits_in levels mode table shapes) shapes path base (laid_from mode (alignment_of d.component) shapes bottom d.instances) (instances row low g) a
        (λ d address here l b. visits_seen levels d address here l b))
