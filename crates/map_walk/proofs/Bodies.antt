-- The instances of a body, one after another.
use mathlib.Core.Path.{◌≡◌, refl, sym, ap, ◌∙◌}
use mathlib.Core.Bool.{Bool, true, false, ◌&&◌}
use mathlib.Core.List.{List, [], ◌∷◌, ◌++◌}
use Prim.Native.Nat.{ℕ, suc, ◌+◌, ◌-◌, ◌*◌, ◌/◌, ◌≤◌, ◌<◌}
use native.Mathlib.Nat.{lt-div-mul-add}
use native.Mathlib.Numerals.{add-one}
use native.Mathlib.Omega.{arith}
use lib.Dec.{ltb}
use lib.ListN.{length}
use borrow.Author.Tests.{lt-ltb, le-ltb, ltb-true, ltb-false}
use Rattle.parts.specs.declared.Instance.{Instance}
use Rattle.suffixes.specs.Suffixes.{is_array}
use Rattle.basics.specs.Given.{or_else}
use Rattle.components.specs.Components.{kind_of}
use Rattle.fields.specs.declared.Offset.{Offset}
use Rattle.basics.specs.Slices.{cell_of}
use Rattle.cells.specs.Cells.{entries_at, first_in, count_in, size}
use Rattle.cells.specs.Definitions.{Child, definition_of}
use Rattle.cells.specs.Decoded.{child_in}
use Rattle.cells.proofs.Laws.{child_entry}
use Rattle.cells.specs.Relation.{IsEntry, Block, block_end, block_on}
use Rattle.capped.specs.Offsets.{cap, cut, raised}
use Rattle.capped.proofs.Laws.{cut_bound, cut_low, cut_high, cut_sum, alignment_low}
use Rattle.layout.specs.declared.Shape.{Shape}
use Rattle.layout.specs.declared.Laid.{Laid}
use Rattle.layout.specs.Fitting.{Layable}
use Rattle.layout.specs.Layout.{bottom, shape_at, elements, stride_or, stride_of, laid, laid_from, cut_shape, cut_offset, cut_laid}
use Rattle.layout.proofs.Laws.{sound-elements, sound_stride}
use Rattle.map_rules.specs.Visits.{PathStep, Visit, element_visits, child_visits, visits_in}
use Rattle.sizes.specs.declared.Extent.{Extent}
use Rattle.sizes.specs.Ready.{known}
use Rattle.sizes.specs.Shapes.{shape_in, all_shapes, GroupRow}
use Rattle.sizes.proofs.Laws.{fine_parts, ready_block, ready_count}
use Rattle.sizes.proofs.Children.{ReadyChild, ReadyChildren, ready_more, ready_children, ready_laid}
use Rattle.map_walk.specs.declared.Trail.{Trail}
use Rattle.map_walk.specs.Runs.{Total}
use Rattle.map_walk.specs.declared.Kid.{Kid}
use Rattle.map_walk.specs.Walks.{Shaped, Small, Trails, Walks, KidOf, KidMade, KidFits, ArrayWalks, ChildrenWalk}
use Rattle.map_walk.proofs.Runs.{Onto, onto_start, onto_end, onto_on, onto_fault}
use Rattle.map_walk.proofs.Contents.{small_same, small_none}
use Rattle.std.specs.Prelude.{Option, Some, None}
use Rattle.expressions.specs.declared.Number.{Number}
use Rattle.basics.specs.Judged.{Judged, fine, fault}

-- 19, from numbers cut at the cap: a given stride is below the cap, and a default one is not below the size
raised_above : (x s : ℕ) → 1 ≤ s → x ≤ raised x s
unfolding raised
raised_above x s p =
    let q : x + (s - 1) < (x + (s - 1)) / s * s + s = lt-div-mul-add p in
    omega arith

less_cut : (n size : ℕ) → n < cap → ltb (cut n) (cut size) ≡ ltb n size
less_cut n size h = by (ltb size cap) refl
  where
    by : (b : Bool) → ltb size cap ≡ b → ltb (cut n) (cut size) ≡ ltb n size
    by true e = rw (cut_low n h, cut_low size (ltb-true size cap e))
    by false e =
        let l : cap ≤ size = ltb-false size cap e in
        rw (cut_low n h, cut_high size l) (lt-ltb n cap h ∙ sym (lt-ltb n size (omega (arith, h, l))))

above_cut : (n size : ℕ) → size ≤ n → ltb (cut n) (cut size) ≡ ltb n size
above_cut n size h = by (ltb n cap) refl
  where
    by : (b : Bool) → ltb n cap ≡ b → ltb (cut n) (cut size) ≡ ltb n size
    by true e = less_cut n size (ltb-true n cap e)
    by false e = rw (cut_high n (ltb-false n cap e)) (le-ltb cap (cut size) (cut_bound size) ∙ sym (le-ltb n size h))

stride_cut : (x : Option (ℕ × Number)) (size step : ℕ) → stride_or x 1 ≤ 4294967295 → 1 ≤ step → ltb (cut (stride_or x (raised size step))) (cut size) ≡ ltb (stride_or x (raised size step)) size
stride_cut None size step h p = above_cut (raised size step) size (raised_above size step p)
stride_cut (Some (mark, n)) size step h p = less_cut n.value size (omega (arith, h))

short_cut : (m : ℕ) (a : Option ℕ) (s : Shape) (i : Instance) (end : Offset) → stride_or i.stride 1 ≤ 4294967295 → 1 ≤ or_else 1 a
    → ltb (cut (laid m a s i end).stride) (cut s.size) ≡ ltb (laid m a s i end).stride s.size
unfolding laid stride_of
short_cut m a s i end h p = stride_cut i.stride s.size (or_else 1 a) h p

-- the first of the instances that are left
record Ahead (text t : List ℕ) (e : Extent) (row : ℕ) (a : Option ℕ) (i : ℕ) (rest : List Child) : Type 0 where
  child : Child
  others : List Child
  whole : rest ≡ child ∷ others
  entry : IsEntry text (cell_of t i) child
  block : Block text t (suc i) others
  ready : ReadyChild text t e row a child
  children : ReadyChildren text t e row a others

ahead_of : {text t : List ℕ} {e : Extent} {row : ℕ} {a : Option ℕ} {i to : ℕ} {rest : List Child} → i < to → i + length rest ≡ to → Block text t i rest → ReadyChildren text t e row a rest → Ahead text t e row a i rest
ahead_of l e block_end f = absurd (omega arith)
ahead_of l e (block_on {c = c} {cs = cs} x b) (ready_more y f) = record { child = c; others = cs; whole = refl; entry = x; block = b; ready = y; children = f }

none_left : {text t : List ℕ} {i to : ℕ} {rest : List Child} → to ≤ i → i + length rest ≡ to → Block text t i rest → rest ≡ []
none_left l e block_end = refl
none_left l e (block_on x b) = absurd (omega arith)

module _ (content : ℕ → Offset → List PathStep → List Visit) (shapes : List Shape) (path : List PathStep) (base : Offset) (m : ℕ) (a : Option ℕ) (end : Offset) where
  children_none : {cs : List Child} → cs ≡ [] → child_visits content shapes path base cs (laid_from m a shapes end cs) ≡ []
  unfolding child_visits
  children_none e = rw e

  children_more : (c : Child) (cs : List Child) {rest : List Child} → rest ≡ c ∷ cs
      → child_visits content shapes path base rest (laid_from m a shapes end rest)
      ≡ element_visits (content c.type) path c base (shape_at shapes c.type) (laid m a (shape_at shapes c.type) c.instance end) 0 (elements c.instance.array) ++
      child_visits content shapes path base cs (laid_from m a shapes (laid m a (shape_at shapes c.type) c.instance end).end cs)
  unfolding child_visits laid_from
  children_more c cs e = rw e

-- the instances of a row's body
abbrev body_of : List ℕ → List ℕ → Extent → ℕ → List Child
body_of text t e row = (definition_of (known text t e) row).instances

-- the elements of some instances, laid behind an offset
abbrev walk_of : List ℕ → List ℕ → Extent → ℕ → Option ℕ → List PathStep → Offset → Offset → List Child → List Visit
walk_of text t e levels a path address end cs =
    child_visits (visits_in levels e.mode (known text t e) (all_shapes text t e)) (all_shapes text t e) path address cs (laid_from e.mode a (all_shapes text t e) end cs)

pub record Walking (text t before : List ℕ) (e : Extent) (levels row : ℕ) (a : Option ℕ) (base : Offset) (trail : Trail) (start : Total) (to i : ℕ) (end : Offset) (tally : Total) (log : List ℕ) : Type 0 where
  pub small : Small tally
  pub long : length log ≡ length before
  pub rest : List Child
  pub block : Block text t i rest
  pub until : i + length rest ≡ to
  pub children : ReadyChildren text t e row a rest
  pub behind : Offset
  pub cut_end : end ≡ cut_offset behind
  pub each : (path : List PathStep) (address : Offset) → Trails trail path → base ≡ cut_offset address
      → Onto (known text t e) (all_shapes text t e) before start (walk_of text t e levels a path address bottom (body_of text t e row)) log tally (walk_of text t e levels a path address behind rest)

module _ (text t before : List ℕ) (e : Extent) (levels row : ℕ) (a : Option ℕ) (base : Offset) (trail : Trail) (start : Total) where
  pub walking_start : {s : List ℕ} {from to : ℕ} → Shaped text t s e → row < e.rows → GroupRow t row a → Small start → (from ≡ entries_at + first_in t row) × (to ≡ from + count_in t row)
      → Walking text t before e levels row a base trail start to from (record { 0 = 0 }) start before
  walking_start {s} {from} {to} sh low g small span =
      record {
        small = small;
        long = refl;
        rest = (definition_of (known text t e) row).instances;
        block = rw span.0 (ready_block text t e row sh.ready low);
        until = omega (arith, span.1, ready_count text t e row sh.ready low);
        children = ready_children text t e row a sh.ready low g;
        behind = bottom;
        cut_end = let w : cut 0 ≡ 0 = cut_low 0 (omega arith) in rw w;
        each = λ path address tr b. onto_start;
      }

  module _ {to i : ℕ} {end : Offset} {tally : Total} {log : List ℕ} (g : Walking text t before e levels row a base trail start to i end tally log) where
    pub walking_low : end.0 ≤ cap
    walking_low = rw g.cut_end (cut_bound g.behind.0)

    pub walking_end : to ≤ i → ChildrenWalk text t before log e levels row a base trail start (fine tally)
    walking_end h =
        let z : g.rest ≡ [] = none_left h g.until g.block in
        record {
          small = small_same g.small;
          each = λ path address tr b.
              onto_end (rw (children_none (visits_in levels e.mode (known text t e) (all_shapes text t e)) (all_shapes text t e) path address e.mode a g.behind z) at (g.each path address tr b));
        }

    module _ (h : i < to) where
      ahead : Ahead text t e row a i g.rest
      ahead = ahead_of h g.until g.block g.children

      module _ {y : Judged (ℕ × Instance)} (r : y ≡ child_in text (cell_of t i)) where
        same_child : y ≡ fine (ahead.child.type, ahead.child.instance)
        same_child = r ∙ child_entry text (cell_of t i) ahead.entry

        pub walking_stop : {n q : ℕ} {w : Judged Total} → y ≡ fault n q → ChildrenWalk text t before log e levels row a base trail start w
        walking_stop f = let w = same_child in absurd cc

        module _ {s : List ℕ} (sh : Shaped text t s e) (low : row < e.rows) {it : Instance} {k : ℕ} {shape : Shape} (d : y ≡ fine (k, it)) (z : shape ≡ shape_in s k) where
          same_instance : it ≡ ahead.child.instance
          same_instance = (fine_parts (sym d ∙ same_child)).1

          same_type : k ≡ ahead.child.type
          same_type = (fine_parts (sym d ∙ same_child)).0

          type_low : ahead.child.type < e.rows
          type_low = omega (arith, ahead.ready.below, low)

          same_shape : shape ≡ cut_shape (shape_at (all_shapes text t e) ahead.child.type)
          same_shape = z ∙ ap (shape_in s) same_type ∙ sh.shapes.each ahead.child.type type_low

          pub walking_fits : Layable a shape it
          walking_fits = rw (same_shape, same_instance) ahead.ready.fitting

          module _ {u : Laid} (f : (u ≡ cut_laid (laid e.mode a shape it end)) × (u.end.0 ≤ cap)) where
            abbrev whole : Laid
            whole = laid e.mode a (shape_at (all_shapes text t e) ahead.child.type) ahead.child.instance g.behind

            same_laid : u ≡ cut_laid whole
            same_laid =
                f.0 ∙ ap (λ (v : Shape). cut_laid (laid e.mode a v it end)) same_shape
                ∙ ap (λ (v : Instance). cut_laid (laid e.mode a (cut_shape (shape_at (all_shapes text t e) ahead.child.type)) v end)) same_instance
                ∙ ap (λ (v : Offset). cut_laid (laid e.mode a (cut_shape (shape_at (all_shapes text t e) ahead.child.type)) ahead.child.instance v)) g.cut_end
                ∙ ready_laid text t e row a ahead.child g.behind ahead.ready

            pub walking_placed : base.0 ≤ cap → (base.0 ≤ cap) × (u.start.0 ≤ cap)
            walking_placed b = (b, rw same_laid (cut_bound whole.start.0))

            module _ {kid : Kid} (made : KidMade k it shape u base kid) where
              pub walking_kid : KidFits e kid
              walking_kid =
                  let q = sound-elements (kind_of (definition_of (known text t e) ahead.child.type).component) ahead.child.instance ahead.ready.addressed ahead.ready.sound in
                  record {
                    row = rw (made.row, same_type) type_low;
                    address = made.low;
                    stride = rw (made.stride, same_laid) (cut_bound whole.stride);
                    count = rw (made.instance, same_instance) (omega (arith, q.1));
                  }

              kid_is : (address : Offset) → base ≡ cut_offset address → KidOf kid ahead.child (shape_at (all_shapes text t e) ahead.child.type) whole address
              kid_is address b =
                  let q = sound_stride (kind_of (definition_of (known text t e) ahead.child.type).component) ahead.child.instance ahead.ready.addressed ahead.ready.sound in
                  let w : ltb (cut whole.stride) (cut (shape_at (all_shapes text t e) ahead.child.type).size) ≡ ltb whole.stride (shape_at (all_shapes text t e) ahead.child.type).size =
                  short_cut e.mode a (shape_at (all_shapes text t e) ahead.child.type) ahead.child.instance g.behind q.1 (alignment_low (or_else 1 a) ahead.ready.fitting.aligned) in
                  record {
                    row = made.row ∙ same_type;
                    instance = made.instance ∙ same_instance;
                    address =
                        made.address ∙ ap (λ (v : Laid). cut (base.0 + v.start.0)) same_laid ∙ ap (λ (v : Offset). cut (v.0 + cut whole.start.0)) b ∙ cut_sum address.0 whole.start.0;
                    stride = made.stride ∙ ap (λ (v : Laid). v.stride) same_laid;
                    short =
                        made.short ∙ ap (λ (v : Instance). is_array v.array && ltb u.stride shape.size) same_instance
                        ∙ ap (λ (v : Laid). is_array ahead.child.instance.array && ltb v.stride shape.size) same_laid
                        ∙ ap (λ (v : Shape). is_array ahead.child.instance.array && ltb (cut whole.stride) v.size) same_shape
                        ∙ ap (λ (v : Bool). is_array ahead.child.instance.array && v) w;
                  }

              module _ {after : List ℕ} {q : Judged Total} (w : ArrayWalks text t log after e levels kid trail tally q) where
                abbrev elements_ahead : List PathStep → Offset → List Visit
                elements_ahead path address =
                    element_visits (visits_in levels e.mode (known text t e) (all_shapes text t e) ahead.child.type) path ahead.child address (shape_at (all_shapes text t e) ahead.child.type) whole 0
                    (elements ahead.child.instance.array)

                next : (path : List PathStep) (address : Offset) → Trails trail path → base ≡ cut_offset address
                    → Onto (known text t e) (all_shapes text t e) before start (walk_of text t e levels a path address bottom (body_of text t e row)) log tally
                    (elements_ahead path address ++ walk_of text t e levels a path address whole.end ahead.others)
                next path address tr b =
                    rw (children_more (visits_in levels e.mode (known text t e) (all_shapes text t e)) (all_shapes text t e) path address e.mode a g.behind ahead.child ahead.others ahead.whole) at (g.each path address tr b)

                walks : (path : List PathStep) (address : Offset) → Trails trail path → base ≡ cut_offset address → Walks (known text t e) (all_shapes text t e) log after tally (elements_ahead path address) q
                walks path address tr b = w.each path ahead.child whole address tr (kid_is address b)

                pub walking_fault : {n v : ℕ} → q ≡ fault n v → ChildrenWalk text t before after e levels row a base trail start (fault n v)
                walking_fault l =
                    record {
                      small = small_none;
                      each = λ path address tr b. onto_fault (elements_ahead path address) (walk_of text t e levels a path address whole.end ahead.others) (next path address tr b) (walks path address tr b) l;
                    }

                pub walking_on : {v : Total} → length after ≡ length log → q ≡ fine v → Walking text t before e levels row a base trail start to (i + 1) u.end v after
                walking_on {v} long l =
                    record {
                      small = w.small v l;
                      long = long ∙ g.long;
                      rest = ahead.others;
                      block = rw (add-one i) ahead.block;
                      until = let m : length g.rest ≡ suc (length ahead.others) = ap length ahead.whole in omega (arith, m, g.until);
                      children = ahead.children;
                      behind = whole.end;
                      cut_end = ap (λ (b : Laid). b.end) same_laid;
                      each = λ path address tr b. onto_on (elements_ahead path address) (walk_of text t e levels a path address whole.end ahead.others) (next path address tr b) (walks path address tr b) l;
                    }
