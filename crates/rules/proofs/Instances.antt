-- Instances: the faults of one, and one more in the cells.
use mathlib.Core.Path.{◌≡◌, refl, sym, ap, ◌∙◌}
use mathlib.Core.Bool.{Bool, true, false}
use mathlib.Core.List.{List, [], ◌∷◌, ◌++◌}
use Prim.Native.Nat.{ℕ, suc, ◌+◌, ◌-◌, ◌<◌, ◌≤◌}
use native.Mathlib.Omega.{arith}
use lib.ListN.{length}
use Rattle.parts.specs.declared.Kind.{Kind}
use Rattle.parts.specs.declared.Instance.{Instance}
use Rattle.basics.specs.Limits.{text_limit, definition_limit}
use Rattle.chars.proofs.Laws.{same_equal}
use Rattle.parts.specs.Reading.{ok}
use Rattle.parts.specs.Parts.{instance_at}
use Rattle.identifiers.specs.Names.{bytes_of, is_among}
use Rattle.basics.specs.Judged.{Accepted, Refused}
use Rattle.basics.specs.Slices.{cell_of}
use Rattle.cells.specs.Cells.{entries_at, entry_of, instance_room, entry_places, link_bound, place_in, row_in}
use Rattle.cells.specs.Definitions.{Child, Definition, names_of}
use Rattle.cells.specs.Relation.{IsEntry, Block}
use Rattle.cells.proofs.Laws.{entry_place, entry_row}
use Rattle.name_tree.specs.declared.Spot.{Spot}
use Rattle.name_tree.specs.Tree.{is_entry_named, Linked, seek, grown}
use Rattle.name_tree.proofs.Found.{some_named, Finds}
use Rattle.name_tree.proofs.Finding.{seek_finds}
use Rattle.name_tree.proofs.Names.{same_own, bytes_short, entry_named, block_named}
use Rattle.parts.proofs.InstanceName.{instance_own}
use Rattle.name_tree.proofs.Growing.{grown-length, grown_last, grown_other, grown_place, grown_row, grown_grows, grows_linked}
use Rattle.scopes.specs.declared.Scope.{Scope}
use Rattle.rules.specs.Judge.{judge_instances}
use Rattle.rules.specs.Standing.{InstanceRules, HeldList, Typed, added_not, added_one, Adds}
use Rattle.rules.proofs.Frames.{kept_same, block_alike, block_more, sounds_more}

pub length_more : {A : Type 0} (xs : List A) (x : A) → length (xs ++ (x ∷ [])) ≡ suc (length xs)
length_more [] x = refl
length_more (y ∷ xs) x = ap suc (length_more xs x)

-- an instance of its name in a cell
module _ (text : List ℕ) (row : ℕ) (i : Instance) (low : i.name.start < entry_places) (few : row < definition_limit) where
  abbrev cell : ℕ
  cell = entry_of i.name.start row 0 0

  abbrev own : List ℕ
  own = bytes_of text i.name.start i.name.end

  new_entry : (at m : ℕ) → instance_at text at ≡ ok i m → IsEntry text cell (record { instance = i; type = row })
  new_entry at m e =
      record {
        next = m;
        reads = rw (entry_place i.name.start row 0 0 low few) (instance_own text at e);
        starts = entry_place i.name.start row 0 0 low few;
        type = entry_row i.name.start row 0 0 low few;
      }

  new_name : (at m : ℕ) → instance_at text at ≡ ok i m → is_entry_named text cell own ≡ true
  new_name at m e = entry_named text cell own (new_entry at m e) ∙ same_own own

  new_only : (at m : ℕ) → instance_at text at ≡ ok i m → (other : List ℕ) → is_entry_named text cell other ≡ true → other ≡ own
  new_only at m e other q = same_equal other own (sym (entry_named text cell other (new_entry at m e)) ∙ q)

-- a name is no longer than its text
pub name_short : (text : List ℕ) (start end : ℕ) {name : List ℕ} → name ≡ bytes_of text start end → length text ≤ text_limit → length name ≤ text_limit
name_short text start end e h = rw e (omega (arith, h, bytes_short text start end))

module _ (text t : List ℕ) (scope : Scope) (row : ℕ) (kind : Kind) (held : ℕ) (i : Instance) {from count : ℕ} {name : List ℕ} {spot : Spot}
    (first : scope.first ≤ held) (a : from ≡ entries_at + scope.first) (b : count ≡ held - scope.first) (c : name ≡ bytes_of text i.name.start i.name.end)
    (g : spot ≡ seek text t from count name) where
  f : Finds text t from count name spot
  f = rw g (seek_finds text t from count name)

  -- the tree tells whether the name stands before
  among : (table : List Definition) (cs : List Child) → HeldList text t scope.first table held cs → spot.taken ≡ is_among text i.name (names_of cs)
  among table cs l =
      let n : count ≡ length cs = omega (arith, b, l.count) in
      let e : some_named text t from count name ≡ is_among text i.name (names_of cs) = rw (a, n, c) (block_named text t i.name l.block) in
      by spot.taken refl e (rw (a, n) l.linked)
    where
      by : (x : Bool) → spot.taken ≡ x → some_named text t from count name ≡ is_among text i.name (names_of cs) → Linked text t from count → x ≡ is_among text i.name (names_of cs)
      by true q e k = sym (f.taken q) ∙ e
      by false q e k = sym (f.free q k) ∙ e

  pub add_not : {n p : ℕ} → InstanceRules spot.taken scope.enclosing kind i (Refused n p) → Adds text t t scope row kind held i (Refused n p)
  unfolding judge_instances
  add_not {n} {p} rules =
      record {
        long = refl;
        kept = λ x y a b. kept_same;
        each = λ at m table cs reads typed l. added_not {n = n} {p = p}
            (λ is. rw (among table cs l) at (sym (rules.each (judge_instances text scope.enclosing kind row is (cs ++ (record { instance = i; type = row } ∷ []))))));
      }

  module _ (few : held < instance_room) (low : i.name.start < entry_places) (small : row < definition_limit) (rules : InstanceRules spot.taken scope.enclosing kind i Accepted) where
    abbrev u : List ℕ
    u = grown t from count spot i.name.start row

    new : spot.taken ≡ false
    new = rules.new refl

    keep : (j : ℕ) → (from ≤ j → from + count < j) → cell_of u j ≡ cell_of t j
    keep j h = grown_other t from count spot i.name.start row j h

    added : (at m : ℕ) (table : List Definition) (cs : List Child) → instance_at text at ≡ ok i m → Typed table row kind → HeldList text t scope.first table held cs
        → HeldList text u scope.first table (suc held) (cs ++ (record { instance = i; type = row } ∷ []))
    added at m table cs reads typed l =
        let d : Child = record { instance = i; type = row } in
        let n : count ≡ length cs = omega (arith, b, l.count) in
        let h : count < link_bound = omega (arith, b, few) in
        let k : 0 < count → spot.node < count = λ p. (f.hangs new p).low in
        let w : from + count < length t = omega (arith, a, b, first, few, l.long) in
        let w' = grown_grows t from count spot i.name.start row h k w text name (rw c (new_name text row i low small at m reads)) (rw c (new_only text row i low small at m reads)) in
        let alike : (j : ℕ) → from ≤ j → j < from + length cs → (place_in (cell_of u j) ≡ place_in (cell_of t j)) × (row_in (cell_of u j) ≡ row_in (cell_of t j)) =
        (λ j p q.
        let z : from + (j - from) ≡ j = omega (arith, p) in
        let y : j - from < count = omega (arith, p, q, n) in
        (rw z at (grown_place t from count spot i.name.start row h k w (j - from) y), rw z at (grown_row t from count spot i.name.start row h k w (j - from) y))) in
        let old : Block text t from cs = rw a l.block in
        let all : Block text u from (cs ++ (d ∷ [])) = block_more (block_alike alike old) (rw (← n, grown_last t from count spot i.name.start row w) (new_entry text row i low small at m reads)) in
        let tree : Linked text u from (suc count) = grows_linked w' (λ p. f.hangs new p) (rw (a, n) l.linked) in
        let more = length_more cs d in
        let s : suc count ≡ length (cs ++ (d ∷ [])) = omega (arith, n, more) in
        record {
          long = rw (grown-length t from count spot i.name.start row) l.long;
          block = rw (← a) all;
          count = omega (arith, l.count, more);
          linked = rw (← a, ← s) tree;
          sound = sounds_more d l.sound typed.low (rw typed.kind_is (rules.sound refl));
        }

    pub add_one : {v : List ℕ} → v ≡ grown t from count spot i.name.start row → Adds text t v scope row kind held i Accepted
    unfolding judge_instances
    add_one s =
        rw s
        (record {
          long = grown-length t from count spot i.name.start row;
          kept = λ n m p q.
              record {
                long = grown-length t from count spot i.name.start row;
                rows = λ j h. keep j (λ x. absurd (omega (arith, a, h, p, x)));
                filed = λ j h k. keep j (λ x. omega (arith, a, b, first, h, q));
                opens = λ j h k. keep j (λ x. absurd (omega (arith, a, k, x)));
              };
          each = λ at m table cs reads typed l.
              let d : Child = record { instance = i; type = row } in
              added_one {ds = cs ++ (d ∷ [])} (added at m table cs reads typed l)
              (λ is. rw (among table cs l) at (sym (rules.each (judge_instances text scope.enclosing kind row is (cs ++ (d ∷ []))))));
        })
