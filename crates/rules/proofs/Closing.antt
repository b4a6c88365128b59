-- The end of a body: its definition is filed.
use mathlib.Core.Path.{◌≡◌, refl, ◌∙◌}
use mathlib.Core.Bool.{Bool, true, false}
use mathlib.Core.List.{List, [], ◌∷◌, ◌++◌}
use Prim.Native.Nat.{ℕ, zero, suc, ◌+◌, ◌-◌, ◌*◌, ◌<◌, ◌≤◌}
use native.Mathlib.Omega.{arith}
use lib.Dec.{ltb}
use lib.ListN.{length, get_or}
use borrow.Author.Tests.{lt-ltb, le-ltb, ltb-true, ltb-false}
use Rattle.parts.specs.declared.Kind.{Kind}
use Rattle.parts.specs.declared.Kind.TheVariants as kind
use Rattle.parts.specs.declared.Name.{Name}
use Rattle.parts.specs.declared.Header.{Header}
use Rattle.basics.specs.Limits.{definition_limit}
use Rattle.basics.specs.Judged.{unless, fine, fault, rule_number}
use Rattle.basics.specs.declared.Rule.{Rule}
use Rattle.properties.specs.Assigned.{nearest}
use Rattle.properties.specs.declared.Settings.{Settings}
use Rattle.components.specs.Components.{component_of, kind_of}
use Rattle.components.specs.declared.Component.{Component}
use Rattle.basics.specs.Slices.{cell_of, written}
use Rattle.cells.specs.Cells.{entries_at, size, values_of, values_in, value_cells, other_cells, component_in, first_in, name_in, below_in, moved, definition_width, instance_room}
use Rattle.cells.specs.declared.Values.{Values}
use Rattle.cells.specs.Definitions.{Child, Definition, no_definition, name_or}
use Rattle.cells.specs.Relation.{Block, block_end, block_on, IsRow}
use Rattle.cells.proofs.Laws.{written_same, written_other, written-length, moved_same, moved_other, moved_length, values_component}
use Rattle.closing_rules.specs.Registers.{closing_fault}
use Rattle.closing_rules.specs.Decoded.{closing_in}
use Rattle.closing_rules.proofs.Laws.{stored_closing}
use Rattle.scopes.specs.Walks.{first_filed, row_of, filed_cells, closed_walk}
use Rattle.scopes.specs.declared.Progress.{Progress}
use Rattle.scopes.specs.declared.Scope.{Scope}
use Rattle.rules.specs.Judge.{State, closed}
use Rattle.rules.specs.Standing.{FitsText, Kept, Standing, Closed, body_fault, body_on, body_stops, body_moves, Closing}
use Rattle.rules.proofs.Frames.{kept_same, row_kept, row_later, stored_of_lem}
use Rattle.rules.proofs.Instances.{length_more}

-- cells that were moved hold the same instances
block_moved : {text t u : List ℕ} {i k : ℕ} {cs : List Child} → ((j : ℕ) → j < length cs → cell_of u (k + j) ≡ cell_of t (i + j)) → Block text t i cs → Block text u k cs
block_moved same block_end = block_end
block_moved {text} {t} {u} {i} {k} same (block_on {c = c} {cs = cs} e b) =
    block_on {i = k} {c = c} {cs = cs}
    (let z : cell_of u k ≡ cell_of t i = (let x : k + 0 ≡ k = omega arith in let y : i + 0 ≡ i = omega arith in rw (x, y) at (same 0 (omega arith))) in rw z e)
    (block_moved (λ j l. let x : k + suc j ≡ suc k + j = omega arith in let y : i + suc j ≡ suc i + j = omega arith in rw (x, y) at (same (suc j) (omega (arith, l)))) b)

-- the cells of a definition that is filed: its row, and its instances moved
module _ (t : List ℕ) (n f first count : ℕ) (vs os : List ℕ) (seven : length vs ≡ 7) (five : length os ≡ 5) (low : n < definition_limit) (room : f + (first + count) ≤ instance_room) where
  -- where the instances come to stand
  abbrev place : ℕ
  place = entries_at + (instance_room - (f + count))

  abbrev values_put : List ℕ
  values_put = written t (n * definition_width) vs

  abbrev row_put : List ℕ
  row_put = written values_put (n * definition_width + 7) os

  abbrev pub cells_filed : List ℕ
  cells_filed = moved row_put (entries_at + first) place count

  row_outside : (j : ℕ) → (n * definition_width ≤ j → n * definition_width + 12 ≤ j) → cell_of row_put j ≡ cell_of t j
  row_outside j h =
      written_other values_put (n * definition_width + 7) os j (λ l. omega (arith, h (omega (arith, l)), five)) ∙ written_other t (n * definition_width) vs j (λ l. omega (arith, h l, seven))

  pub filed_kept : Kept t cells_filed n f first
  filed_kept =
      record {
        long = moved_length row_put (entries_at + first) place count ∙ written-length values_put (n * definition_width + 7) os ∙ written-length t (n * definition_width) vs;
        rows = λ j l. moved_other row_put (entries_at + first) place count j (λ k. absurd (omega (arith, k, l, low))) ∙ row_outside j (λ k. absurd (omega (arith, k, l)));
        filed = λ j l k. moved_other row_put (entries_at + first) place count j (λ m. omega (arith, l, room)) ∙ row_outside j (λ m. omega (arith, l, low, room));
        opens = λ j l k. moved_other row_put (entries_at + first) place count j (λ m. absurd (omega (arith, k, m, room))) ∙ row_outside j (λ m. omega (arith, l, low));
      }

  module _ (long : size ≤ length t) where
    pub filed_value : (k : ℕ) → k < 7 → cell_of cells_filed (n * definition_width + k) ≡ get_or vs k 0
    filed_value k l =
        moved_other row_put (entries_at + first) place count (n * definition_width + k) (λ m. absurd (omega (arith, m, l, low))) ∙
        written_other values_put (n * definition_width + 7) os (n * definition_width + k) (λ m. absurd (omega (arith, m, l))) ∙
        written_same t (n * definition_width) vs k (omega (arith, seven, long, low)) (omega (arith, seven, l))

    pub filed_other : (k : ℕ) → k < 5 → cell_of cells_filed (n * definition_width + 7 + k) ≡ get_or os k 0
    filed_other k l =
        moved_other row_put (entries_at + first) place count (n * definition_width + 7 + k) (λ m. absurd (omega (arith, m, l, low))) ∙
        written_same values_put (n * definition_width + 7) os k (omega (arith, five, long, low, written-length t (n * definition_width) vs)) (omega (arith, five, l))

    pub filed_moved : (k : ℕ) → k < count → cell_of cells_filed (place + k) ≡ cell_of t (entries_at + first + k)
    filed_moved k l =
        moved_same row_put (entries_at + first) place count k (omega (arith, room))
        (omega (arith, room, long, written-length values_put (n * definition_width + 7) os, written-length t (n * definition_width) vs)) l ∙
        row_outside (entries_at + first + k) (λ m. omega (arith, low))

values_of_cells : (u : List ℕ) (r : ℕ) (v : Values) → cell_of u (r * definition_width) ≡ v.kind → cell_of u (r * definition_width + 1) ≡ v.a → cell_of u (r * definition_width + 2) ≡ v.b → cell_of u (r * definition_width + 3) ≡ v.c
    → cell_of u (r * definition_width + 4) ≡ v.d → cell_of u (r * definition_width + 5) ≡ v.e → cell_of u (r * definition_width + 6) ≡ v.f → values_in u r ≡ v
unfolding values_in
values_of_cells u r v a b c d e f g = rw (a, b, c, d, e, f, g)

name_of_cells : (u : List ℕ) (r : ℕ) (m : Name) → cell_of u (r * definition_width + 9) ≡ m.start → cell_of u (r * definition_width + 10) ≡ m.end → name_in u r ≡ m
name_of_cells u r m a b = rw (a, b)

below_of_cell : (u : List ℕ) (r b : ℕ) → cell_of u (r * definition_width + 11) ≡ b → b ≤ r → below_in u r ≡ b
unfolding below_in
below_of_cell u r b a l = rw (a, le-ltb r b l)

-- the definitions with one more
pub get_or_before : {A : Type 0} (xs : List A) (x d : A) (r : ℕ) → r < length xs → get_or (xs ++ (x ∷ [])) r d ≡ get_or xs r d
get_or_before [] x d r l = absurd (omega arith)
get_or_before (y ∷ xs) x d zero l = refl
get_or_before (y ∷ xs) x d (suc r) l = get_or_before xs x d r (omega (arith, l))

pub get_or_last : {A : Type 0} (xs : List A) (x d : A) → get_or (xs ++ (x ∷ [])) (length xs) d ≡ x
get_or_last [] x d = refl
get_or_last (y ∷ xs) x d = get_or_last xs x d

pub kind_of_component : (k : Kind) (s : Settings) → kind_of (component_of k s) ≡ k
unfolding component_of
kind_of_component kind.Addrmap s = refl
kind_of_component kind.Regfile s = refl
kind_of_component kind.Reg s = refl
kind_of_component kind.Field s = refl

-- 0 is no rule's number
positive : (r : Rule) → 0 < rule_number r
positive r = grind arith

module _ (text t : List ℕ) (header : Header) (scope : Scope) (w : Progress) (brace next : ℕ) {c : Component} (e : c ≡ component_of header.kind (nearest w.assigned.own scope.defaults))
    {n : ℕ} (f : n ≡ closing_in text t (entries_at + scope.first) (entries_at + w.held) c) where
  fault_of_lem : (s : State) → Standing text t scope w s → n ≡ closing_fault s.known.table (component_of header.kind (nearest s.assigned.own scope.defaults)) s.held
  fault_of_lem s st =
      let z : entries_at + scope.first + length s.held ≡ entries_at + w.held = omega (arith, st.count) in
      let a = f ∙ stored_closing c (rw z at (stored_of_lem st.rows st.held st.sound)) in
      rw (e, st.assigned) at a

  pub close_fault : (r : Rule) → n ≡ rule_number r → Closing text t t header scope w brace next (fault n brace)
  unfolding closed unless
  close_fault r y =
      record {
        kept = kept_same;
        moves = body_stops;
        each = λ s st. rw (← fault_of_lem s st, lt-ltb 0 n (rw y (positive r))) body_fault;
      }

  module _ (g : FitsText (length text) scope w) (o : w.closed < w.opened) (past : w.at < next) (inside : next ≤ length text) where
    low : w.closed < definition_limit
    low = omega (arith, g.opened, o)

    room : w.filed + (scope.first + (w.held - scope.first)) ≤ instance_room
    room = omega (arith, g.room, g.inside, g.short, g.first)

    abbrev after : List ℕ
    after = cells_filed t w.closed w.filed scope.first (w.held - scope.first) (value_cells (values_of c)) (other_cells (row_of header scope w c)) refl refl low room

    after_kept : Kept t after w.closed w.filed scope.first
    after_kept = filed_kept t w.closed w.filed scope.first (w.held - scope.first) (value_cells (values_of c)) (other_cells (row_of header scope w c)) refl refl low room

    module _ (s : State) (st : Standing text t scope w s) where
      value_cell : (k : ℕ) → k < 7 → cell_of after (w.closed * definition_width + k) ≡ get_or (value_cells (values_of c)) k 0
      value_cell = filed_value t w.closed w.filed scope.first (w.held - scope.first) (value_cells (values_of c)) (other_cells (row_of header scope w c)) refl refl low room st.long

      other_cell : (k : ℕ) → k < 5 → cell_of after (w.closed * definition_width + 7 + k) ≡ get_or (other_cells (row_of header scope w c)) k 0
      other_cell = filed_other t w.closed w.filed scope.first (w.held - scope.first) (value_cells (values_of c)) (other_cells (row_of header scope w c)) refl refl low room st.long

      moved_cell : (k : ℕ) → k < w.held - scope.first → cell_of after (entries_at + first_filed scope w + k) ≡ cell_of t (entries_at + scope.first + k)
      moved_cell = filed_moved t w.closed w.filed scope.first (w.held - scope.first) (value_cells (values_of c)) (other_cells (row_of header scope w c)) refl refl low room st.long

      values_filed : values_in after w.closed ≡ values_of c
      values_filed =
          let z : w.closed * definition_width + 0 ≡ w.closed * definition_width = omega arith in
          values_of_cells after w.closed (values_of c) (rw z at (value_cell 0 (omega arith))) (value_cell 1 (omega arith)) (value_cell 2 (omega arith)) (value_cell 3 (omega arith))
          (value_cell 4 (omega arith)) (value_cell 5 (omega arith)) (value_cell 6 (omega arith))

      -- the cells of the row behind the component's values
      other : (k i : ℕ) → k < 5 → w.closed * definition_width + 7 + k ≡ i → cell_of after i ≡ get_or (other_cells (row_of header scope w c)) k 0
      other k i l z = rw z at (other_cell k l)

      first_filed_lem : first_in after w.closed ≡ first_filed scope w
      first_filed_lem = other 0 (w.closed * definition_width + 7) (omega arith) (omega arith)

      abbrev filed : Definition
      filed = record { name = name_or header.name; component = component_of header.kind (nearest s.assigned.own scope.defaults); instances = s.held }

      name_filed : name_in after w.closed ≡ filed.name
      name_filed = name_of_cells after w.closed (name_or header.name) (other 2 (w.closed * definition_width + 9) (omega arith) (omega arith)) (other 3 (w.closed * definition_width + 10) (omega arith) (omega arith))

      component_filed : component_in after w.closed ≡ filed.component
      component_filed =
          let a : component_in after w.closed ≡ c = rw values_filed (values_component c) in
          let b : c ≡ filed.component = rw (← st.assigned) e in
          a ∙ b

      row_filed : IsRow text after (w.filed + (w.held - scope.first)) w.closed filed
      row_filed =
          record {
            name = name_filed;
            component = component_filed;
            instances = rw first_filed_lem (block_moved (λ j l. moved_cell j (omega (arith, l, st.count))) st.held);
            count = other 1 (w.closed * definition_width + 8) (omega arith) (omega arith) ∙ (omega (arith, st.count));
            behind = rw first_filed_lem (omega (arith, room));
            within = rw first_filed_lem (omega (arith, room, st.count));
          }

      last_filed : get_or (s.known.table ++ (filed ∷ [])) w.closed no_definition ≡ filed
      last_filed = rw (← st.rows.count) (get_or_last s.known.table filed no_definition)

      each_row : (r : ℕ) → r < w.closed + 1 → IsRow text after (w.filed + (w.held - scope.first)) r (get_or (s.known.table ++ (filed ∷ [])) r no_definition)
      each_row r l = by (ltb r w.closed) refl
        where
          by : (b : Bool) → ltb r w.closed ≡ b → IsRow text after (w.filed + (w.held - scope.first)) r (get_or (s.known.table ++ (filed ∷ [])) r no_definition)
          by true x =
              let m : r < w.closed = ltb-true r w.closed x in
              rw (get_or_before s.known.table filed no_definition r (omega (arith, m, st.rows.count))) (row_later (omega arith) (row_kept after_kept r m (st.rows.each r m)))
          by false x =
              let m : w.closed ≡ r = (let y = ltb-false r w.closed x in omega arith) in
              rw (← m) (rw last_filed row_filed)

      definition_filed : Closed text after header scope next (record { table = s.known.table ++ (filed ∷ []); opened = s.known.opened }) (closed_walk scope w next)
      definition_filed =
          record {
            at = refl;
            long = rw after_kept.long st.long;
            opened = st.opened;
            rows = record { count = omega (arith, length_more s.known.table filed, st.rows.count); each = each_row };
            named = λ d q.
                let z : w.closed ≡ d = omega (arith, q) in
                rw (← z) name_filed;
            below = λ d q.
                let z : w.closed ≡ d = omega (arith, q) in
                rw (← z) (below_of_cell after w.closed scope.base (other 4 (w.closed * definition_width + 11) (omega arith) (omega arith)) (omega (arith, g.base, g.head)));
            kind_is = λ d q.
                let z : w.closed ≡ d = omega (arith, q) in
                rw (← z) (rw last_filed (kind_of_component header.kind (nearest s.assigned.own scope.defaults)));
          }

    pub close_on : n ≡ 0 → {u : List ℕ} {v : Progress} → u ≡ filed_cells t header scope w c → v ≡ closed_walk scope w next → Closing text t u header scope w brace next (fine v)
    unfolding closed unless filed_cells
    close_on y {u} x z =
        rw (x, z)
        (record {
          kept = after_kept;
          moves =
              body_moves {v = closed_walk scope w next}
              (record {
                inside = inside;
                past = past;
                room = omega (arith, g.room, g.first, past);
                closed = omega arith;
                filed = omega arith;
                held = refl;
                gap = omega arith;
                opened = g.opened;
              });
          each = λ s st. rw (← fault_of_lem s st, y) (body_on (definition_filed s st));
        })
