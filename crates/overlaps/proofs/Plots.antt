-- Laws of the log's registers, in the form that the proofs use: their stretches say what the map's registers say.
use mathlib.Core.Bool.{Bool, true, false, ◌||◌, ◌&&◌, not}
use mathlib.Core.Path.{◌≡◌, refl, sym, ap, ◌∙◌}
use mathlib.Core.List.{List, []}
use Prim.Native.Nat.{ℕ, ◌+◌, ◌-◌, ◌*◌, ◌^◌, ◌<◌, ◌≤◌}
use native.Mathlib.Omega.{arith}
use native.Mathlib.Decide.{dec_lt}
use lib.Dec.{ltb}
use lib.ListN.{length, get_or, set}
use lib.Seq.{get_or-set_same, get_or-set_other}
use Rattle.basics.specs.Limits.{definition_limit, nest_limit, register_limit, address_end}
use Rattle.basics.specs.Slices.{cell_of}
use Rattle.fields.specs.Codes.{access_code}
use Rattle.fields.specs.declared.AccessRight.TheVariants as access
use Rattle.fields.specs.declared.Offset.{Offset}
use Rattle.orders.specs.Order.{Sorts}
use Rattle.orders.specs.Keys.{Keyed}
use Rattle.orders.specs.Unique.{meets, first_meeting, SomeMeeting}
use Rattle.orders.proofs.Unique.{first_clear, first_within}
use Rattle.cells.specs.Definitions.{Definition}
use Rattle.layout.specs.Layout.{shape_at}
use Rattle.layout.specs.declared.Shape.{Shape}
use Rattle.sizes.specs.declared.Extent.{Extent}
use Rattle.sizes.specs.Ready.{known}
use Rattle.sizes.specs.Shapes.{shape_in, all_shapes}
use Rattle.map_rules.specs.Visits.{Visit}
use Rattle.map_rules.specs.Whole.{has_access, is_pair, is_shared_lawfully, overlap_registers, overlapping}
use Rattle.register_log.specs.Log.{log_width, address_bound, depth_bound, head_address, head_row, head_depth, step_start}
use Rattle.register_log.proofs.Laws.{head_address_lem, head_row_lem, head_depth_lem}
use Rattle.capped.specs.Offsets.{cut}
use Rattle.map_walk.specs.Runs.{step_numbers}
use Rattle.map_walk.specs.Walks.{LogRow, visit_at, no_visit, elements_of, registers_of}
use Rattle.overlaps.specs.declared.Plot.{Plot}
use Rattle.overlaps.specs.Charted.{Charted, plot_in, last_place}
use Rattle.overlaps.specs.Sweeps.{register_count, start_in, stretch_in, clash, clash_in, LowStarts, Sweepable}
use Rattle.basics.proofs.All.{all_at}
use Rattle.overlaps.proofs.Access.{register_once}
use Rattle.overlaps.proofs.Visits.{padded_cell, seen_length, seen_place, register_size, register_whole, RegisterSeen, registers_seen}
use Rattle.overlaps.proofs.Overlaps.{registers_decide, FaultOf, Agrees, first_fault}
use Rattle.overlaps.proofs.Sweeps.{Lined}
use Rattle.basics.specs.Judged.{Verdict, Accepted, Refused}

-- the accesses of a type's fields
abbrev read_only : List Definition → ℕ → Bool
read_only table row = has_access table (access_code access.R) row

abbrev write_only : List Definition → ℕ → Bool
write_only table row = has_access table (access_code access.W) row

-- an address's number
abbrev number : Offset → ℕ
number o = o.0

-- a register of the log is one of the map's
pub record PlotOf (shapes : List Shape) (v : Visit) (p : Plot) : Type 0 where
  pub row : p.row ≡ v.type
  pub address : p.address ≡ v.address
  pub size : p.size ≡ (shape_at shapes v.type).size

module _ (text t s log : List ℕ) (e : Extent) (row : ℕ) (c : Charted text t s log e row) (i : ℕ) (h : i < length (registers_of text t e row)) where
  abbrev visit : Visit
  visit = visit_at (registers_of text t e row) i

  seen_at : RegisterSeen text t e (visit_at (registers_of text t e row) i)
  seen_at = all_at no_visit i (registers_seen text t e row c.shaped.ready c.low c.sound) h

  log_at : LogRow log i (visit_at (registers_of text t e row) i)
  log_at = c.logs.each i h

  type_low : (visit_at (registers_of text t e row) i).type < e.rows
  type_low = seen_at.seen.low

  pub index_few : i ≤ register_limit
  index_few = omega (arith, h, c.few)

  -- what its head holds
  row_few : (visit_at (registers_of text t e row) i).type < definition_limit
  row_few = omega (arith, type_low, c.shaped.ready.few)

  address_few : cut (visit_at (registers_of text t e row) i).address.0 < address_bound
  address_few = omega (arith, seen_at.exact, seen_at.sited.within)

  depth_few : length (visit_at (registers_of text t e row) i).path < depth_bound
  depth_few = omega (arith, seen_at.shallow)

  pub logged_address : head_address (cell_of log (i * log_width)) ≡ (visit_at (registers_of text t e row) i).address.0
  logged_address = ap head_address log_at.head ∙ head_address_lem (cut visit.address.0) visit.type (length visit.path) address_few row_few depth_few ∙ seen_at.exact

  pub logged_row : head_row (cell_of log (i * log_width)) ≡ (visit_at (registers_of text t e row) i).type
  logged_row = ap head_row log_at.head ∙ head_row_lem (cut visit.address.0) visit.type (length visit.path) address_few row_few depth_few

  pub logged_depth : head_depth (cell_of log (i * log_width)) ≡ length (visit_at (registers_of text t e row) i).path
  logged_depth = ap head_depth log_at.head ∙ head_depth_lem (cut visit.address.0) visit.type (length visit.path) address_few row_few depth_few

  plot_of : PlotOf (all_shapes text t e) (visit_at (registers_of text t e row) i) (plot_in s log i)
  unfolding plot_in
  plot_of =
      let shape : Shape = shape_at (all_shapes text t e) visit.type in
      record {
        row = logged_row;
        address = ap (λ (n : ℕ). record { 0 = n }) logged_address;
        size =
            ap (λ (n : ℕ). (shape_in s n).size) logged_row ∙ ap (λ (z : Shape). z.size) (c.shaped.shapes.each visit.type type_low)
            ∙ ap (λ (z : Shape). z.size) (register_whole text t e visit.type seen_at.type);
      }

  plot_is : {p : Plot} → p ≡ plot_in s log i → PlotOf (all_shapes text t e) (visit_at (registers_of text t e row) i) p
  plot_is f = rw f plot_of

  pub plot_low : {p : Plot} → p ≡ plot_in s log i → p.row < e.rows
  plot_low f = rw (plot_is f).row type_low

  plot_end : (plot_in s log i).address.0 + (plot_in s log i).size ≤ address_end
  plot_end = omega (arith, ap number plot_of.address, plot_of.size, seen_at.sited.within)

  pub plot_sum : {p : Plot} → p ≡ plot_in s log i → p.address.0 + p.size < 2 ^ 64
  plot_sum f = rw f (omega (arith, plot_end))

  stretch_full : (stretch_in (known text t e) s log i).start < (stretch_in (known text t e) s log i).end
  unfolding stretch_in
  stretch_full = omega (arith, plot_of.size, register_size text t e visit.type seen_at.type)

  start_low : start_in log i ≤ address_end
  start_low = omega (arith, logged_address, seen_at.sited.within)

  -- it is not both read-only and write-only
  once : (read_only (known text t e) visit.type && write_only (known text t e) visit.type) ≡ false
  once = register_once text t e visit.type c.shaped.ready type_low seen_at.type.known_as

  -- its name's place is that of its path's last step
  pub named_at : last_place log i ≡ (visit_at (registers_of text t e row) i).name.start
  unfolding last_place
  named_at =
      let n : ℕ = length visit.path in
      let l = seen_length text t e 0 visit seen_at.seen in
      let z : i * log_width + n ≡ i * log_width + 1 + (n - 1) = omega (arith, l) in
      let k : n - 1 < nest_limit = omega (arith, l, seen_at.shallow) in
      ap (λ (m : ℕ). step_start (cell_of log (i * log_width + m))) logged_depth ∙ ap (λ (m : ℕ). step_start (cell_of log m)) z
      ∙ ap step_start (log_at.steps (n - 1) k ∙ padded_cell nest_limit (step_numbers visit.path) (n - 1) k) ∙ seen_place text t e 0 visit seen_at.seen

-- ---- the stretches of two registers clash where the registers overlap

-- two registers neither of which is both read-only and write-only are both readable, or both writable, or lawfully shared
sides_lawful : (ri wi rj wj : Bool) → (ri && wi) ≡ false → (rj && wj) ≡ false
    → ((not wi && not wj) || (not ri && not rj)) ≡ not ((rj && wi) || (ri && wj))
sides_lawful true true rj wj a b = absurd (let z : ◌≡◌ {A = ℕ} 0 1 = cc in omega arith)
sides_lawful true false true true a b = absurd (let z : ◌≡◌ {A = ℕ} 0 1 = cc in omega arith)
sides_lawful true false true false a b = refl
sides_lawful true false false true a b = refl
sides_lawful true false false false a b = refl
sides_lawful false true true true a b = absurd (let z : ◌≡◌ {A = ℕ} 0 1 = cc in omega arith)
sides_lawful false true true false a b = refl
sides_lawful false true false true a b = refl
sides_lawful false true false false a b = refl
sides_lawful false false true true a b = absurd (let z : ◌≡◌ {A = ℕ} 0 1 = cc in omega arith)
sides_lawful false false true false a b = refl
sides_lawful false false false true a b = refl
sides_lawful false false false false a b = refl

same_clash : (table : List Definition) {a m x b n y a' m' x' b' n' y' : ℕ} → a ≡ a' → m ≡ m' → x ≡ x' → b ≡ b' → n ≡ n' → y ≡ y'
    → (read_only table x' && write_only table x') ≡ false → (read_only table y' && write_only table y') ≡ false
    → ((ltb b (a + m) && ltb a (b + n)) &&
    ((not (write_only table x) && not (write_only table y)) || (not (read_only table x) && not (read_only table y))))
    ≡ ((ltb b' (a' + m') && ltb a' (b' + n')) && not (is_shared_lawfully table y' x'))
unfolding is_shared_lawfully is_pair
same_clash table {a' = a'} {m' = m'} {x' = x'} {b' = b'} {n' = n'} {y' = y'} p q r s t u f g =
    rw (p, q, r, s, t, u)
    (ap (λ (b : Bool). (ltb b' (a' + m') && ltb a' (b' + n')) && b)
    (sides_lawful (read_only table x') (write_only table x') (read_only table y') (write_only table y') f g))

module _ (text t s log : List ℕ) (e : Extent) (c : Charted text t s log e e.map) where
  abbrev registers : List Visit
  registers = registers_of text t e e.map

  clash-overlaps : (i j : ℕ) → i < register_count text t e → j < register_count text t e
      → clash_in text t s log e i j ≡ overlap_registers (known text t e) (all_shapes text t e) (visit_at registers j) (visit_at registers i)
  unfolding clash stretch_in overlap_registers
  clash-overlaps i j h l =
      let a = plot_of text t s log e e.map c i h in
      let b = plot_of text t s log e e.map c j l in
      same_clash (known text t e) (ap number a.address) a.size a.row (ap number b.address) b.size b.row
      (once text t s log e e.map c i h) (once text t s log e e.map c j l)

  agrees : Agrees (known text t e) (all_shapes text t e) registers (clash_in text t s log e)
  agrees = record { registers = λ i h. (seen_at text t s log e e.map c i h).register; pairs = clash-overlaps }

  -- 21 of the map is that of the first register whose stretch clashes with an earlier one
  abbrev fault : Verdict
  fault = overlapping (known text t e) (all_shapes text t e) [] (elements_of text t e e.map)

  map_fault_lem : FaultOf registers (first_meeting (clash_in text t s log e) (register_count text t e)) fault
  map_fault_lem =
      rw (registers_decide (known text t e) (all_shapes text t e) (elements_of text t e e.map))
      (first_fault (known text t e) (all_shapes text t e) registers agrees)

  module _ {count first : ℕ} (n : count ≡ register_count text t e)
      (f : first ≡ first_meeting (clash_in text t s log e) (register_count text t e))
    where
      found_fault : FaultOf registers first fault
      found_fault = rw f map_fault_lem

      pub found_none : first ≡ count → Accepted ≡ fault
      found_none z = sym (found_fault.none (omega (arith, n)))

      module _ (z : first ≡ count → ⊥) where
        found_low : first < register_count text t e
        found_low =
            let l : first ≤ register_count text t e = rw f (first_within (clash_in text t s log e) (register_count text t e)) in
            omega (arith, n)

        pub found_few : first ≤ register_limit
        found_few = index_few text t s log e e.map c first found_low

        pub found_some : {place : ℕ} → place ≡ last_place log first → Refused 21 place ≡ fault
        found_some p =
            ap (Refused 21) (p ∙ named_at text t s log e e.map c first found_low)
            ∙ sym (found_fault.refused found_low)

-- ---- the keys

-- the keys of the first i registers
pub record Filling (log : List ℕ) (i : ℕ) (xs : List ℕ) : Type 0 where
  pub each : (j : ℕ) → j < i → get_or xs j 0 ≡ start_in log j * register_limit + j

pub filling_start : (log xs : List ℕ) → Filling log 0 xs
filling_start log xs = record { each = λ j h. absurd (omega arith) }

pub filling_on : (log : List ℕ) {i : ℕ} {xs : List ℕ} {head x : ℕ} → Filling log i xs → i < length xs → head ≡ cell_of log (i * log_width) → x ≡ head_address head
    → Filling log (i + 1) (set xs i (x * register_limit + i))
filling_on log {i} {xs} {head} {x} f h d g =
    let e : x ≡ start_in log i = g ∙ ap head_address d in
    record {
      each = λ j l.
          elim (dec_lt j i) [
            | yes o ↦ get_or-set_other xs i j (x * register_limit + i) 0 (λ z. omega arith) ∙ f.each j o
            | no o ↦ let z : j ≡ i = omega arith in rw (z, e) (get_or-set_same xs i (start_in log i * register_limit + i) 0 h)
          ];
    }

pub filling_end : (log : List ℕ) {i : ℕ} {xs : List ℕ} {n : ℕ} → Filling log i xs → length xs ≡ n → n ≤ i → n ≤ register_limit
    → Keyed (start_in log) register_limit xs
filling_end log f e h l = record { room = omega arith; each = λ j o. f.each j (omega arith) }

-- a key fits its cell
module _ (log : List ℕ) {i m n head x : ℕ} (f : LowStarts log n) (k : m ≡ n) (h : i < m) (l : n ≤ register_limit) (d : head ≡ cell_of log (i * log_width)) (g : x ≡ head_address head) where
  start : x ≡ start_in log i
  start = g ∙ ap head_address d

  pub product_fits : x * register_limit < 2 ^ 64
  product_fits = omega (arith, start, f.each i (omega arith))

  pub key_fits : x * register_limit + i < 2 ^ 64
  key_fits = omega (arith, start, f.each i (omega arith))

module _ (text t s log : List ℕ) (e : Extent) where
  pub low_starts : {n : ℕ} → Charted text t s log e e.map → n ≡ register_count text t e → LowStarts log n
  low_starts c f = record { each = λ i h. start_low text t s log e e.map c i (omega arith) }

  pub few_keys : {n : ℕ} → Charted text t s log e e.map → n ≡ register_count text t e → n ≤ register_limit
  few_keys c f = omega (arith, c.few)

  pub sweepable : {n : ℕ} {xs ys : List ℕ} → Charted text t s log e e.map → Keyed (start_in log) register_limit xs
      → length xs ≡ n → n ≡ register_count text t e → Sorts xs ys → Sweepable text t s log e ys
  sweepable {xs = xs} c k m f o = record { charted = c; ordered = record { keys = xs; size = m ∙ f; keyed = k; sorts = o } }

  module _ {order : List ℕ} (w : Sweepable text t s log e order) where
    order_length : length order ≡ register_count text t e
    order_length = w.ordered.sorts.permutes.size ∙ w.ordered.size

    pub order_charted : Charted text t s log e e.map
    order_charted = w.charted

    pub lined : Lined (stretch_in (known text t e) s log) (register_count text t e) order
    unfolding stretch_in plot_in
    lined =
        record {
          number = start_in log;
          ordered = w.ordered;
          starts = λ k. refl;
          full = λ k h. stretch_full text t s log e e.map w.charted k h;
        }

    pub all_within : {count : ℕ} → count ≡ length order → count ≤ register_count text t e
    all_within f = omega (arith, order_length)

    module _ {count found : ℕ} (m : count ≡ length order) (f : SomeMeeting (clash_in text t s log e) count found) where
      pub all_clear : found ≡ count → count ≡ first_meeting (clash_in text t s log e) (register_count text t e)
      all_clear z =
          let n : count ≡ register_count text t e = m ∙ order_length in
          rw n (first_clear (clash_in text t s log e) (register_count text t e) (rw n at (f.clear z)))

      pub found_within : (found ≡ count → ⊥) → found < register_count text t e
      found_within z = omega (arith, f.within, m, order_length)

      pub found-meets : (found ≡ count → ⊥) → meets (clash_in text t s log e) found found ≡ true
      found-meets z = f.hit (let l = f.within in omega arith)
