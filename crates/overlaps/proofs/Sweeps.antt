-- Laws of a pass over registers in the order of their addresses, over any stretches.
use mathlib.Core.Bool.{Bool, true, false, ◌||◌, ◌&&◌}
use mathlib.Core.Path.{◌≡◌, refl, sym, ap, ap₂, ◌∙◌}
use mathlib.Core.List.{List}
use Prim.Native.Nat.{ℕ, max, ◌+◌, ◌<◌, ◌≤◌}
use native.Mathlib.Omega.{arith}
use native.Mathlib.Decide.{dec_lt}
use lib.Dec.{ltb}
use lib.ListN.{length}
use borrow.Author.Tests.{lt-ltb, le-ltb, ltb-true, ltb-false}
use Rattle.std.specs.Prelude.{if◌then◌else◌}
use Rattle.basics.specs.Limits.{register_limit}
use Rattle.chars.proofs.Laws.{differ, and_false}
use Rattle.orders.specs.Keys.{InOrder, item_at}
use Rattle.orders.specs.Unique.{SomeMeeting}
use Rattle.orders.proofs.Keys.{Standing, item_stands, item_low, items_differ, items_up}
use Rattle.orders.proofs.Unique.{meets_pair, unique_apart}
use Rattle.overlaps.specs.declared.Stretch.{Stretch}
use Rattle.overlaps.specs.declared.Side.{Side}
use Rattle.overlaps.specs.Sweeps.{clash, side_of, Reaches}
use Rattle.overlaps.proofs.Overlaps.{or_true}

-- the number of the register at a place of the order
abbrev number_at : List ℕ → ℕ → ℕ
number_at order k = item_at register_limit order k

-- ---- two registers

and_turned : (x y : Bool) → (x && y) ≡ (y && x)
and_turned true true = refl
and_turned true false = refl
and_turned false true = refl
and_turned false false = refl

module _ (at : ℕ → Stretch) where
  abbrev shared : ℕ → ℕ → Bool
  shared i j = ltb (at j).start (at i).end && ltb (at i).start (at j).end

  abbrev sided : ℕ → ℕ → Bool
  sided i j = ((at i).readable && (at j).readable) || ((at i).writable && (at j).writable)

  clash_turned : (i j : ℕ) → clash at i j ≡ clash at j i
  unfolding clash
  clash_turned i j =
      ap₂ ◌&&◌ (and_turned (ltb (at j).start (at i).end) (ltb (at i).start (at j).end))
      (ap₂ ◌||◌ (and_turned (at i).readable (at j).readable) (and_turned (at i).writable (at j).writable))

  clash-behind : (i j : ℕ) → (at i).end ≤ (at j).start → clash at i j ≡ false
  unfolding clash
  clash-behind i j h = ap (λ (b : Bool). (b && ltb (at i).start (at j).end) && sided i j) (le-ltb (at j).start (at i).end h)

  clash-lawful : (i j : ℕ) → ((at i).readable && (at j).readable) ≡ false → ((at i).writable && (at j).writable) ≡ false → clash at i j ≡ false
  unfolding clash
  clash-lawful i j r w = ap (λ (b : Bool). shared i j && b) (ap₂ ◌||◌ r w) ∙ and_false (shared i j)

  module _ (i j : ℕ) (h : (at j).start < (at i).end) (l : (at i).start < (at j).end) where
    shared_true : shared i j ≡ true
    shared_true = ap₂ ◌&&◌ (lt-ltb (at j).start (at i).end h) (lt-ltb (at i).start (at j).end l)

    clash_read : (at i).readable ≡ true → (at j).readable ≡ true → clash at i j ≡ true
    unfolding clash
    clash_read a b = ap₂ ◌&&◌ shared_true (ap (λ (x : Bool). x || ((at i).writable && (at j).writable)) (ap₂ ◌&&◌ a b))

    clash_write : (at i).writable ≡ true → (at j).writable ≡ true → clash at i j ≡ true
    unfolding clash
    clash_write a b =
        let r : Bool = (at i).readable && (at j).readable in
        ap₂ ◌&&◌ shared_true (ap (λ (x : Bool). r || x) (ap₂ ◌&&◌ a b) ∙ or_true r)

-- ---- a side

module _ (side : Side) (b : Bool) (end number : ℕ) where
  side_by : (P : Side → Type 0) → (b ≡ false → P side) → (b ≡ true → end ≤ side.end → P side)
      → (b ≡ true → side.end < end → P (record { end = end; who = number })) → P (side_of side b end number)
  unfolding side_of
  side_by P f g h = by b refl (ltb side.end end) refl
    where
      by : (x : Bool) → b ≡ x → (y : Bool) → ltb side.end end ≡ y
          → P (if x then (if y then record { end = end; who = number } else side) else side)
      by false e y z = f e
      by true e true z = h e (ltb-true side.end end z)
      by true e false z = g e (ltb-false side.end end z)

-- ---- what is kept of the registers passed

-- whose end a side has
pub record Holding (at : ℕ → Stretch) (belongs : Stretch → Bool) (order : List ℕ) (limit i : ℕ) (side : Side) : Type 0 where
  pub place : ℕ
  pub passed : place < i
  pub number : number_at order place ≡ side.who
  pub low : side.who < limit
  pub end : (at side.who).end ≡ side.end
  pub counts : belongs (at side.who) ≡ true

-- a side has the furthest end of those passed that belong to it
pub record Kept (at : ℕ → Stretch) (belongs : Stretch → Bool) (order : List ℕ) (limit i : ℕ) (side : Side) : Type 0 where
  pub covers : (k : ℕ) → k < i → number_at order k < limit → belongs (at (number_at order k)) ≡ true → (at (number_at order k)).end ≤ side.end
  pub holder : 0 < side.end → Holding at belongs order limit i side

module _ (at : ℕ → Stretch) (belongs : Stretch → Bool) (order : List ℕ) (limit : ℕ) where
  kept_start : Kept at belongs order limit 0 (record { end = 0; who = 0 })
  kept_start = record { covers = λ k l. absurd (omega arith); holder = λ h. absurd (omega arith) }

  module _ {i : ℕ} {side : Side} (w : Kept at belongs order limit i side) where
    held_on : 0 < side.end → Holding at belongs order limit (i + 1) side
    held_on h =
        let k = w.holder h in
        record { place = k.place; passed = omega (arith, k.passed); number = k.number; low = k.low; end = k.end; counts = k.counts }

    kept_skip : limit ≤ number_at order i → Kept at belongs order limit (i + 1) side
    kept_skip h =
        record {
          covers = λ k l m n.
              elim (dec_lt k i) [
                | yes o ↦ w.covers k o m n
                | no o ↦ let z : k ≡ i = omega arith in absurd (omega (arith, ap (number_at order) z))
              ];
          holder = held_on;
        }

    -- with one more that ends no further, or does not belong to the side
    kept_same : (belongs (at (number_at order i)) ≡ true → (at (number_at order i)).end ≤ side.end) → Kept at belongs order limit (i + 1) side
    kept_same f =
        record {
          covers = λ k l m n.
              elim (dec_lt k i) [
                | yes o ↦ w.covers k o m n
                | no o ↦ let z : k ≡ i = omega arith in rw z (f (rw z at n))
              ];
          holder = held_on;
        }

    kept_more : number_at order i < limit → belongs (at (number_at order i)) ≡ true → side.end < (at (number_at order i)).end
        → Kept at belongs order limit (i + 1) (record { end = (at (number_at order i)).end; who = number_at order i })
    kept_more l b h =
        record {
          covers = λ k o m n.
              elim (dec_lt k i) [
                | yes p ↦ omega (arith, w.covers k p m n)
                | no p ↦ let z : k ≡ i = omega arith in rw z (omega arith)
              ];
          holder = λ o. record { place = i; passed = omega arith; number = refl; low = l; end = refl; counts = b };
        }

    kept_on : {stretch : Stretch} → stretch ≡ at (number_at order i) → number_at order i < limit
        → Kept at belongs order limit (i + 1) (side_of side (belongs stretch) stretch.end (number_at order i))
    kept_on e l =
        rw e
        (side_by side (belongs (at (number_at order i))) (at (number_at order i)).end (number_at order i)
        (λ r. Kept at belongs order limit (i + 1) r)
        (λ f. kept_same (λ g. differ (sym g ∙ f)))
        (λ f h. kept_same (λ g. h))
        (λ f h. kept_more l f h))

-- registers in the order of their addresses, none of them empty
pub record Lined (at : ℕ → Stretch) (n : ℕ) (order : List ℕ) : Type 0 where
  pub number : ℕ → ℕ
  pub ordered : InOrder number register_limit n order
  pub starts : (k : ℕ) → (at k).start ≡ number k
  pub full : (k : ℕ) → k < n → (at k).start < (at k).end

abbrev can_read : Stretch → Bool
can_read s = s.readable

abbrev can_write : Stretch → Bool
can_write s = s.writable

-- no two of the registers passed overlap
pub record Passing (at : ℕ → Stretch) (order : List ℕ) (limit i : ℕ) (readable writable : Side) : Type 0 where
  pub read : Kept at can_read order limit i readable
  pub write : Kept at can_write order limit i writable
  pub apart : (k l : ℕ) → k < l → l < i → number_at order k < limit → number_at order l < limit
      → clash at (number_at order k) (number_at order l) ≡ false

pub passing_start : (at : ℕ → Stretch) (order : List ℕ) (limit : ℕ)
    → Passing at order limit 0 (record { end = 0; who = 0 }) (record { end = 0; who = 0 })
passing_start at order limit =
    record {
      read = kept_start at can_read order limit;
      write = kept_start at can_write order limit;
      apart = λ k l m n. absurd (omega arith);
    }

module _ (at : ℕ → Stretch) (order : List ℕ) (limit : ℕ) {i : ℕ} {readable writable : Side} (w : Passing at order limit i readable writable)
  where
    pub passing_skip : limit ≤ number_at order i → Passing at order limit (i + 1) readable writable
    passing_skip h =
        record {
          read = kept_skip at can_read order limit w.read h;
          write = kept_skip at can_write order limit w.write h;
          apart = λ k l m n o p.
              elim (dec_lt l i) [
                | yes q ↦ w.apart k l m q o p
                | no q ↦ let z : l ≡ i = omega arith in absurd (omega (arith, ap (number_at order) z))
              ];
        }

    -- an earlier one ends before the register at i, where a side to which both belong does not reach into that one
    behind : {belongs : Stretch → Bool} {side : Side} {b : Bool} {stretch : Stretch} → Kept at belongs order limit i side
        → Reaches side (belongs stretch) stretch.start b → b ≡ false → stretch ≡ at (number_at order i)
        → (k : ℕ) → k < i → number_at order k < limit → belongs (at (number_at order k)) ≡ true → belongs (at (number_at order i)) ≡ true
        → clash at (number_at order k) (number_at order i) ≡ false
    behind {belongs} v r z e k l m p q =
        clash-behind at (number_at order k) (number_at order i)
        (omega (arith, v.covers k l m p, r.free z (ap belongs e ∙ q), ap (λ (s : Stretch). s.start) e))

    module _ (h : number_at order i < limit) {stretch : Stretch} (e : stretch ≡ at (number_at order i)) {x y : Bool}
        (rx : Reaches readable stretch.readable stretch.start x) (x-not : x ≡ false)
        (ry : Reaches writable stretch.writable stretch.start y) (y-not : y ≡ false)
      where
        new_apart : (k : ℕ) → k < i → number_at order k < limit → clash at (number_at order k) (number_at order i) ≡ false
        new_apart k l m = by u.readable v.readable u.writable v.writable refl refl refl refl
          where
            u : Stretch
            u = at (number_at order k)

            v : Stretch
            v = at (number_at order i)

            lawful : (u.readable && v.readable) ≡ false → (u.writable && v.writable) ≡ false
                → clash at (number_at order k) (number_at order i) ≡ false
            lawful r w = clash-lawful at (number_at order k) (number_at order i) r w

            by : (a b c d : Bool) → u.readable ≡ a → v.readable ≡ b → u.writable ≡ c → v.writable ≡ d
                → clash at (number_at order k) (number_at order i) ≡ false
            by true true c d p q r s = behind w.read rx x-not e k l m p q
            by true false true true p q r s = behind w.write ry y-not e k l m r s
            by true false true false p q r s = lawful (ap₂ ◌&&◌ p q) (ap₂ ◌&&◌ r s)
            by true false false d p q r s = lawful (ap₂ ◌&&◌ p q) (ap₂ ◌&&◌ r s)
            by false b true true p q r s = behind w.write ry y-not e k l m r s
            by false b true false p q r s = lawful (ap₂ ◌&&◌ p q) (ap₂ ◌&&◌ r s)
            by false b false d p q r s = lawful (ap₂ ◌&&◌ p q) (ap₂ ◌&&◌ r s)

        pub passing_on : {f g : Side} → f ≡ side_of readable stretch.readable stretch.end (number_at order i)
            → g ≡ side_of writable stretch.writable stretch.end (number_at order i) → Passing at order limit (i + 1) f g
        passing_on p q =
            rw (p, q)
            record {
              read = kept_on at can_read order limit w.read e h;
              write = kept_on at can_write order limit w.write e h;
              apart = λ k l m n o t.
                  elim (dec_lt l i) [
                    | yes v ↦ w.apart k l m v o t
                    | no v ↦ let z : l ≡ i = omega arith in rw z (new_apart k (omega arith) o)
                  ];
            }

    -- every two registers stand in the order, one before the other
    module _ {n : ℕ} (o : Lined at n order) (l : limit ≤ n) (h : length order ≤ i) where
      stand_apart : (a b : ℕ) → a < limit → b < limit → (s : Standing register_limit order a) (t : Standing register_limit order b)
          → s.at < t.at → clash at a b ≡ false
      stand_apart a b m q s t d =
          let v = t.within in
          sym (ap₂ (clash at) s.here t.here)
          ∙ w.apart s.at t.at d (omega arith) (omega (arith, s.here)) (omega (arith, t.here))

      pairwise : (a b : ℕ) → a < b → b < limit → clash at a b ≡ false
      pairwise a b m q =
          let s = item_stands o.ordered a (omega arith) in
          let t = item_stands o.ordered b (omega arith) in
          elim (dec_lt s.at t.at) [
            | yes d ↦ stand_apart a b (omega arith) q s t d
            | no d ↦
                elim (dec_lt t.at s.at) [
                  | yes f ↦ clash_turned at a b ∙ stand_apart b a q (omega arith) t s f
                  | no f ↦ let z : s.at ≡ t.at = omega arith in absurd (omega (arith, s.here, t.here, ap (number_at order) z))
                ]
          ]

      pub passing_end : SomeMeeting (clash at) limit limit
      passing_end =
          record { within = omega arith; clear = λ z. unique_apart (clash at) limit pairwise; hit = λ z. absurd (omega arith) }

-- ---- where the pass is stopped, two registers overlap

later_meets : (at : ℕ → Stretch) {limit a b r : ℕ} → clash at a b ≡ true → (a ≡ b → ⊥) → a < limit → b < limit → r ≡ max a b
    → SomeMeeting (clash at) limit r
later_meets at {limit} {a} {b} {r} c n l m f =
    elim (dec_lt a b) [
      | yes y ↦
          let q : r ≡ b = omega arith in
          rw q
          record { within = omega arith; clear = λ v. absurd (omega arith); hit = λ v. meets_pair (clash at) b b a y c }
      | no y ↦
          let z : b < a = elim (dec_lt b a) [ yes z ↦ z | no z ↦ absurd (n (omega arith)) ] in
          let q : r ≡ a = omega arith in
          rw q
          record {
            within = omega arith;
            clear = λ v. absurd (omega arith);
            hit = λ v. meets_pair (clash at) a a b z (clash_turned at b a ∙ c);
          }
    ]

module _ (at : ℕ → Stretch) (belongs : Stretch → Bool)
    (clash-of : (i j : ℕ) → (at j).start < (at i).end → (at i).start < (at j).end → belongs (at i) ≡ true → belongs (at j) ≡ true
    → clash at i j ≡ true)
    {n : ℕ} {order : List ℕ} (o : Lined at n order) {limit i : ℕ} {side : Side} (w : Kept at belongs order limit i side)
    (h : i < length order) {stretch : Stretch} (e : stretch ≡ at (number_at order i)) {x : Bool}
    (r : Reaches side (belongs stretch) stretch.start x) (z : x ≡ true)
  where
    holding : Holding at belongs order limit i side
    holding = w.holder (omega (arith, r.over z))

    starts_up : (at side.who).start ≤ (at (number_at order i)).start
    starts_up =
        let k = holding in
        let s : (at (number_at order k.place)).start ≡ (at side.who).start = ap (λ (v : ℕ). (at v).start) k.number in
        let u = items_up o.ordered k.place i (omega (arith, k.passed)) h in
        omega (arith, s, u, o.starts (number_at order k.place), o.starts (number_at order i))

    stopped : clash at side.who (number_at order i) ≡ true
    stopped =
        let k = holding in
        clash-of side.who (number_at order i)
        (omega (arith, r.over z, k.end, ap (λ (v : Stretch). v.start) e))
        (omega (arith, starts_up, o.full (number_at order i) (item_low o.ordered i h)))
        k.counts
        (sym (ap belongs e) ∙ r.counts z)

    other : side.who ≡ number_at order i → ⊥
    other y = let k = holding in items_differ o.ordered k.place i k.passed h (k.number ∙ y)

    stops : {g : ℕ} → number_at order i < limit → g ≡ max side.who (number_at order i) → SomeMeeting (clash at) limit g
    stops m f = later_meets at stopped other holding.low m f

module _ (at : ℕ → Stretch) {n : ℕ} {order : List ℕ} (o : Lined at n order) {limit i g : ℕ} {readable writable : Side}
    (w : Passing at order limit i readable writable) (h : i < length order) (m : number_at order i < limit) {stretch : Stretch}
    (e : stretch ≡ at (number_at order i)) {x : Bool}
  where
    pub reader_stops : Reaches readable stretch.readable stretch.start x → x ≡ true → g ≡ max readable.who (number_at order i)
        → SomeMeeting (clash at) limit g
    reader_stops r z f = stops at can_read (clash_read at) o w.read h e r z m f

    pub writer_stops : Reaches writable stretch.writable stretch.start x → x ≡ true → g ≡ max writable.who (number_at order i)
        → SomeMeeting (clash at) limit g
    writer_stops r z f = stops at can_write (clash_write at) o w.write h e r z m f
