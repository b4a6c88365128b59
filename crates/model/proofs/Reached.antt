-- Rule 17 says that no access has a part only of a field that software changes, and no more than that.
use mathlib.Core.Path.{◌≡◌, refl, sym, ap, ◌∙◌}
use mathlib.Core.Bool.{Bool, true, false, not, ◌&&◌}
use mathlib.Core.Logic.{◌↔◌}
use Prim.Native.Nat.{ℕ, ◌+◌, ◌-◌, ◌*◌, ◌/◌, ◌%◌, ◌<◌, ◌≤◌}
use native.Mathlib.Omega.{arith}
use lib.Dec.{eqb, leb, ltb}
use borrow.Author.Tests.{eqb-true, leb-true, ltb-true, eq-eqb, le-leb, lt-ltb, not-false}
use Rattle.chars.proofs.Laws.{and_left, and_right, and_both}
use Rattle.fields.specs.Codes.{is_width}
use Rattle.fields.specs.Fields.{is_changed_by_access, spans_parts}
use Rattle.fields.specs.declared.Offset.{Offset}
use Rattle.fields.specs.declared.FieldAt.{FieldAt}
use Rattle.fields.proofs.Laws.{width_cases}
use Rattle.model.specs.declared.View.{View}
use Rattle.model.specs.Model.{reaches, reaches_bit, part_low, place_of}
use Rattle.model.specs.Reached.{NeverHalved, InRegister}

-- 17 kept: the lowest and the highest bit lie in one part
module _ (part : ℕ) (f : FieldAt) where
  one_part : is_changed_by_access f.values ≡ true → spans_parts part f ≡ false → f.low.0 / part ≡ f.high.0 / part
  unfolding spans_parts
  one_part h e =
      let same : Bool = eqb (f.low.0 / part) (f.high.0 / part) in
      eqb-true (f.low.0 / part) (f.high.0 / part) (not-false same (sym (ap (λ (b : Bool). b && not same) h) ∙ e))

  part_kept : (is_changed_by_access f.values ≡ true → f.low.0 / part ≡ f.high.0 / part) → spans_parts part f ≡ false
  unfolding spans_parts
  part_kept h = by (is_changed_by_access f.values) refl
    where
      by : (b : Bool) → is_changed_by_access f.values ≡ b → b && not (eqb (f.low.0 / part) (f.high.0 / part)) ≡ false
      by false e = refl
      by true e = ap not (eq-eqb (f.low.0 / part) (f.high.0 / part) (h e))

-- of a field within one part, the access part at a distance of whole parts, in bytes, has all places, if it has one
abbrev HasAll : ℕ → Type 0
HasAll w =
    (distance low high p q : ℕ) → distance % (w / 8) ≡ 0 → low / w ≡ high / w → low ≤ p → p ≤ high → low ≤ q → q ≤ high
    → distance * 8 ≤ p → p < distance * 8 + w → (distance * 8 ≤ q) × (q < distance * 8 + w)

part_has_all : (w : ℕ) → is_width w ≡ true → HasAll w
part_has_all =
    width_cases HasAll
    (λ d l h p q e s a b c f x y. (omega arith, omega arith))
    (λ d l h p q e s a b c f x y. (omega arith, omega arith))
    (λ d l h p q e s a b c f x y. (omega arith, omega arith))
    (λ d l h p q e s a b c f x y. (omega arith, omega arith))

-- a bit of a view that is reached: its register is, at a distance of whole parts, and the bit's place lies in the part
record BitReached (a : Offset) (w : ℕ) (c : View) (i : ℕ) : Type 0 where
  register : reaches a w c ≡ true
  access : c.register.access ≡ w
  parts : (a.0 - c.base.0) % (w / 8) ≡ 0
  above : (part_low a c).0 ≤ (place_of c i).0
  below : (place_of c i).0 < (part_low a c).0 + w

module _ (a : Offset) (w : ℕ) (c : View) where
  bit_reached : (i : ℕ) → reaches_bit a w c i ≡ true → BitReached a w c i
  bit_reached i e =
      let g : Bool = reaches a w c in
      let l : Bool = leb (part_low a c).0 (place_of c i).0 in
      let n : Bool = ltb (place_of c i).0 ((part_low a c).0 + w) in
      let r : g ≡ true = and_left g l (and_left (g && l) n e) in
      let same : Bool = eqb c.register.access w in
      let from : Bool = leb c.base.0 a.0 in
      let inside : Bool = ltb (a.0 - c.base.0) (c.register.width / 8) in
      let whole : Bool = eqb ((a.0 - c.base.0) % (w / 8)) 0 in
      record {
        register = r;
        access = eqb-true c.register.access w (and_left same from (and_left (same && from) inside (and_left (same && from && inside) whole r)));
        parts = eqb-true ((a.0 - c.base.0) % (w / 8)) 0 (and_right (same && from && inside) whole r);
        above = leb-true (part_low a c).0 (place_of c i).0 (and_right g l (and_left (g && l) n e));
        below = ltb-true (place_of c i).0 ((part_low a c).0 + w) (and_right (g && l) n e);
      }

  reached_bit : (i : ℕ) → reaches a w c ≡ true → (part_low a c).0 ≤ (place_of c i).0 → (place_of c i).0 < (part_low a c).0 + w → reaches_bit a w c i ≡ true
  reached_bit i e p q =
      and_both (reaches a w c && leb (part_low a c).0 (place_of c i).0) _ (and_both (reaches a w c) _ e (le-leb (part_low a c).0 (place_of c i).0 p))
      (lt-ltb (place_of c i).0 ((part_low a c).0 + w) q)

-- where 17 is kept, a field is reached whole or not at all
kept_whole : (c : View) → InRegister c → spans_parts c.register.access c.field ≡ false → NeverHalved c
kept_whole c h e =
    record {
      whole = λ changed a w i j p q r. let b : BitReached a w c i = bit_reached a w c i r in
          let f : FieldAt = c.field in
          let s : f.low.0 / w ≡ f.high.0 / w = rw b.access at (one_part c.register.access f changed e) in
          let z = part_has_all w (rw b.access at h.access) (a.0 - c.base.0) f.low.0 f.high.0 (place_of c i).0 (place_of c j).0 b.parts s
          (omega arith) (omega arith) (omega arith) (omega arith) b.above b.below in
          reached_bit a w c j b.register z.0 z.1;
    }

-- the part that has a field's lowest bit: its distance in bytes, and that a field whose highest bit it has lies within one part
record FirstPart (w width low high : ℕ) : Type 0 where
  inside : low / w * (w / 8) < width / 8
  parts : low / w * (w / 8) % (w / 8) ≡ 0
  above : low / w * (w / 8) * 8 ≤ low
  below : low < low / w * (w / 8) * 8 + w
  whole : high < low / w * (w / 8) * 8 + w → low / w ≡ high / w

abbrev HasFirst : ℕ → Type 0
HasFirst w = (width low high : ℕ) → width % 8 ≡ 0 → low ≤ high → high < width → FirstPart w width low high

first_part : (w : ℕ) → is_width w ≡ true → HasFirst w
first_part =
    width_cases HasFirst
    (λ n l h e p q. record { inside = omega arith; parts = omega arith; above = omega arith; below = omega arith; whole = λ r. omega arith })
    (λ n l h e p q. record { inside = omega arith; parts = omega arith; above = omega arith; below = omega arith; whole = λ r. omega arith })
    (λ n l h e p q. record { inside = omega arith; parts = omega arith; above = omega arith; below = omega arith; whole = λ r. omega arith })
    (λ n l h e p q. record { inside = omega arith; parts = omega arith; above = omega arith; below = omega arith; whole = λ r. omega arith })

width_bytes : (n : ℕ) → is_width n ≡ true → n % 8 ≡ 0
width_bytes = width_cases (λ n. n % 8 ≡ 0) refl refl refl refl

-- where a field is reached whole or not at all, 17 is kept: the access to the part of its lowest bit reaches its highest
whole_kept : (c : View) → InRegister c → NeverHalved c → spans_parts c.register.access c.field ≡ false
whole_kept c h never = part_kept w f (λ changed. first.whole (omega (arith, (highest changed).below, h.bits)))
  where
    f : FieldAt
    f = c.field

    w : ℕ
    w = c.register.access

    first : FirstPart w c.register.width f.low.0 f.high.0
    first = first_part w h.access c.register.width f.low.0 f.high.0 (width_bytes c.register.width h.width) h.bits h.inside

    a : Offset
    a = record { 0 = c.base.0 + f.low.0 / w * (w / 8) }

    distance : a.0 - c.base.0 ≡ f.low.0 / w * (w / 8)
    distance = omega arith

    register : reaches a w c ≡ true
    register =
        and_both _ (eqb ((a.0 - c.base.0) % (w / 8)) 0)
        (and_both _ (ltb (a.0 - c.base.0) (c.register.width / 8))
        (and_both (eqb w w) _ (eq-eqb w w refl) (le-leb c.base.0 a.0 (omega arith)))
        (lt-ltb (a.0 - c.base.0) (c.register.width / 8) (omega (arith, distance, first.inside))))
        (eq-eqb ((a.0 - c.base.0) % (w / 8)) 0 (ap (λ (n : ℕ). n % (w / 8)) distance ∙ first.parts))

    lowest : reaches_bit a w c 0 ≡ true
    lowest = reached_bit a w c 0 register (omega (arith, distance, first.above)) (omega (arith, distance, first.below))

    top : ℕ
    top = f.high.0 - f.low.0

    highest : is_changed_by_access f.values ≡ true → BitReached a w c top
    highest changed = bit_reached a w c top (never.whole changed a w 0 top (omega (arith, h.bits)) (omega (arith, h.bits)) lowest)

pub never_halved : (c : View) → InRegister c → (spans_parts c.register.access c.field ≡ false) ↔ NeverHalved c
never_halved c h = (kept_whole c h, whole_kept c h)
