-- Laws of the definitions, one for each way that the code goes.
use mathlib.Core.Bool.{Bool, true, false, ◌&&◌}
use mathlib.Core.Path.{◌≡◌, refl}
use Prim.Native.Nat.{ℕ, ◌+◌, ◌<◌, ◌≤◌}
use native.Mathlib.Omega.{arith}
use lib.Dec.{leb, ltb}
use borrow.Author.Tests.{leb-true, ltb-true}
use Rattle.std.specs.Prelude.{if◌then◌else◌, Option, Some, None}
use Rattle.chars.proofs.Laws.{and_left, and_right}
use Rattle.expressions.specs.declared.Number.{Number}
use Rattle.parts.specs.declared.Kind.TheVariants as kind
use Rattle.parts.specs.declared.Array.{Array}
use Rattle.parts.specs.declared.Array.TheVariants as array
use Rattle.parts.specs.declared.Instance.{Instance}
use Rattle.basics.specs.Judged.{first_of, Verdict, Accepted, Refused}
use Rattle.suffixes.specs.Suffixes.{ranged, settled_fault, is_size, is_range, size_fault, range_fault, array_fault, instance_fault}
use Rattle.basics.specs.Limits.{width_limit}
use Rattle.fields.specs.declared.BitPlace.{BitPlace}
use Rattle.components.specs.Fields.{width_in, high_bit}

-- what a sound instance of a field says of its bits
pub first_sound : (a b : Verdict) → first_of a b ≡ Accepted → a ≡ Accepted
first_sound Accepted b e = refl
first_sound (Refused n p) b e = e

pub later_sound : (a b : Verdict) → first_of a b ≡ Accepted → b ≡ Accepted
later_sound Accepted b e = e
later_sound (Refused n p) b e = cc

-- a test that finds no fault
module _ (n p : ℕ) (x : Verdict) where
  pub pass_test : (b : Bool) → (if b then Refused n p else x) ≡ Accepted → b ≡ false
  pass_test true e = cc
  pass_test false e = refl

  pub pass_on : (b : Bool) → (if b then Refused n p else x) ≡ Accepted → x ≡ Accepted
  pass_on true e = cc
  pass_on false e = e

array_sound : (i : Instance) → instance_fault kind.Field i ≡ Accepted → array_fault true i.array ≡ Accepted
unfolding instance_fault
array_sound i e = first_sound (array_fault true i.array) _ e

pub ranged-sound : (t : Bool) (p : ℕ) → ranged t p ≡ Accepted → t ≡ true
unfolding ranged
ranged-sound true p e = refl
ranged-sound false p e = cc

-- a sound number is not refused
pub settled-sound : (r : Option ℕ) (x : Verdict) → settled_fault r x ≡ Accepted → x ≡ Accepted
unfolding settled_fault
settled-sound None x e = e
settled-sound (Some p) x e = cc

size-sound : (n : Number) → size_fault true n ≡ Accepted → (1 ≤ n.value) × (n.value ≤ width_limit)
unfolding is_size
size-sound n e =
    let v = n.value in
    let t : (leb 1 v && leb v width_limit) ≡ true = ranged-sound (is_size true v) n.place (settled-sound n.refusal _ e) in
    (leb-true 1 v (and_left (leb 1 v) (leb v width_limit) t), leb-true v width_limit (and_right (leb 1 v) (leb v width_limit) t))

range_sound : (left right : Number) → range_fault left right ≡ Accepted → (right.value ≤ left.value) × (left.value < width_limit)
unfolding is_range
range_sound left right e =
    let l = left.value in
    let r = right.value in
    let t : (leb r l && ltb l width_limit) ≡ true = ranged-sound (is_range l r) left.place (settled-sound right.refusal _ (settled-sound left.refusal _ e)) in
    (leb-true r l (and_left (leb r l) (ltb l width_limit) t), ltb-true l width_limit (and_right (leb r l) (ltb l width_limit) t))

width_sound : (a : Array) → array_fault true a ≡ Accepted → (1 ≤ width_in a) × (width_in a ≤ width_limit)
width_sound array.Missing e = (omega arith, omega arith)
width_sound (array.Size mark n) e = size-sound n e
width_sound (array.Range mark left right) e =
    let t : (right.value ≤ left.value) × (left.value < width_limit) = range_sound left right e in
    (omega arith, omega arith)

high_sound : (next : BitPlace) (a : Array) → array_fault true a ≡ Accepted → (high_bit next a).0 ≤ next.0 + 63
high_sound next array.Missing e = omega arith
high_sound next (array.Size mark n) e = omega (arith, size-sound n e)
high_sound next (array.Range mark left right) e = omega (arith, range_sound left right e)

pub sound_width : (i : Instance) → instance_fault kind.Field i ≡ Accepted → (1 ≤ width_in i.array) × (width_in i.array ≤ width_limit)
sound_width i e = width_sound i.array (array_sound i e)

pub sound_high : (next : BitPlace) (i : Instance) → instance_fault kind.Field i ≡ Accepted → (high_bit next i.array).0 ≤ next.0 + 63
sound_high next i e = high_sound next i.array (array_sound i e)
