-- The word of a read: which stored bits it depends on, and where each of them stands in it.
use mathlib.Core.Path.{◌≡◌, refl, sym, ap, ap₂, ◌∙◌, subst}
use mathlib.Core.Bool.{Bool, true, false, ◌&&◌, ◌||◌}
use mathlib.Core.List.{List, [], ◌∷◌}
use Prim.Native.Nat.{ℕ, zero, suc, ◌+◌, ◌-◌, ◌≤◌, ◌<◌, zero-le, suc-le-suc}
use native.Mathlib.Nat.{not-suc-le-zero, le_of_suc-le-suc}
use native.Mathlib.Omega.{arith}
use lib.ListN.{length}
use lib.Dec.{leb, ltb}
use borrow.Author.Tests.{leb-true, ltb-true, lt-ltb, le-leb}
use Rattle.chars.proofs.Laws.{and_left, and_right, and_both, and_false, or_left, or_right}
use Rattle.fields.specs.declared.Offset.{Offset}
use Rattle.bits.proofs.BitLaws.{number_ext}
use Rattle.model.specs.declared.View.{View}
use Rattle.model.specs.declared.Access.{Access}
use Rattle.model.specs.declared.Access.TheVariants.{Read, Write}
use Rattle.fields.specs.Fields.{is_readable}
use Rattle.model.specs.Model.{Device, size, reaches, part_low, place_of, field_gives, gives, word_from, refusal, answer_with, answer_from, view_in}
use Rattle.model.specs.Lists.{Stored, Shown}
use Rattle.model.specs.Repeats.{reads_bit}
use Rattle.model.specs.Suited.{Suited}
use Rattle.model.proofs.Tests.{and_cong}

-- ---- the bits that a field gives

-- the tests before the bit
abbrev seen : Offset → ℕ → View → ℕ → Bool
seen a w c j = is_readable c.field.values && reaches a w c && leb c.field.low.0 ((part_low a c).0 + j) && leb ((part_low a c).0 + j) c.field.high.0

-- the bit of the field's number for bit j of the word
abbrev field_bit : Offset → View → ℕ → ℕ
field_bit a c j = (part_low a c).0 + j - c.field.low.0

-- and the word's bit for bit i of the field's number
abbrev pub word_index : Offset → View → ℕ → ℕ
word_index a c i = (place_of c i).0 - (part_low a c).0

record Taken (a : Offset) (w : ℕ) (c : View) (j : ℕ) : Type 0 where
  place : field_bit a c j < size c
  reads : reads_bit a w c (field_bit a c j) ≡ true

taken : (a : Offset) (w : ℕ) (c : View) (j : ℕ) → j < w → seen a w c j ≡ true → Taken a w c j
taken a w c j h e =
    let p = (part_low a c).0 in
    let low = c.field.low.0 in
    let high = c.field.high.0 in
    let n = (place_of c (field_bit a c j)).0 in
    let r = is_readable c.field.values in
    let q = reaches a w c in
    let l = leb low (p + j) in
    let g = leb (p + j) high in
    let e3 : r && q && l ≡ true = and_left (r && q && l) g e in
    let e2 : r && q ≡ true = and_left (r && q) l e3 in
    let hl : low ≤ p + j = leb-true low (p + j) (and_right (r && q) l e3) in
    let hh : p + j ≤ high = leb-true (p + j) high (and_right (r && q && l) g e) in
    let at : n ≡ p + j = omega arith in
    record {
      place = omega arith;
      reads = and_both r (q && leb p n && ltb n (p + w)) (and_left r q e2)
          (and_both (q && leb p n) (ltb n (p + w)) (and_both q (leb p n) (and_right r q e2) (le-leb p n (omega arith))) (lt-ltb n (p + w) (omega arith)));
    }

field_cong : (a : Offset) (w : ℕ) (c : View) (b d : ℕ → Bool) (j : ℕ) → j < w
    → ((i : ℕ) → i < size c → reads_bit a w c i ≡ true → b i ≡ d i)
    → field_gives a w c b j ≡ field_gives a w c d j
field_cong a w c b d j h k =
    and_cong (seen a w c j) (b (field_bit a c j)) (d (field_bit a c j))
    (λ e. let p = taken a w c j h e in k (field_bit a c j) p.place p.reads)

record BitReached (a : Offset) (w : ℕ) (c : View) (i : ℕ) : Type 0 where
  inside : word_index a c i < w
  passes : seen a w c (word_index a c i) ≡ true
  back : field_bit a c (word_index a c i) ≡ i

placed : (a : Offset) (w : ℕ) (c : View) (i : ℕ) → i < size c → reads_bit a w c i ≡ true → BitReached a w c i
placed a w c i h e =
    let p = (part_low a c).0 in
    let low = c.field.low.0 in
    let high = c.field.high.0 in
    let n = (place_of c i).0 in
    let j = word_index a c i in
    let r = is_readable c.field.values in
    let q = reaches a w c in
    let l = leb p n in
    let g = ltb n (p + w) in
    let e3 : q && l && g ≡ true = and_right r (q && l && g) e in
    let e2 : q && l ≡ true = and_left (q && l) g e3 in
    let hl : p ≤ n = leb-true p n (and_right q l e2) in
    let hg : n < p + w = ltb-true n (p + w) (and_right (q && l) g e3) in
    record {
      inside = omega arith;
      passes = and_both (r && q && leb low (p + j)) (leb (p + j) high)
          (and_both (r && q) (leb low (p + j)) (and_both r q (and_left r (q && l && g) e) (and_left q l e2)) (le-leb low (p + j) (omega arith)))
          (le-leb (p + j) high (omega arith));
      back = omega arith;
    }

pub word_inside : (a : Offset) (w : ℕ) (c : View) (i : ℕ) → i < size c → reads_bit a w c i ≡ true → word_index a c i < w
word_inside a w c i h e = (placed a w c i h e).inside

pub field_at : (a : Offset) (w : ℕ) (c : View) (b : ℕ → Bool) (i : ℕ) → i < size c → reads_bit a w c i ≡ true
    → field_gives a w c b (word_index a c i) ≡ b i
field_at a w c b i h e =
    let p = placed a w c i h e in
    ap (λ (g : Bool). g && b (field_bit a c (word_index a c i))) p.passes ∙ ap b p.back

-- ---- the bits that a map gives

pub gives_cong : (cs : List View) (a : Offset) (w : ℕ) (b d : ℕ → ℕ → Bool) (j : ℕ) → j < w
    → ((k i : ℕ) → Shown cs k i → reads_bit a w (view_in cs k) i ≡ true → b (view_in cs k).index i ≡ d (view_in cs k).index i)
    → gives cs a w b j ≡ gives cs a w d j
unfolding gives
gives_cong [] a w b d j h k = refl
gives_cong (c ∷ cs) a w b d j h k =
    ap₂ (λ (x y : Bool). x || y)
    (field_cong a w c (b c.index) (d c.index) j h (λ i p e. k 0 i (record { row = suc-le-suc zero-le; place = p }) e))
    (gives_cong cs a w b d j h (λ f i p e. k (suc f) i (record { row = suc-le-suc p.row; place = p.place }) e))

-- where the map gives 0, so does each view
pub gives_each : (cs : List View) (a : Offset) (w : ℕ) (b : ℕ → ℕ → Bool) (j k : ℕ) → k < length cs
    → gives cs a w b j ≡ false → field_gives a w (view_in cs k) (b (view_in cs k).index) j ≡ false
unfolding gives
gives_each [] a w b j k h e = absurd (not-suc-le-zero h)
gives_each (c ∷ cs) a w b j zero h e = or_left (field_gives a w c (b c.index) j) (gives cs a w b j) e
gives_each (c ∷ cs) a w b j (suc k) h e =
    gives_each cs a w b j k (le_of_suc-le-suc h) (or_right (field_gives a w c (b c.index) j) (gives cs a w b j) e)

pub gives_none : (cs : List View) (a : Offset) (w j : ℕ) → gives cs a w (λ f i. false) j ≡ false
unfolding gives
gives_none [] a w j = refl
gives_none (c ∷ cs) a w j = ap₂ (λ (x y : Bool). x || y) (and_false (seen a w c j)) (gives_none cs a w j)

-- ---- words and answers

-- the word depends only on the bits that are read
pub word_cong : (d : Device) (a : Offset) (w : ℕ) (b e : ℕ → ℕ → Bool)
    → ((k i : ℕ) → Shown d.views k i → reads_bit a w (view_in d.views k) i ≡ true → b (view_in d.views k).index i ≡ e (view_in d.views k).index i)
    → word_from d (Read a w) b ≡ word_from d (Read a w) e
word_cong d a w b e k = number_ext w (gives d.views a w b) (gives d.views a w e) (λ j h. gives_cong d.views a w b e j h k)

-- a bit of a view is a stored bit
pub shown_stored : (d : Device) → Suited d → (k i : ℕ) → Shown d.views k i → Stored d.sizes (view_in d.views k).index i
shown_stored d ok k i p =
    let q = ok.each k p.row in
    record { row = q.row; place = subst (λ (n : ℕ). i < n) (sym q.same) p.place }

-- and any answer on stored bits
pub answer_ext : (d : Device) → Suited d → (x : Access) (b e : ℕ → ℕ → Bool) → ((f i : ℕ) → Stored d.sizes f i → b f i ≡ e f i)
    → answer_from d x b ≡ answer_from d x e
answer_ext d ok (Read a w) b e h =
    ap (answer_with (refusal d (Read a w))) (word_cong d a w b e (λ k i p r. h (view_in d.views k).index i (shown_stored d ok k i p)))
answer_ext d ok (Write a w v) b e h = refl
