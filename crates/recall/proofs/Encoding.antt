-- Laws of instances in cells: an instance comes back from its cells, wherever they stand.
use mathlib.Core.Path.{◌≡◌, refl, sym, ap, ◌∙◌}
use mathlib.Core.List.{List, [], ◌∷◌}
use Prim.Native.Nat.{ℕ, ◌+◌, ◌<◌, ◌≤◌}
use native.Mathlib.Omega.{arith}
use lib.ListN.{length, set}
use Rattle.basics.specs.Slices.{cell_of, written}
use Rattle.expressions.specs.declared.Number.{Number}
use Rattle.parts.specs.declared.Array.{Array}
use Rattle.parts.specs.declared.Array.TheVariants as array
use Rattle.parts.specs.declared.Instance.{Instance}
use Rattle.recall.specs.declared.Encoded.{Encoded}
use Rattle.recall.specs.Encoded.{tag_of, operator_of, encoded_of, suffix_from, left_of, right_of, array_from, suffix_cells, instance_cells, encoded_in, instance_in}
use Rattle.std.specs.Prelude.{Option, Some, None}

-- a suffix comes back from its numbers
given_back : (p v q : ℕ) (r : Option ℕ)
    → suffix_from (record { tag = tag_of r; place = p; start = q; value = v; operator = operator_of r }) ≡ Some (p, (record { value = v; place = q; refusal = r }))
unfolding suffix_from
given_back p v q None = refl
given_back p v q (Some o) = refl

suffix_back : (x : Option (ℕ × Number)) → suffix_from (encoded_of x) ≡ x
unfolding suffix_from
suffix_back None = refl
suffix_back (Some (p, n)) = given_back p n.value n.place n.refusal

-- and an array from its two suffixes
array_from_lem : (a : Array) → array_from (left_of a) (right_of a) ≡ a
array_from_lem array.Missing = refl
array_from_lem (array.Size p n) = refl
array_from_lem (array.Range p left right) = refl

array_back : (a : Array) → array_from (suffix_from (encoded_of (left_of a))) (suffix_from (encoded_of (right_of a))) ≡ a
array_back a = rw (suffix_back (left_of a), suffix_back (right_of a)) (array_from_lem a)

same_parts : (i : Instance) {a : Array} {r d s l : Option (ℕ × Number)} → a ≡ i.array → r ≡ i.reset → d ≡ i.address → s ≡ i.stride → l ≡ i.alignment
    → record { name = i.name; array = a; reset = r; address = d; stride = s; alignment = l } ≡ i
same_parts i e1 e2 e3 e4 e5 = rw (e1, e2, e3, e4, e5)

pub instance_back : (i : Instance) → instance_in (instance_cells i) 0 ≡ i
unfolding instance_in instance_cells encoded_in
instance_back i =
    same_parts i (array_back i.array) (suffix_back i.reset) (suffix_back i.address) (suffix_back i.stride)
    (suffix_back i.alignment)

pub cells_count : (i : Instance) → length (instance_cells i) ≡ 32
unfolding instance_cells
cells_count i = refl

-- equal cells hold the same
module _ (u s : List ℕ) (a b : ℕ) where
  encoded_same : ((j : ℕ) → j < 5 → cell_of u (a + j) ≡ cell_of s (b + j)) → encoded_in u a ≡ encoded_in s b
  unfolding encoded_in
  encoded_same h =
      let z : a + 0 ≡ a = omega arith in
      let w : b + 0 ≡ b = omega arith in
      let first : cell_of u a ≡ cell_of s b = rw (z, w) at (h 0 (omega arith)) in
      rw (first, h 1 (omega arith), h 2 (omega arith), h 3 (omega arith), h 4 (omega arith))

module _ (u s : List ℕ) (a b : ℕ) (h : (j : ℕ) → j < 32 → cell_of u (a + j) ≡ cell_of s (b + j)) where
  part_same : (k : ℕ) → k ≤ 27 → encoded_in u (a + k) ≡ encoded_in s (b + k)
  part_same k l =
      encoded_same u s (a + k) (b + k)
      (λ j m.
      let p : a + k + j ≡ a + (k + j) = omega arith in
      let q : b + k + j ≡ b + (k + j) = omega arith in
      rw (p, q) (h (k + j) (omega arith)))

  pub instance_same : instance_in u a ≡ instance_in s b
  unfolding instance_in
  instance_same =
      let z : a + 0 ≡ a = omega arith in
      let w : b + 0 ≡ b = omega arith in
      let first : cell_of u a ≡ cell_of s b = rw (z, w) at (h 0 (omega arith)) in
      rw (
        first,
        h 1 (omega arith),
        part_same 2 (omega arith),
        part_same 7 (omega arith),
        part_same 12 (omega arith),
        part_same 17 (omega arith),
        part_same 22 (omega arith),
        part_same 27 (omega arith),
      )

-- the numbers of a suffix, put one after another
pub suffix_put : (t : List ℕ) (i : ℕ) (x : Option (ℕ × Number)) {e : Encoded} {t1 t2 t3 t4 t5 : List ℕ} → e ≡ encoded_of x → t1 ≡ set t i e.tag
    → t2 ≡ set t1 (i + 1) e.place → t3 ≡ set t2 (i + 2) e.start
    → t4 ≡ set t3 (i + 3) e.value → t5 ≡ set t4 (i + 4) e.operator → t5 ≡ written t i (suffix_cells x [])
unfolding written
suffix_put t i x e0 e1 e2 e3 e4 e5 =
    let n2 : i + 1 + 1 ≡ i + 2 = omega arith in
    let n3 : i + 2 + 1 ≡ i + 3 = omega arith in
    let n4 : i + 3 + 1 ≡ i + 4 = omega arith in
    rw (n2, n3, n4, e5, e4, e3, e2, e1, e0)

-- a suffix, and what is written behind it
suffix_more : (t : List ℕ) (i : ℕ) (x : Option (ℕ × Number)) (rest : List ℕ) {j : ℕ} → j ≡ i + 5
    → written t i (suffix_cells x rest) ≡ written (written t i (suffix_cells x [])) j rest
unfolding written
suffix_more t i x rest {j} e =
    let n : i + 1 + 1 + 1 + 1 + 1 ≡ j = omega arith in
    ap (λ (k : ℕ). written (written t i (suffix_cells x [])) k rest) n

two_more : (t : List ℕ) (a x y : ℕ) (rest : List ℕ) {t1 t2 : List ℕ} → t1 ≡ set t a x → t2 ≡ set t1 (a + 1) y
    → written t a (x ∷ y ∷ rest) ≡ written t2 (a + 2) rest
unfolding written
two_more t a x y rest e1 e2 = let n : a + 1 + 1 ≡ a + 2 = omega arith in rw (n, e2, e1)

pub instance_put : (t : List ℕ) (a : ℕ) (i : Instance) {l r : Option (ℕ × Number)} {t1 t2 t3 t4 t5 t6 t7 t8 : List ℕ} → l ≡ left_of i.array
    → r ≡ right_of i.array
    → t1 ≡ set t a i.name.start → t2 ≡ set t1 (a + 1) i.name.end
    → t3 ≡ written t2 (a + 2) (suffix_cells l []) → t4 ≡ written t3 (a + 7) (suffix_cells r [])
    → t5 ≡ written t4 (a + 12) (suffix_cells i.reset [])
    → t6 ≡ written t5 (a + 17) (suffix_cells i.address []) → t7 ≡ written t6 (a + 22) (suffix_cells i.stride [])
    → t8 ≡ written t7 (a + 27) (suffix_cells i.alignment [])
    → t8 ≡ written t a (instance_cells i)
unfolding instance_cells
instance_put t a i {l} {r} {t1} {t2} {t3} {t4} {t5} {t6} {t7} {t8} el er e1 e2 e3 e4 e5 e6 e7 e8 =
    let of-alignment : List ℕ = suffix_cells i.alignment [] in
    let of-stride : List ℕ = suffix_cells i.stride of-alignment in
    let of-address : List ℕ = suffix_cells i.address of-stride in
    let of-reset : List ℕ = suffix_cells i.reset of-address in
    let of_right : List ℕ = suffix_cells (right_of i.array) of-reset in
    let of_left : List ℕ = suffix_cells (left_of i.array) of_right in
    sym
    (two_more t a i.name.start i.name.end of_left e1 e2
    ∙ step t2 2 (left_of i.array) of_right (e3 ∙ ap (λ (x : Option (ℕ × Number)). written t2 (a + 2) (suffix_cells x [])) el)
    ∙ step t3 7 (right_of i.array) of-reset (e4 ∙ ap (λ (x : Option (ℕ × Number)). written t3 (a + 7) (suffix_cells x [])) er)
    ∙ step t4 12 i.reset of-address e5
    ∙ step t5 17 i.address of-stride e6
    ∙ step t6 22 i.stride of-alignment e7
    ∙ sym e8)
  where
    step : (s : List ℕ) (k : ℕ) (x : Option (ℕ × Number)) (rest : List ℕ) {u : List ℕ} → u ≡ written s (a + k) (suffix_cells x [])
        → written s (a + k) (suffix_cells x rest) ≡ written u (a + (k + 5)) rest
    step s k x rest e = suffix_more s (a + k) x rest (omega arith) ∙ ap (λ (v : List ℕ). written v (a + (k + 5)) rest) (sym e)
