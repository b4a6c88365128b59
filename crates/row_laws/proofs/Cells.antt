-- Cells that stand in a table from an index on, and rows that are filled up with zeros.
use mathlib.Core.Bool.{true}
use mathlib.Core.Path.{◌≡◌, refl, sym, ap, subst, ◌∙◌}
use mathlib.Core.List.{List, [], ◌∷◌, ◌++◌}
use Prim.Native.Nat.{ℕ, zero, suc, ◌+◌, ◌<◌, ◌≤◌}
use native.Mathlib.Nat.{zero-add, suc-add, add-zero}
use native.Mathlib.Omega.{arith}
use lib.ListN.{length, get_or}
use borrow.Author.Tests.{eq-eqb}
use Rattle.basics.specs.Slices.{cell_of}
use Rattle.rows.specs.Rows.{padded}
use Rattle.rows.specs.Lawful.{are_zero, are_same}

-- the cells of a list stand in a table from an index on
pub data Stands (t : List ℕ) : ℕ → List ℕ → Type 0 where
  stands_none : {at : ℕ} → Stands t at []
  stands_more : {at x : ℕ} {xs : List ℕ} → cell_of t at ≡ x → Stands t (suc at) xs → Stands t at (x ∷ xs)

pub stands_head : {t : List ℕ} {at x : ℕ} {xs : List ℕ} → Stands t at (x ∷ xs) → cell_of t at ≡ x
stands_head (stands_more e s) = e

pub stands_tail : {t : List ℕ} {at x : ℕ} {xs : List ℕ} → Stands t at (x ∷ xs) → Stands t (suc at) xs
stands_tail (stands_more e s) = s

pub stands_at : {t : List ℕ} {a b : ℕ} {xs : List ℕ} → Stands t a xs → a ≡ b → Stands t b xs
stands_at {t} {xs = xs} s e = subst (λ (n : ℕ). Stands t n xs) e s

pub stands_as : {t : List ℕ} {at : ℕ} {xs ys : List ℕ} → Stands t at xs → xs ≡ ys → Stands t at ys
stands_as {t} {at = at} s e = subst (λ (zs : List ℕ). Stands t at zs) e s

-- a table stands in itself
stands_behind : {t : List ℕ} {at : ℕ} {xs : List ℕ} (y : ℕ) → Stands t at xs → Stands (y ∷ t) (suc at) xs
stands_behind y stands_none = stands_none
stands_behind y (stands_more e s) = stands_more e (stands_behind y s)

pub stands_whole : (t : List ℕ) → Stands t 0 t
stands_whole [] = stands_none
stands_whole (x ∷ xs) = stands_more refl (stands_behind x (stands_whole xs))

-- two rows that follow each other
pub stands_left : {t : List ℕ} {at : ℕ} (xs ys : List ℕ) → Stands t at (xs ++ ys) → Stands t at xs
stands_left [] ys s = stands_none
stands_left (x ∷ xs) ys s = stands_more (stands_head s) (stands_left xs ys (stands_tail s))

stands_behind_all : {t : List ℕ} {at : ℕ} (xs : List ℕ) {ys : List ℕ} → Stands t at (xs ++ ys) → Stands t (at + length xs) ys
stands_behind_all {at = at} [] s = stands_at s (sym (add-zero at))
stands_behind_all {at = at} (x ∷ xs) s = stands_at (stands_behind_all xs (stands_tail s)) (omega arith)

pub stands_right : {t : List ℕ} {at : ℕ} (xs : List ℕ) {ys : List ℕ} {n : ℕ} → length xs ≡ n → Stands t at (xs ++ ys) → Stands t (at + n) ys
stands_right {at = at} xs e s = stands_at (stands_behind_all xs s) (ap (λ (k : ℕ). at + k) e)

-- a cell of a row
pub stands_cell : {t : List ℕ} {at : ℕ} {xs : List ℕ} (k : ℕ) → Stands t at xs → k < length xs → cell_of t (at + k) ≡ get_or xs k 0
stands_cell k stands_none h = absurd (omega (arith, h))
stands_cell {t} {at = at} zero (stands_more e s) h = ap (cell_of t) (add-zero at) ∙ e
stands_cell {t} {at = at} (suc k) (stands_more e s) h = let z : at + suc k ≡ suc at + k = omega arith in ap (cell_of t) z ∙ stands_cell k s (omega arith)

-- so many cells, the others 0
pub padded_past : (n k : ℕ) (xs : List ℕ) → length xs ≤ k → get_or (padded n xs) k 0 ≡ 0
unfolding padded
padded_past zero k xs h = refl
padded_past (suc n) zero [] h = refl
padded_past (suc n) (suc k) [] h = padded_past n k [] (omega arith)
padded_past (suc n) zero (x ∷ xs) h = absurd (omega (arith, h))
padded_past (suc n) (suc k) (x ∷ xs) h = padded_past n k xs (omega arith)

pub padded-append : (xs ys : List ℕ) (n : ℕ) → padded (length xs + n) (xs ++ ys) ≡ xs ++ padded n ys
unfolding padded
padded-append [] ys n = ap (λ (k : ℕ). padded k ys) (zero-add n)
padded-append (x ∷ xs) ys n = ap (λ (k : ℕ). padded k (x ∷ (xs ++ ys))) (suc-add (length xs) n) ∙ ap {B = List ℕ} (λ zs. x ∷ zs) (padded-append xs ys n)

pub padded_none : (m n : ℕ) → padded (m + n) [] ≡ padded m [] ++ padded n []
unfolding padded
padded_none zero n = ap (λ (k : ℕ). padded k []) (zero-add n)
padded_none (suc m) n = ap (λ (k : ℕ). padded k []) (suc-add m n) ∙ ap {B = List ℕ} (λ zs. 0 ∷ zs) (padded_none m n)

pub zeros_stand : {t : List ℕ} {at : ℕ} (n : ℕ) → Stands t at (padded n []) → are_zero t at n ≡ true
unfolding padded are_zero
zeros_stand zero s = refl
zeros_stand {t} {at = at} (suc n) s = rw (eq-eqb (cell_of t at) 0 (stands_head s)) (zeros_stand n (stands_tail s))

pub same_stand : {t : List ℕ} {a b : ℕ} (xs : List ℕ) → Stands t a xs → Stands t b xs → are_same t a b (length xs) ≡ true
unfolding are_same
same_stand [] s z = refl
same_stand {t} {a} {b} (x ∷ xs) s z = rw (eq-eqb (cell_of t a) (cell_of t b) (stands_head s ∙ sym (stands_head z))) (same_stand xs (stands_tail s) (stands_tail z))
