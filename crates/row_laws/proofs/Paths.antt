-- A sound path's cells: its names and indices are in range, and are read back.
use mathlib.Core.Bool.{true}
use mathlib.Core.Path.{◌≡◌, refl, ap, ◌∙◌}
use mathlib.Core.List.{List, [], ◌∷◌, ◌++◌}
use Prim.Native.Nat.{ℕ, zero, suc, ◌+◌, ◌-◌, ◌*◌, ◌<◌, ◌≤◌}
use native.Mathlib.Omega.{arith}
use lib.ListN.{length}
use borrow.Author.Tests.{eq-eqb, ne_eqb, le-leb, lt-leb, lt-ltb, le-ltb}
use Rattle.basics.specs.Slices.{cell_of}
use Rattle.rows.specs.Rows.{Step, padded, index_code, indices, name_cell, name_cells}
use Rattle.rows.specs.Lawful.{is_path_cell, are_names, is_index, are_indices}
use Rattle.rows.specs.Reading.{name_at, index_from, steps_from}
use Rattle.basics.specs.All.{All, all_none, all_more}
use Rattle.basics.specs.Limits.{array_limit, name_width}
use Rattle.row_laws.specs.Sound.{SoundIndex, no_index, index, SoundStep}
use Rattle.rows.proofs.Padded.{length-padded}
use Rattle.row_laws.proofs.Cells.{Stands, stands_head, stands_tail, stands_as, stands_left, stands_right, padded-append, padded_none, zeros_stand}
use Rattle.row_laws.proofs.Names.{name_stands, name_read_lem}
use Rattle.std.specs.Prelude.{Option, Some, None}

-- the cells of a path, the first and the others
module _ {t : List ℕ} {at : ℕ} (n : ℕ) where
  zero_cell : Stands t at (padded (suc n * name_width) []) → Stands t at (padded name_width [] ++ padded (n * name_width) [])
  zero_cell s =
      let k : suc n * name_width ≡ name_width + n * name_width = omega arith in
      stands_as s (ap (λ (m : ℕ). padded m []) k ∙ padded_none name_width (n * name_width))

  zero_first : Stands t at (padded (suc n * name_width) []) → Stands t at (padded name_width [])
  zero_first s = stands_left (padded name_width []) (padded (n * name_width) []) (zero_cell s)

  zero_others : Stands t at (padded (suc n * name_width) []) → Stands t (at + name_width) (padded (n * name_width) [])
  zero_others s = stands_right (padded name_width []) (length-padded name_width []) (zero_cell s)

  module _ (name cells : List ℕ) where
    name_cell_lem : Stands t at (padded (suc n * name_width) (name_cell name ++ cells)) → Stands t at (name_cell name ++ padded (n * name_width) cells)
    name_cell_lem s =
        let k : suc n * name_width ≡ length (name_cell name) + n * name_width = omega (arith, length-padded name_width name) in
        stands_as s (ap (λ (m : ℕ). padded m (name_cell name ++ cells)) k ∙ padded-append (name_cell name) cells (n * name_width))

    pub name_first : Stands t at (padded (suc n * name_width) (name_cell name ++ cells)) → Stands t at (name_cell name)
    name_first s = stands_left (name_cell name) (padded (n * name_width) cells) (name_cell_lem s)

    pub name_others : Stands t at (padded (suc n * name_width) (name_cell name ++ cells)) → Stands t (at + name_width) (padded (n * name_width) cells)
    name_others s = stands_right (name_cell name) (length-padded name_width name) (name_cell_lem s)

-- the names from the k-th cell on
zeros_path : {t : List ℕ} {at : ℕ} (depth k n : ℕ) → depth < k → Stands t at (padded (n * name_width) []) → are_names t depth at k n ≡ true
unfolding are_names is_path_cell
zeros_path depth k zero h s = refl
zeros_path {t} {at = at} depth k (suc n) h s = rw (lt-leb k depth h, zeros_stand name_width (zero_first n s)) (zeros_path {at = at + name_width} depth (suc k) n (omega arith) (zero_others n s))

pub names_stand : {t : List ℕ} {at : ℕ} (depth k n : ℕ) {path : List Step} → All SoundStep path → length path ≤ n → depth + 1 ≡ k + length path → Stands t at (padded (n * name_width) (name_cells path))
    → are_names t depth at k n ≡ true
unfolding name_cells are_names is_path_cell
names_stand depth k n all_none h e s = zeros_path depth k n (omega (arith, e)) s
names_stand depth k zero (all_more x xs) h e s = absurd (omega (arith, h))
names_stand {t} {at = at} depth k (suc n) (all_more {x = x} {xs = path} p ps) h e s =
    rw (le-leb k depth (omega (arith, e)), name_stands p.name (name_first n x.name (name_cells path) s))
    (names_stand {at = at + name_width} depth (suc k) n ps (omega arith) (omega (arith, e)) (name_others n x.name (name_cells path) s))

-- the indices
index_low : (g : Option ℕ) → SoundIndex g → index_code g ≤ array_limit
index_low None no_index = omega arith
index_low (Some k) (index h) = omega (arith, h)

zeros_indices : {t : List ℕ} {at : ℕ} (depth k n : ℕ) → depth ≤ k → Stands t at (padded n []) → are_indices t depth at k n ≡ true
unfolding padded are_indices is_index
zeros_indices depth k zero h s = refl
zeros_indices {t} {at = at} depth k (suc n) h s = rw (le-ltb k depth h, eq-eqb (cell_of t at) 0 (stands_head s)) (zeros_indices depth (suc k) n (omega arith) (stands_tail s))

pub indices_stand : {t : List ℕ} {at : ℕ} (depth k n : ℕ) {path : List Step} → All SoundStep path → length path ≤ n → depth ≡ k + length path → Stands t at (padded n (indices path))
    → are_indices t depth at k n ≡ true
unfolding indices padded are_indices is_index
indices_stand depth k n all_none h e s = zeros_indices depth k n (omega (arith, e)) s
indices_stand depth k zero (all_more x xs) h e s = absurd (omega (arith, h))
indices_stand {t} {at = at} depth k (suc n) (all_more {x = x} {xs = path} p ps) h e s =
    rw (lt-ltb k depth (omega (arith, e)), stands_head s, le-leb (index_code x.index) array_limit (index_low x.index p.index))
    (indices_stand depth (suc k) n ps (omega arith) (omega (arith, e)) (stands_tail s))

-- the steps, read back
index_read : (g : Option ℕ) → index_from (index_code g) ≡ g
index_read None = refl
index_read (Some k) = let z : suc k - 1 ≡ k = omega arith in rw (ne_eqb (suc k) 0 (λ q. omega (arith, q)), z)

pub steps_read : {t u : List ℕ} {at place : ℕ} (n m : ℕ) {path : List Step} → All SoundStep path → length path ≤ n → length path ≤ m → Stands t at (padded n (indices path))
    → Stands u place (padded (m * name_width) (name_cells path)) → steps_from t u at place (length path) ≡ path
unfolding indices padded name_cells steps_from
steps_read n m all_none h l s z = refl
steps_read zero m (all_more x xs) h l s z = absurd (omega (arith, h))
steps_read (suc n) zero (all_more x xs) h l s z = absurd (omega (arith, l))
steps_read {t} {u} {at} {place} (suc n) (suc m) (all_more {x = x} {xs = path} p ps) h l s z =
    let a : name_at u place ≡ x.name = name_read_lem p.name (name_first m x.name (name_cells path) z) in
    let b : index_from (cell_of t at) ≡ x.index = ap index_from (stands_head s) ∙ index_read x.index in
    let c : steps_from t u (suc at) (place + name_width) (length path) ≡ path = steps_read {at = suc at} {place = place + name_width} n m ps (omega arith) (omega arith) (stands_tail s) (name_others m x.name (name_cells path) z) in
    λ i. record { name = a i; index = b i } ∷ c i
