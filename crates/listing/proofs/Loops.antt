-- Laws of the loops: what is left to pour at each place that they pass.
use mathlib.Core.Path.{◌≡◌}
use mathlib.Core.List.{List, [], ◌∷◌}
use Prim.Native.Nat.{ℕ, suc, ◌+◌, ◌-◌, ◌*◌, ◌<◌, ◌≤◌}
use native.Mathlib.Omega.{arith}
use borrow.Author.Tests.{eq-eqb, ne_eqb}
use Rattle.basics.specs.Slices.{cell_of}
use Rattle.basics.specs.Limits.{name_width}
use Rattle.lines.specs.declared.Sink.{Sink}
use Rattle.lines.specs.Sinks.{Pours}
use Rattle.lines.proofs.Pouring.{Pouring, pouring_on, pouring_end}
use Rattle.rows.specs.Rows.{Tables}
use Rattle.rows.specs.Lawful.{field_row}
use Rattle.rows.specs.Reading.{name_from, name_at, index_from, steps_from, fields_from, entry_in, entries_from}
use Rattle.listing.specs.Listing.{step_text, path_text, field_lines, fields_lines, entry_lines, entries_lines}

-- the numbers of a loop's start, step and end
module _ (start k : ℕ) where
  next_at : start + (k + 1) ≡ suc (start + k)
  next_at = omega arith

module _ (count k : ℕ) where
  left_more : k < count → count - k ≡ suc (count - (k + 1))
  left_more h = omega arith

  left_none : count ≤ k → count - k ≡ 0
  left_none h = omega arith

module _ (n : ℕ) where
  next_k : n + 1 ≡ suc n
  next_k = omega arith

module _ {room : ℕ} {before : List ℕ} {start : Sink} where
  -- a name in a cell
  module _ (t : List ℕ) (at : ℕ) where
    module _ (k : ℕ) {x out : List ℕ} {s : Sink} (p : Pouring room before out start x s (name_from t (at + k) (name_width - k))) where
      pub name_end : name_width ≤ k → Pours room before out start x s
      unfolding name_from
      name_end h = pouring_end (rw (left_none name_width k h) at p)

      module _ {b : ℕ} (h : k < name_width) (e : b ≡ cell_of t (at + k)) where
        pub name_stop : b ≡ 0 → Pours room before out start x s
        unfolding name_from
        name_stop z = pouring_end (rw (left_more name_width k h, ← e, eq-eqb b 0 z) at p)

        pub name_on : {o : List ℕ} {r : Sink} → (b ≡ 0 → ⊥) → Pours room out o s (b ∷ []) r → Pouring room before o start x r (name_from t (at + (k + 1)) (name_width - (k + 1)))
        unfolding name_from
        name_on z w = rw (next_at at k) (pouring_on (b ∷ []) (name_from t (suc (at + k)) (name_width - (k + 1))) (rw (left_more name_width k h, ← e, ne_eqb b 0 z) at p) w)

  -- the steps of a path
  module _ (registers paths : List ℕ) where
    module _ (index name count k : ℕ) {x out : List ℕ} {s : Sink} (p : Pouring room before out start x s (path_text (steps_from registers paths (index + k) (name + k * name_width) (count - k)))) where
      pub steps_end : count ≤ k → Pours room before out start x s
      unfolding steps_from path_text
      steps_end h = pouring_end (rw (left_none count k h) at p)

      pub steps_on : {o : List ℕ} {r : Sink} {code : ℕ} → k < count → code ≡ cell_of registers (index + k)
          → Pours room out o s (step_text (record { name = name_at paths (name + k * name_width); index = index_from code })) r
          → Pouring room before o start x r (path_text (steps_from registers paths (index + (k + 1)) (name + (k + 1) * name_width) (count - (k + 1))))
      unfolding steps_from path_text
      steps_on {code = code} h e w =
          let n : name + (k + 1) * name_width ≡ name + k * name_width + name_width = omega arith in
          rw (next_at index k, n)
          (pouring_on (step_text (record { name = name_at paths (name + k * name_width); index = index_from code })) (path_text (steps_from registers paths (suc (index + k)) (name + k * name_width + name_width) (count - (k + 1))))
          (rw (left_more count k h, ← e) at p) w)

  -- the fields of a run
  module _ (fields labels : List ℕ) (first count : ℕ) where
    module _ (k : ℕ) {x out : List ℕ} {s : Sink} (p : Pouring room before out start x s (fields_lines (fields_from fields labels (first + k) (count - k)))) where
      pub fields_end : count ≤ k → Pours room before out start x s
      unfolding fields_from fields_lines
      fields_end h = pouring_end (rw (left_none count k h) at p)

      pub fields_on : {o : List ℕ} {r : Sink} → k < count
          → Pours room out o s (field_lines (record { name = name_at labels ((first + k) * name_width); at = field_row fields (first + k) })) r
          → Pouring room before o start x r (fields_lines (fields_from fields labels (first + (k + 1)) (count - (k + 1))))
      unfolding fields_from fields_lines
      fields_on h w =
          rw (next_at first k)
          (pouring_on (field_lines (record { name = name_at labels ((first + k) * name_width); at = field_row fields (first + k) })) (fields_lines (fields_from fields labels (suc (first + k)) (count - (k + 1))))
          (rw (left_more count k h) at p) w)

  -- the registers of a map
  module _ (name : List ℕ) (t : Tables) (count : ℕ) where
    module _ (i : ℕ) {x out : List ℕ} {s : Sink} (p : Pouring room before out start x s (entries_lines name (entries_from t i (count - i)))) where
      pub entries_end : count ≤ i → Pours room before out start x s
      unfolding entries_from entries_lines
      entries_end h = pouring_end (rw (left_none count i h) at p)

      pub entries_on : {o : List ℕ} {r : Sink} → i < count → Pours room out o s (entry_lines name (entry_in t i)) r
          → Pouring room before o start x r (entries_lines name (entries_from t (i + 1) (count - (i + 1))))
      unfolding entries_from entries_lines
      entries_on h w =
          let n : count - i ≡ suc (count - suc i) = omega arith in
          rw (next_k i) (pouring_on (entry_lines name (entry_in t i)) (entries_lines name (entries_from t (suc i) (count - suc i))) (rw n at p) w)
