-- Whether the lent tables hold the rows, and what they hold afterwards.
use mathlib.Core.Path.{◌≡◌, refl, sym, ap, ◌∙◌}
use mathlib.Core.Bool.{Bool, true, false, ◌||◌, ◌&&◌, not}
use mathlib.Core.List.{List, [], ◌∷◌, ◌++◌, append_assoc}
use Prim.Native.Nat.{ℕ, suc, ◌+◌, ◌*◌, ◌≤◌}
use native.Mathlib.Omega.{arith}
use native.Mathlib.Numerals.{add-one}
use lib.Dec.{leb, ltb}
use lib.ListN.{length, set, take, drop, length-set, take-append-drop}
use lib.Seq.{take-suc-set, drop-set-lt}
use borrow.Author.Tests.{ltb-true, ltb-false, le-leb, lt-leb}
use Rattle.basics.specs.Limits.{register_row_width, field_row_width, name_width, path_row_width}
use Rattle.std.specs.Prelude.{if◌then◌else◌}
use Rattle.basics.specs.Judged.{Judged, fault, fine}
use Rattle.basics.specs.Slices.{written}
use Rattle.map_walk.specs.declared.Counts.{Counts}
use Rattle.rows.specs.Rows.{Map, Tables, tables, tables_of}
use Rattle.row_laws.specs.Sound.{fields_in}
use Rattle.row_laws.proofs.Tables.{length-register_table, length-path_table, length-field_table, length-label_table}
use Rattle.compile.specs.Compiled.{is_short, answered, over, over_all, lent_after}
use Rattle.compile.specs.Stages.{has_room}

-- cells written from an index on stand between the first cells and the rest
written_between : (t : List ℕ) (i : ℕ) (xs : List ℕ) → i + length xs ≤ length t → written t i xs ≡ take i t ++ (xs ++ drop (i + length xs) t)
unfolding written
written_between t i [] l = let z : i + 0 ≡ i = omega arith in rw z (sym (take-append-drop i t))
written_between t i (x ∷ xs) l =
    let h = written_between (set t i x) (i + 1) xs (simp length-set (omega (arith, l))) in
    let a : take (i + 1) (set t i x) ≡ take i t ++ (x ∷ []) = rw (add-one i) (take-suc-set t i x (omega (arith, l))) in
    let n : i + 1 + length xs ≡ i + suc (length xs) = omega arith in
    h ∙ rw (a, n, drop-set-lt (i + suc (length xs)) t i x (omega arith)) (append_assoc (take i t) (x ∷ []) (xs ++ drop (i + suc (length xs)) t))

pub written_over : (t xs : List ℕ) → length xs ≤ length t → written t 0 xs ≡ over xs t
written_over t xs l = let z : 0 + length xs ≡ length xs = omega arith in rw z at (written_between t 0 xs (omega (arith, l)))

-- the tests of the code are those of the definition
not_short : (lent rows : ℕ) → leb rows lent ≡ not (ltb lent rows)
not_short lent rows = by (ltb lent rows) refl
  where
    by : (b : Bool) → ltb lent rows ≡ b → leb rows lent ≡ not b
    by true e = lt-leb rows lent (ltb-true lent rows e)
    by false e = le-leb rows lent (ltb-false lent rows e)

four_tests : (a b c d : Bool) → ((not a && not b) && (not c && not d)) ≡ not ((a || b) || (c || d))
four_tests true b c d = refl
four_tests false true c d = refl
four_tests false false true d = refl
four_tests false false false true = refl
four_tests false false false false = refl

module _ (lent : Tables) (m : Map) {counts : Counts} (e : counts.registers ≡ length m.entries) (f : counts.fields ≡ fields_in m.entries) where
  pub has_room_lem : has_room (length lent.registers) (length lent.paths) (length lent.fields) (length lent.labels) counts ≡ not (is_short lent (tables_of m))
  unfolding has_room is_short
  has_room_lem =
      rw (e, f, length-register_table 0 m.entries, length-path_table m.name m.entries, length-field_table m.entries, length-label_table m.entries)
      (rw (
        not_short (length lent.registers) (length m.entries * register_row_width),
        not_short (length lent.paths) (length m.entries * path_row_width),
        not_short (length lent.fields) (fields_in m.entries * field_row_width),
        not_short (length lent.labels) (fields_in m.entries * name_width),
      )
      (four_tests (ltb (length lent.registers) (length m.entries * register_row_width)) (ltb (length lent.paths) (length m.entries * path_row_width))
      (ltb (length lent.fields) (fields_in m.entries * field_row_width)) (ltb (length lent.labels) (fields_in m.entries * name_width))))

  module _ {j : Judged Map} (z : j ≡ fine m) {b : Bool} (y : b ≡ has_room (length lent.registers) (length lent.paths) (length lent.fields) (length lent.labels) counts) where
    short_is : not b ≡ is_short lent (tables_of m)
    short_is = ap not (y ∙ has_room_lem) ∙ twice (is_short lent (tables_of m))
      where
        twice : (c : Bool) → not (not c) ≡ c
        twice true = refl
        twice false = refl

    -- 22
    module _ (x : b ≡ false) where
      is_short_lem : is_short lent (tables_of m) ≡ true
      is_short_lem = sym short_is ∙ ap not x

      pub room_refuses : fault 22 0 ≡ answered lent j
      unfolding answered
      room_refuses = ap (λ (k : Bool). if k then fault 22 0 else fine (record { registers = length m.entries; fields = fields_in m.entries })) (sym is_short_lem) ∙ ap (answered lent) (sym z)

      pub room_kept : lent ≡ lent_after lent j
      unfolding lent_after
      room_kept = ap (λ (k : Bool). if k then lent else over_all (tables_of m) lent) (sym is_short_lem) ∙ ap (lent_after lent) (sym z)

    -- enough room
    module _ (x : b ≡ true) where
      is_long : is_short lent (tables_of m) ≡ false
      is_long = sym short_is ∙ ap not x

      pub room_accepts : fine counts ≡ answered lent j
      unfolding answered
      room_accepts =
          ap (λ (k : ℕ). fine (record { registers = k; fields = counts.fields })) e ∙ ap (λ (k : ℕ). fine (record { registers = length m.entries; fields = k })) f
          ∙ ap (λ (k : Bool). if k then fault 22 0 else fine (record { registers = length m.entries; fields = fields_in m.entries })) (sym is_long) ∙ ap (answered lent) (sym z)

      long_four : (a b c d : Bool) → ((a || b) || (c || d)) ≡ false → (a ≡ false) × (b ≡ false) × (c ≡ false) × (d ≡ false)
      long_four true b c d h = cc
      long_four false true c d h = cc
      long_four false false true d h = cc
      long_four false false false true h = cc
      long_four false false false false h = (refl, refl, refl, refl)

      fits : (ltb (length lent.registers) (length (tables_of m).registers) ≡ false) × (ltb (length lent.paths) (length (tables_of m).paths) ≡ false)
          × (ltb (length lent.fields) (length (tables_of m).fields) ≡ false) × (ltb (length lent.labels) (length (tables_of m).labels) ≡ false)
      unfolding is_short
      fits =
          long_four (ltb (length lent.registers) (length (tables_of m).registers)) (ltb (length lent.paths) (length (tables_of m).paths))
          (ltb (length lent.fields) (length (tables_of m).fields)) (ltb (length lent.labels) (length (tables_of m).labels)) is_long

      pub room_written : {rows : Tables} → tables_of m ≡ rows
          → tables (written lent.registers 0 rows.registers) (written lent.paths 0 rows.paths) (written lent.fields 0 rows.fields) (written lent.labels 0 rows.labels)
          ≡ lent_after lent j
      unfolding lent_after
      room_written {rows} q =
          ap (λ (r : Tables). tables (written lent.registers 0 r.registers) (written lent.paths 0 r.paths) (written lent.fields 0 r.fields) (written lent.labels 0 r.labels)) (sym q)
          ∙ ap (λ (a : List ℕ). tables a (written lent.paths 0 (tables_of m).paths) (written lent.fields 0 (tables_of m).fields) (written lent.labels 0 (tables_of m).labels))
          (written_over lent.registers (tables_of m).registers (ltb-false _ _ fits.0))
          ∙ ap (λ (a : List ℕ). tables (over (tables_of m).registers lent.registers) a (written lent.fields 0 (tables_of m).fields) (written lent.labels 0 (tables_of m).labels))
          (written_over lent.paths (tables_of m).paths (ltb-false _ _ fits.1))
          ∙ ap (λ (a : List ℕ). tables (over (tables_of m).registers lent.registers) (over (tables_of m).paths lent.paths) a (written lent.labels 0 (tables_of m).labels))
          (written_over lent.fields (tables_of m).fields (ltb-false _ _ fits.2))
          ∙ ap (λ (a : List ℕ). tables (over (tables_of m).registers lent.registers) (over (tables_of m).paths lent.paths) (over (tables_of m).fields lent.fields) a)
          (written_over lent.labels (tables_of m).labels (ltb-false _ _ fits.3))
          ∙ ap (λ (k : Bool). if k then lent else over_all (tables_of m) lent) (sym is_long)
          ∙ ap (lent_after lent) (sym z)

pub tables_are : {a a' b b' c c' d d' : List ℕ} → a ≡ a' → b ≡ b' → c ≡ c' → d ≡ d' → tables a b c d ≡ tables a' b' c' d'
tables_are e f g h = rw (e, f, g, h)
