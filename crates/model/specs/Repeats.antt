-- Accesses made again: which may be sent twice.
use Rattle.std.specs.Prelude.{◌≡◌, Bool, true, false, not, ◌&&◌, ◌||◌, List, [], ◌∷◌, ℕ, zero, suc, ◌<◌, eqb, length}
use Rattle.fields.specs.Codes.{read_code, write_code}
use Rattle.fields.specs.declared.ReadEffect.TheVariants as onread
use Rattle.fields.specs.declared.WriteEffect.TheVariants as onwrite
use Rattle.fields.specs.declared.FieldType.{FieldType}
use Rattle.fields.specs.declared.Offset.{Offset}
use Rattle.model.specs.declared.View.{View}
use Rattle.model.specs.declared.Access.{Access}
use Rattle.model.specs.declared.Access.TheVariants.{Read, Write}
use Rattle.fields.specs.Fields.{is_readable}
use Rattle.model.specs.Model.{Device, size, reaches_bit, writes_bit, word_bit, view_in}
use Rattle.model.specs.Lists.{Shown}

-- a bit "inverted by 1" or "inverted by 0": `wot` inverts on 1, `wzt` on 0
abbrev pub inverted_by : FieldType → Bool → Bool
inverted_by f true = eqb f.onwrite (write_code onwrite.Wot)
inverted_by f false = eqb f.onwrite (write_code onwrite.Wzt)

-- a bit "that reading clears or sets"; in lawful rows any `onread` effect is one of the two
abbrev pub changed_by_reading : FieldType → Bool
changed_by_reading v = eqb v.onread (read_code onread.Rclr) || eqb v.onread (read_code onread.Rset)

-- a read answers with bit i of a view: "the readable reached bits"
abbrev pub reads_bit : Offset → ℕ → View → ℕ → Bool
reads_bit a w c i = is_readable c.field.values && reaches_bit a w c i

-- bit i of a view lets an access be made again. A write: "its word has no 1 on a reached bit inverted by 1 and no 0 on a reached bit
-- inverted by 0". A read: "it reaches no readable bit that reading clears or sets"
abbrev pub repeats_bit : Access → View → ℕ → Bool
repeats_bit (Read a w) c i = not (reads_bit a w c i && changed_by_reading c.field.values)
repeats_bit (Write a w x) c i = not (writes_bit a w c i && inverted_by c.field.values (word_bit a x c i))

-- a test of each number below n
unfoldable pub all_below : ℕ → (ℕ → Bool) → Bool
all_below zero p = true
all_below (suc n) p = all_below n p && p n

-- each bit of each view lets an access be made again
unfoldable pub repeats : List View → Access → Bool
repeats [] x = true
repeats (c ∷ cs) x = all_below (size c) (repeats_bit x c) && repeats cs x

-- no bit of a number is written through two views at once; where each view shows a number of its own, as in lawful rows, it is so
pub record Alone (d : Device) (a : Offset) (w : ℕ) : Type 0 where
  pub alone : (j k i : ℕ) → j < length d.views → Shown d.views k i → (view_in d.views j).index ≡ (view_in d.views k).index
      → writes_bit a w (view_in d.views j) i ≡ true → writes_bit a w (view_in d.views k) i ≡ true → j ≡ k
