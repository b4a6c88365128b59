-- The third demand, clause by clause, of the rows in four tables. `answers_of` and `store_after_all` are what the contract of `perform` gives for
-- a list of calls, `store_after` and `answer_of` for one.
use Rattle.std.specs.Prelude.{◌≡◌, true, ◌↔◌, List, ◌++◌, ℕ, ◌*◌, take}
use Rattle.std.specs.Prelude.{if◌then◌else◌}
use Rattle.basics.specs.Judged.{fine, gave}
use Rattle.basics.specs.Limits.{register_row_width, field_row_width, name_width, path_row_width}
use Rattle.fields.specs.declared.Offset.{Offset}
use Rattle.actions.specs.Actions.{followed_by}
use Rattle.rows.specs.Rows.{Map, Tables, tables, tables_of}
use Rattle.compile.specs.Compiled.{compiled}
use Rattle.model.specs.declared.Access.{Access}
use Rattle.model.specs.declared.Access.TheVariants.{Read, Write}
use Rattle.model.specs.Model.{refusal, bits_of, reaches_bit, view_in, word_in}
use Rattle.model.specs.Lists.{table, Shown, WholeList}
use Rattle.model.specs.Repeats.{repeats_bit, repeats}
use Rattle.access.specs.Stored.{stored_fields, device_in}
use Rattle.access.specs.Perform.{refusal_of, answer_of, store_after, retry_of, Fitting, Answered, store_after_all, answers_of}
use Rattle.access.specs.declared.Resend.TheVariants.{Safe, Unsafe}

-- the first rows of lent tables: so many register rows and so many field rows
abbrev pub first_rows : ℕ → ℕ → Tables → Tables
first_rows registers fields t =
    tables (take (registers * register_row_width) t.registers) (take (registers * path_row_width) t.paths) (take (fields * field_row_width) t.fields) (take (fields * name_width) t.labels)

-- rows that are those of "the map of an accepted text"
pub record RowsOf (text : List ℕ) (t : Tables) : Type 0 where
  pub map : Map
  pub accepted : compiled text ≡ fine map
  pub rows : t ≡ tables_of map

pub record Demand3 (t : Tables) : Type 0 where
  -- an access is answered, or refused by 23 or 25 only
  pub refusing : (s : List ℕ) → Fitting t s → (x : Access) → refusal_of t s x ≡ refusal (device_in t) x
  -- "Afterwards each stored bit is the starting bit kept, cleared, set or inverted, as document 01's table of actions says from the map and the
  -- list alone, whatever the starting store. Each word read is the one that the starting bits and that table give."
  pub whole : (xs : List Access) (s : List ℕ) → Fitting t s → WholeList (device_in t) xs s (store_after_all t xs s) (answers_of t xs s)
  -- "The table of two lists joined is the first's followed by the second's."
  pub joined : (xs ys : List Access) (f i : ℕ) → table (device_in t) (xs ++ ys) f i ≡ followed_by (table (device_in t) xs f i) (table (device_in t) ys f i)
  -- "From every fitting store, an answered write made twice leaves the store as made once exactly when its word has no 1 on a reached bit
  -- inverted by 1 and no 0 on a reached bit inverted by 0."
  pub retried_write : (a : Offset) (w x : ℕ) → Answered t (Write a w x) → (s : List ℕ) → Fitting t s
      → (store_after t (store_after t s (Write a w x)) (Write a w x) ≡ store_after t s (Write a w x)) ↔ (repeats (stored_fields t) (Write a w x) ≡ true)
  -- and of all fitting stores together
  pub retried_writes : (a : Offset) (w x : ℕ) → Answered t (Write a w x)
      → ((s : List ℕ) → Fitting t s → store_after t (store_after t s (Write a w x)) (Write a w x) ≡ store_after t s (Write a w x)) ↔ (repeats (stored_fields t) (Write a w x) ≡ true)
  -- "An answered read made twice gives equal words from every fitting store exactly when it reaches no readable bit that reading clears or
  -- sets."
  pub retried_read : (a : Offset) (w : ℕ) → Answered t (Read a w)
      → ((s : List ℕ) → Fitting t s → word_in (answer_of t (store_after t s (Read a w)) (Read a w)) ≡ word_in (answer_of t s (Read a w))) ↔ (repeats (stored_fields t) (Read a w) ≡ true)
  -- the criterion of both, said of each bit of each field row
  pub criterion : (x : Access) → (repeats (stored_fields t) x ≡ true) ↔ ((k i : ℕ) → Shown (stored_fields t) k i → repeats_bit x (view_in (stored_fields t) k) i ≡ true)
  -- and what `retry` answers
  pub retrying : (x : Access) → Answered t x → retry_of t x ≡ (if repeats (stored_fields t) x then gave Safe else (gave Unsafe))
  -- "Two fitting stores alike in the bits that a read reaches give it the same word."
  pub alike : (a : Offset) (w : ℕ) (s u : List ℕ) → Fitting t s → Fitting t u
      → ((k i : ℕ) → Shown (stored_fields t) k i → reaches_bit a w (view_in (stored_fields t) k) i ≡ true
      → bits_of s (view_in (stored_fields t) k).index i ≡ bits_of u (view_in (stored_fields t) k).index i)
      → answer_of t s (Read a w) ≡ answer_of t u (Read a w)
