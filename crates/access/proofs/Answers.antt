-- Laws of the answers: one for each way that the code goes, and what an access that is not refused says of the rows and the store.
use mathlib.Core.Bool.{Bool, true, false, not}
use mathlib.Core.Path.{◌≡◌, refl, sym, ap, ap₂, ◌∙◌}
use mathlib.Core.List.{List, ◌++◌}
use Prim.Native.Nat.{ℕ, zero, suc, ◌/◌, ◌<◌, ◌≤◌}
use native.Mathlib.Omega.{arith}
use lib.ListN.{length, drop}
use borrow.Author.Tests.{lt-ltb, le-ltb, ltb-false}
use Rattle.std.specs.Prelude.{if◌then◌else◌}
use Rattle.basics.specs.Limits.{register_limit, field_limit, register_row_width, field_row_width}
use Rattle.chars.proofs.Laws.{and_left}
use Rattle.fields.specs.Codes.{is_width}
use Rattle.fields.specs.declared.Offset.{Offset}
use Rattle.bits.specs.Bits.{number}
use Rattle.rows.specs.Rows.{Tables, tables}
use Rattle.rows.specs.Lawful.{lawful}
use Rattle.rows.proofs.Registers.{width_bounds}
use Rattle.model.specs.declared.View.{View}
use Rattle.model.specs.declared.Access.{Access}
use Rattle.model.specs.declared.Access.TheVariants.{Read, Write}
use Rattle.model.specs.Model.{fits, address_of, width_of, well_formed, stepped, gives, bits_of, word_from, answer_with, access_numbers, numbers_with}
use Rattle.model.specs.Repeats.{repeats}
use Rattle.field_access.proofs.Tests.{failed, passed}
use Rattle.access.specs.Stored.{stored_fields, device_from, device_in}
use Rattle.access.specs.Perform.{is_short, is_reached, refusal_of, answer_of, unless_refused, store_after, reset_refusal, restored_with, reset_answer, store_reset, reset_numbers, retry_refusal, retry_with, retry_of, retry_numbers}
use Rattle.access.specs.Runs.{LawfulRows, RangedFields, all_fields, reached_rows, fitting_rows, resets_from}
use Rattle.access.proofs.Facts.{rows_few, fields_few, all_fields_lem}
use Rattle.access.proofs.Fields.{stored_rows_lem, stored_count, stored_reached}
use Rattle.access.proofs.Stores.{stored_fitting, stored_reset}
use Rattle.basics.specs.Judged.{Outcome, gave, barred, rule_number}
use Rattle.basics.specs.declared.Rule.{Rule}
use Rattle.basics.specs.declared.Rule.TheVariants as rule
use Rattle.access.specs.declared.Resend.{Resend}
use Rattle.access.specs.declared.Resend.TheVariants.{Safe, Unsafe}

-- a rule's number is not 0
numbered : (P : ℕ → Type 0) → ((n : ℕ) → P (suc n)) → (r : Rule) → P (rule_number r)
numbered P p rule.TextLength = p 0
numbered P p rule.BadWord = p 1
numbered P p rule.BadSentence = p 2
numbered P p rule.LeftOutKeyword = p 3
numbered P p rule.UnknownType = p 4
numbered P p rule.NameTaken = p 5
numbered P p rule.PropertyMisplaced = p 6
numbered P p rule.SetTwice = p 7
numbered P p rule.BadValue = p 8
numbered P p rule.Misplaced = p 9
numbered P p rule.SuffixMisplaced = p 10
numbered P p rule.UnusableEffect = p 11
numbered P p rule.WideReset = p 12
numbered P p rule.WideAccess = p 13
numbered P p rule.FieldOutside = p 14
numbered P p rule.FieldsOverlap = p 15
numbered P p rule.FieldSpansParts = p 16
numbered P p rule.TooMany = p 17
numbered P p rule.ShortStride = p 18
numbered P p rule.RegisterMisplaced = p 19
numbered P p rule.RegistersOverlap = p 20
numbered P p rule.NoRoom = p 21
numbered P p rule.BadAccess = p 22
numbered P p rule.BadRows = p 23
numbered P p rule.NothingReached = p 24

-- what the tests say that came before
formed_width : (x : Access) → well_formed x ≡ true → is_width (width_of x) ≡ true
formed_width (Read a w) e = e
formed_width (Write a w v) e = and_left (is_width w) _ e

module _ (x : Access) {a : Bool} (e : a ≡ well_formed x) (y : not a ≡ false) where
  pub least_width : {w : ℕ} → w ≡ width_of x → 8 ≤ w
  least_width q = rw q (width_bounds (width_of x) (formed_width x (passed e y))).0

  pub formed_rows : (registers paths fields labels : List ℕ) {b : Bool} → b ≡ lawful (tables registers paths fields labels) → not b ≡ false → LawfulRows (width_of x) registers fields
  formed_rows registers paths fields labels f z = record { paths = paths; labels = labels; rows = passed f z; width = formed_width x (passed e y) }

module _ (registers paths fields labels : List ℕ) {b : Bool} (f : b ≡ lawful (tables registers paths fields labels)) (z : not b ≡ false) where
  pub few_rows : length registers / register_row_width ≤ register_limit
  few_rows = rows_few (tables registers paths fields labels) (passed f z)

  pub few_fields : length fields / field_row_width ≤ field_limit
  few_fields = fields_few (tables registers paths fields labels) (passed f z)

  pub sound_fields : RangedFields fields
  sound_fields = all_fields_lem (tables registers paths fields labels) (passed f z)

module _ (t : Tables) (s : List ℕ) (q : lawful t ≡ true) where
  is_short_lem : length s < length t.fields / field_row_width → is_short t s ≡ true
  is_short_lem h = lt-ltb (length s) (length (device_in t).sizes) (omega (arith, stored_count t q))

  is_long : length t.fields / field_row_width ≤ length s → is_short t s ≡ false
  is_long h = le-ltb (length s) (length (device_in t).sizes) (omega (arith, stored_count t q))

reached_at : (t : Tables) (x : Access) {a : Offset} {w : ℕ} {r : Bool} → lawful t ≡ true → a ≡ address_of x → w ≡ width_of x
    → r ≡ reached_rows a w t.registers 0 (length t.registers / register_row_width) → r ≡ is_reached t x
reached_at t x q k l e = e ∙ ap₂ (λ (o : Offset) (n : ℕ). reached_rows o n t.registers 0 (length t.registers / register_row_width)) k l ∙ stored_reached (address_of x) (width_of x) t q

-- ---- the first refusal

module _ (t : Tables) (s : List ℕ) (x : Access) {a : Bool} (e : a ≡ well_formed x) where
  pub refusal_form : not a ≡ true → 23 ≡ refusal_of t s x
  unfolding refusal_of
  refusal_form y = rw (failed e y)

  module _ {b : Bool} (y : not a ≡ false) (f : b ≡ lawful t) where
    pub refusal_rows : not b ≡ true → 24 ≡ refusal_of t s x
    unfolding refusal_of
    refusal_rows z = rw (passed e y, failed f z)

    module _ (z : not b ≡ false) where
      pub refusal_short : length s < length t.fields / field_row_width → 22 ≡ refusal_of t s x
      unfolding refusal_of
      refusal_short h = rw (passed e y, passed f z, is_short_lem t s (passed f z) h)

      module _ {c : Bool} (h : length t.fields / field_row_width ≤ length s) (g : c ≡ fitting_rows t.fields s 0 (length t.fields / field_row_width)) where
        fits_all : c ≡ fits (device_in t).sizes s
        fits_all = g ∙ stored_fitting t (passed f z) s h

        pub refusal_store : not c ≡ true → 24 ≡ refusal_of t s x
        unfolding refusal_of
        refusal_store u = rw (passed e y, passed f z, is_long t s (passed f z) h, failed fits_all u)

        module _ {p : Offset} {w : ℕ} {d : Bool} (u : not c ≡ false) (k : p ≡ address_of x) (l : w ≡ width_of x)
            (m : d ≡ reached_rows p w t.registers 0 (length t.registers / register_row_width)) where
          pub refusal_reach : not d ≡ true → 25 ≡ refusal_of t s x
          unfolding refusal_of
          refusal_reach v = rw (passed e y, passed f z, is_long t s (passed f z) h, passed fits_all u, failed (reached_at t x (passed f z) k l m) v)

          pub refusal_none : not d ≡ false → 0 ≡ refusal_of t s x
          unfolding refusal_of
          refusal_none v = rw (passed e y, passed f z, is_long t s (passed f z) h, passed fits_all u, passed (reached_at t x (passed f z) k l m) v)

-- ---- an access

-- the word of a read
module _ {x : Access} {a : Offset} {w : ℕ} (registers fields : List ℕ) (e : x ≡ Read a w) where
  pub read_rows : LawfulRows (width_of x) registers fields → LawfulRows w registers fields
  read_rows r = rw e at r

  pub read_word_lem : (s : List ℕ) {n : ℕ} → n ≡ number w (gives (all_fields registers fields) a w (bits_of s)) → n ≡ word_from (device_from (all_fields registers fields)) x (bits_of s)
  read_word_lem s f = rw e f

-- the first refusal of the five tests, or 0
abbrev first_of : Bool → Bool → Bool → Bool → Bool → ℕ
first_of a b c d e = if not a then 23 else if not b then 24 else if c then 22 else if not d then 24 else if not e then 25 else 0

module _ (t : Tables) (s : List ℕ) (x : Access) where
  pub refused_answer : (r : Rule) → rule_number r ≡ refusal_of t s x → barred (rule_number r) ≡ answer_of t s x
  unfolding answer_of
  refused_answer r e = rw (← e) (sym (numbered (λ n. answer_with n (word_from (device_in t) x (bits_of s)) ≡ barred n) (λ n. refl) r))

  pub refused_store : (r : Rule) → rule_number r ≡ refusal_of t s x → s ≡ store_after t s x
  unfolding store_after
  refused_store r e = rw (← e) (numbered (λ n. s ≡ unless_refused n (stepped x (stored_fields t) s) s) (λ n. refl) r)

  -- what no refusal says of the access, the rows and the store
  record Granted : Type 0 where
    form : well_formed x ≡ true
    rows : lawful t ≡ true
    room : is_short t s ≡ false

  granted : (a b c d e : Bool) → well_formed x ≡ a → lawful t ≡ b → is_short t s ≡ c → first_of a b c d e ≡ 0 → Granted
  granted true true false d e p q r z = record { form = p; rows = q; room = r }
  granted false b c d e p q r z = absurd (omega arith)
  granted true false c d e p q r z = absurd (omega arith)
  granted true true true d e p q r z = absurd (omega arith)

  module _ {n : ℕ} (e : n ≡ refusal_of t s x) (z : n ≡ 0) where
    is_granted : Granted
    unfolding refusal_of
    is_granted = granted (well_formed x) (lawful t) (is_short t s) (fits (device_in t).sizes s) (is_reached t x) refl refl refl (sym e ∙ z)

    has_room_lem : length t.fields / field_row_width ≤ length s
    has_room_lem = omega (arith, stored_count t is_granted.rows, ltb-false (length s) (length (device_in t).sizes) is_granted.room)

    has_rows : LawfulRows (width_of x) t.registers t.fields
    has_rows = record { paths = t.paths; labels = t.labels; rows = is_granted.rows; width = formed_width x is_granted.form }

    pub answered_word : {w : ℕ} → w ≡ word_from (device_from (all_fields t.registers t.fields)) x (bits_of s) → gave w ≡ answer_of t s x
    unfolding answer_of
    answered_word f = rw (sym e ∙ z) (ap gave (f ∙ ap (λ (m : List View). word_from (device_from m) x (bits_of s)) (sym (stored_rows_lem t is_granted.rows))))

    pub answered_store : {u : List ℕ} → u ≡ stepped x (all_fields t.registers t.fields) s → u ≡ store_after t s x
    unfolding store_after
    answered_store f = rw (sym e ∙ z) (f ∙ ap (λ (m : List View). stepped x m s) (sym (stored_rows_lem t is_granted.rows)))

-- what the functions of an access ask
pub answered_asks : (registers paths fields labels s : List ℕ) (x : Access) {n : ℕ} → n ≡ refusal_of (tables registers paths fields labels) s x → n ≡ 0
    → LawfulRows (width_of x) registers fields × (length fields / field_row_width ≤ length s)
answered_asks registers paths fields labels s x e z = (has_rows (tables registers paths fields labels) s x e z, has_room_lem (tables registers paths fields labels) s x e z)

-- ---- a reset

module _ (t : Tables) (s : List ℕ) {b : Bool} (f : b ≡ lawful t) where
  module _ (z : not b ≡ true) where
    pub unlawful_answer : barred 24 ≡ reset_answer t s
    unfolding reset_answer reset_refusal
    unlawful_answer = rw (failed f z)

    pub unlawful_store : s ≡ store_reset t s
    unfolding store_reset reset_refusal
    unlawful_store = rw (failed f z)

  module _ (z : not b ≡ false) (h : length s < length t.fields / field_row_width) where
    pub short_answer : barred 22 ≡ reset_answer t s
    unfolding reset_answer reset_refusal
    short_answer = rw (passed f z, is_short_lem t s (passed f z) h)

    pub short_store : s ≡ store_reset t s
    unfolding store_reset reset_refusal
    short_store = rw (passed f z, is_short_lem t s (passed f z) h)

  module _ (z : not b ≡ false) (h : length t.fields / field_row_width ≤ length s) where
    pub reset_answer_lem : {n : ℕ} → n ≡ length t.fields / field_row_width → gave n ≡ reset_answer t s
    unfolding reset_answer reset_refusal
    reset_answer_lem e = rw (passed f z, is_long t s (passed f z) h) (ap gave (e ∙ sym (stored_count t (passed f z))))

    pub reset_store : {u : List ℕ} → u ≡ resets_from t.fields 0 (length t.fields / field_row_width) ++ drop (length t.fields / field_row_width) s → u ≡ store_reset t s
    unfolding store_reset reset_refusal
    reset_store e = rw (passed f z, is_long t s (passed f z) h) (e ∙ stored_reset t (passed f z) s)

-- ---- whether an access may be sent again

module _ (t : Tables) (x : Access) {a : Bool} (e : a ≡ well_formed x) where
  pub retry_form : not a ≡ true → barred 23 ≡ retry_of t x
  unfolding retry_of retry_refusal
  retry_form y = rw (failed e y)

  module _ {b : Bool} (y : not a ≡ false) (f : b ≡ lawful t) where
    pub retry_rows : not b ≡ true → barred 24 ≡ retry_of t x
    unfolding retry_of retry_refusal
    retry_rows z = rw (passed e y, failed f z)

    module _ {p : Offset} {w : ℕ} {d : Bool} (z : not b ≡ false) (k : p ≡ address_of x) (l : w ≡ width_of x)
        (m : d ≡ reached_rows p w t.registers 0 (length t.registers / register_row_width)) where
      pub retry_reach : not d ≡ true → barred 25 ≡ retry_of t x
      unfolding retry_of retry_refusal
      retry_reach v = rw (passed e y, passed f z, failed (reached_at t x (passed f z) k l m) v)

      module _ {r : Bool} (v : not d ≡ false) (g : r ≡ repeats (all_fields t.registers t.fields) x) where
        repeats_all : r ≡ repeats (stored_fields t) x
        repeats_all = g ∙ ap (λ (o : List View). repeats o x) (sym (stored_rows_lem t (passed f z)))

        pub retry_safe : r ≡ true → (gave Safe) ≡ retry_of t x
        unfolding retry_of retry_refusal
        retry_safe u = rw (passed e y, passed f z, passed (reached_at t x (passed f z) k l m) v, sym repeats_all ∙ u)

        pub retry_unsafe : r ≡ false → (gave Unsafe) ≡ retry_of t x
        unfolding retry_of retry_refusal
        retry_unsafe u = rw (passed e y, passed f z, passed (reached_at t x (passed f z) k l m) v, sym repeats_all ∙ u)

-- ---- an answer and a store, with the answer in document 01's numbers

module _ (t : Tables) where
  pub access_told : (s : List ℕ) (x : Access) {r : Outcome ℕ} {u : List ℕ} → r ≡ answer_of t s x → u ≡ store_after t s x
      → (r ≡ answer_of t s x) × ((u ≡ store_after t s x) × (access_numbers r ≡ numbers_with (refusal_of t s x) (word_from (device_in t) x (bits_of s))))
  unfolding answer_of
  access_told s x e f = (e, (f, ap access_numbers e ∙ by (refusal_of t s x)))
    where
      by : (n : ℕ) → access_numbers (answer_with n (word_from (device_in t) x (bits_of s))) ≡ numbers_with n (word_from (device_in t) x (bits_of s))
      by zero = refl
      by (suc n) = refl

  pub reset_told : (s : List ℕ) {r : Outcome ℕ} {u : List ℕ} → r ≡ reset_answer t s → u ≡ store_reset t s
      → (r ≡ reset_answer t s) × ((u ≡ store_reset t s) × (reset_numbers r ≡ numbers_with (reset_refusal t s) (length (device_in t).sizes)))
  unfolding reset_answer
  reset_told s e f = (e, (f, ap reset_numbers e ∙ by (reset_refusal t s)))
    where
      by : (n : ℕ) → reset_numbers (restored_with n (length (device_in t).sizes)) ≡ numbers_with n (length (device_in t).sizes)
      by zero = refl
      by (suc n) = refl

  pub retry_told : (x : Access) {r : Outcome Resend} → r ≡ retry_of t x → (r ≡ retry_of t x) × (retry_numbers r ≡ numbers_with (retry_refusal t x) (if repeats (stored_fields t) x then 1 else 0))
  unfolding retry_of
  retry_told x e = (e, ap retry_numbers e ∙ by (retry_refusal t x) (repeats (stored_fields t) x))
    where
      by : (n : ℕ) (b : Bool) → retry_numbers (retry_with n b) ≡ numbers_with n (if b then 1 else 0)
      by zero true = refl
      by zero false = refl
      by (suc n) b = refl
