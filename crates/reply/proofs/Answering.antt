-- Laws of the answer: the tables of a program are never too short, so that a refusal is the text's and an accepted text's rows stand in them.
use mathlib.Core.Bool.{Bool, true, false, ◌||◌}
use mathlib.Core.Path.{◌≡◌, refl, sym, ap, ◌∙◌}
use mathlib.Core.List.{List}
use Prim.Native.Nat.{ℕ, ◌*◌, ◌^◌, ◌<◌, ◌≤◌}
use native.Mathlib.Omega.{arith}
use lib.Dec.{ltb}
use lib.ListN.{length, take, drop, length-append, replicate, length-replicate}
use lib.Seq.{take_at}
use borrow.Author.Tests.{le-ltb}
use Rattle.std.specs.Prelude.{if◌then◌else◌}
use Rattle.basics.specs.Judged.{Judged, fault, fine, gave, barred}
use Rattle.basics.specs.Limits.{register_limit, field_limit, register_row_width, field_row_width, name_width, path_row_width}
use Rattle.rows.specs.Rows.{Map, Tables, tables, tables_of}
use Rattle.rows.specs.Reading.{rows_in}
use Rattle.row_laws.specs.Sound.{fields_in, SoundMap}
use Rattle.row_laws.proofs.Tables.{length-register_table, length-path_table, length-field_table, length-label_table}
use Rattle.listing.specs.Listing.{listing_of, listed}
use Rattle.compile.specs.Compiled.{compiled, is_short, answered, over, over_all, lent_after}
use Rattle.compile_laws.proofs.Lawful.{accepted_sound, accepted_lawful, accepted_read}
use Rattle.reply.specs.Reply.{refusal_line, shown, reply_to, shown_of, Shows}
use Rattle.map_walk.specs.declared.Counts.{Counts}

-- tables that hold the rows of every map
pub record Large (lent : Tables) : Type 0 where
  pub registers : register_limit * register_row_width ≤ length lent.registers
  pub paths : register_limit * path_row_width ≤ length lent.paths
  pub fields : field_limit * field_row_width ≤ length lent.fields
  pub labels : field_limit * name_width ≤ length lent.labels

pub zeros_large : (a b c d : ℕ) → register_limit * register_row_width ≤ a → register_limit * path_row_width ≤ b → field_limit * field_row_width ≤ c → field_limit * name_width ≤ d → Large (tables (replicate a 0) (replicate b 0) (replicate c 0) (replicate d 0))
zeros_large a b c d h i j k =
    record {
      registers = rw (length-replicate {A = ℕ} a 0) h;
      paths = rw (length-replicate {A = ℕ} b 0) i;
      fields = rw (length-replicate {A = ℕ} c 0) j;
      labels = rw (length-replicate {A = ℕ} d 0) k;
    }

-- an accepted text: its map, and where its rows stand
pub record AcceptedRows (text : List ℕ) (after : Tables) (counts : Counts) : Type 0 where
  pub map : Map
  pub same : compiled text ≡ fine map
  pub few_numbers : counts.registers * register_row_width < 2 ^ 64
  pub few_paths : counts.registers * path_row_width < 2 ^ 64
  pub few_fields : counts.fields * field_row_width < 2 ^ 64
  pub few_labels : counts.fields * name_width < 2 ^ 64
  pub registers : take (counts.registers * register_row_width) after.registers ≡ (tables_of map).registers
  pub paths : take (counts.registers * path_row_width) after.paths ≡ (tables_of map).paths
  pub fields : take (counts.fields * field_row_width) after.fields ≡ (tables_of map).fields
  pub labels : take (counts.fields * name_width) after.labels ≡ (tables_of map).labels
  pub registers_fit : counts.registers * register_row_width ≤ length after.registers
  pub paths_fit : counts.registers * path_row_width ≤ length after.paths
  pub fields_fit : counts.fields * field_row_width ≤ length after.fields
  pub labels_fit : counts.fields * name_width ≤ length after.labels

none_short : {a b c d : Bool} → a ≡ false → b ≡ false → c ≡ false → d ≡ false → ((a || b) || (c || d)) ≡ false
none_short e f g h = rw (e, f, g, h)

sound-fits : (lent : Tables) (m : Map) → Large lent → SoundMap m → is_short lent (tables_of m) ≡ false
unfolding is_short
sound-fits lent m l s =
    none_short (le-ltb (length lent.registers) (length (tables_of m).registers) (omega (arith, length-register_table 0 m.entries, s.few, l.registers)))
    (le-ltb (length lent.paths) (length (tables_of m).paths) (omega (arith, length-path_table m.name m.entries, s.few, l.paths)))
    (le-ltb (length lent.fields) (length (tables_of m).fields) (omega (arith, length-field_table m.entries, s.fields, l.fields)))
    (le-ltb (length lent.labels) (length (tables_of m).labels) (omega (arith, length-label_table m.entries, s.fields, l.labels)))

-- rows over a table are its first part
module _ (rows lent : List ℕ) {n : ℕ} (e : length rows ≡ n) where
  part_over : take n (over rows lent) ≡ rows
  part_over = take_at rows (drop (length rows) lent) n e

  part_fits : n ≤ length (over rows lent)
  part_fits = omega (arith, e, length-append rows (drop (length rows) lent))

module _ (text : List ℕ) (lent : Tables) (l : Large lent) where
  module _ (m : Map) (e : compiled text ≡ fine m) where
    long : is_short lent (tables_of m) ≡ false
    long = sound-fits lent m l (accepted_sound text m e)

    fine_answer : answered lent (compiled text) ≡ fine (record { registers = length m.entries; fields = fields_in m.entries })
    unfolding answered
    fine_answer = ap (answered lent) e ∙ ap (λ (k : Bool). if k then fault 22 0 else fine (record { registers = length m.entries; fields = fields_in m.entries })) long

    fine_tables : lent_after lent (compiled text) ≡ over_all (tables_of m) lent
    unfolding lent_after
    fine_tables = ap (lent_after lent) e ∙ ap (λ (k : Bool). if k then lent else over_all (tables_of m) lent) long

  fault_answer : (n p : ℕ) → compiled text ≡ fault n p → answered lent (compiled text) ≡ fault n p
  unfolding answered
  fault_answer n p e = ap (answered lent) e

  module _ {r : Judged Counts} (a : r ≡ answered lent (compiled text)) where
    -- a refusal is the text's
    refused-shown : {n p : ℕ} (room : ℕ) → r ≡ fault n p → refusal_line n p ≡ shown room (compiled text)
    unfolding shown
    refused-shown {n} {p} room z = by (compiled text) refl
      where
        by : (j : Judged Map) → compiled text ≡ j → refusal_line n p ≡ shown room (compiled text)
        by (fault k q) e =
            let y : ◌≡◌ {A = Judged Counts} (fault n p) (fault k q) = sym z ∙ a ∙ fault_answer k q e in
            let number : n ≡ k = cc in
            let place : p ≡ q = cc in
            rw (e, number, place) refl
        by (fine m) e =
            let y : ◌≡◌ {A = Judged Counts} (fault n p) (fine (record { registers = length m.entries; fields = fields_in m.entries })) = sym z ∙ a ∙ fine_answer m e in
            cc

    -- an accepted text's rows stand in the tables
    pub accepted_holds : (after : Tables) {counts : Counts} → after ≡ lent_after lent (compiled text) → r ≡ fine counts → AcceptedRows text after counts
    accepted_holds after {counts} w z = by (compiled text) refl
      where
        by : (j : Judged Map) → compiled text ≡ j → AcceptedRows text after counts
        by (fault k q) e =
            let y : ◌≡◌ {A = Judged Counts} (fine counts) (fault k q) = sym z ∙ a ∙ fault_answer k q e in
            absurd (cc)
        by (fine m) e =
            let y : ◌≡◌ {A = Judged Counts} (fine counts) (fine (record { registers = length m.entries; fields = fields_in m.entries })) = sym z ∙ a ∙ fine_answer m e in
            let s : SoundMap m = accepted_sound text m e in
            let same : counts ≡ record { registers = length m.entries; fields = fields_in m.entries } = cc in
            let c : counts.registers ≡ length m.entries = ap (λ (x : Counts). x.registers) same in
            let f : counts.fields ≡ fields_in m.entries = ap (λ (x : Counts). x.fields) same in
            let t : after ≡ over_all (tables_of m) lent = w ∙ fine_tables m e in
            let n1 : length (tables_of m).registers ≡ counts.registers * register_row_width = omega (arith, length-register_table 0 m.entries, c) in
            let n2 : length (tables_of m).paths ≡ counts.registers * path_row_width = omega (arith, length-path_table m.name m.entries, c) in
            let n3 : length (tables_of m).fields ≡ counts.fields * field_row_width = omega (arith, length-field_table m.entries, f) in
            let n4 : length (tables_of m).labels ≡ counts.fields * name_width = omega (arith, length-label_table m.entries, f) in
            record {
              map = m;
              same = e;
              few_numbers = omega (arith, c, s.few);
              few_paths = omega (arith, c, s.few);
              few_fields = omega (arith, f, s.fields);
              few_labels = omega (arith, f, s.fields);
              registers = ap (λ (x : Tables). take (counts.registers * register_row_width) x.registers) t ∙ part_over (tables_of m).registers lent.registers n1;
              paths = ap (λ (x : Tables). take (counts.registers * path_row_width) x.paths) t ∙ part_over (tables_of m).paths lent.paths n2;
              fields = ap (λ (x : Tables). take (counts.fields * field_row_width) x.fields) t ∙ part_over (tables_of m).fields lent.fields n3;
              labels = ap (λ (x : Tables). take (counts.fields * name_width) x.labels) t ∙ part_over (tables_of m).labels lent.labels n4;
              registers_fit = rw t (part_fits (tables_of m).registers lent.registers n1);
              paths_fit = rw t (part_fits (tables_of m).paths lent.paths n2);
              fields_fit = rw t (part_fits (tables_of m).fields lent.fields n3);
              labels_fit = rw t (part_fits (tables_of m).labels lent.labels n4);
            }

    pub reply_refused : {n p count : ℕ} {before after : List ℕ} → r ≡ fault n p → Shows before after (refusal_line n p) count
        → (count ≡ length (reply_to (length before) text)) × (after ≡ over (reply_to (length before) text) before)
    unfolding reply_to
    reply_refused {n} {p} {count} {before} {after} z s =
        let e : refusal_line n p ≡ shown (length before) (compiled text) = refused-shown (length before) z in (
          s.count_of ∙ ap (λ (x : List ℕ). length (take (length before) x)) e,
          s.written ∙ ap (λ (x : List ℕ). over (take (length before) x) before) e,
        )

-- what is shown of an accepted text's rows
module _ (text : List ℕ) (m : Map) (e : compiled text ≡ fine m) (room : ℕ) where
  accepted_shown : shown_of (listing_of (rows_in (tables_of m))) (listed room (tables_of m)) ≡ shown room (compiled text)
  unfolding shown listed
  accepted_shown =
      rw (accepted_lawful text m e, accepted_read text m e)
      (by (ltb room (length (listing_of m))) ∙ ap (shown room) (sym e))
    where
      by : (b : Bool) → shown_of (listing_of m) (if b then barred 22 else gave (length (listing_of m))) ≡ (if b then refusal_line 22 0 else listing_of m)
      by true = refl
      by false = refl

pub reply_accepted : {text : List ℕ} {t : Tables} {counts : Counts} {count : ℕ} {before after : List ℕ} → AcceptedRows text t counts
    → Shows before after
    (shown_of (listing_of (rows_in (tables (take (counts.registers * register_row_width) t.registers) (take (counts.registers * path_row_width) t.paths) (take (counts.fields * field_row_width) t.fields) (take (counts.fields * name_width) t.labels))))
    (listed (length before) (tables (take (counts.registers * register_row_width) t.registers) (take (counts.registers * path_row_width) t.paths) (take (counts.fields * field_row_width) t.fields) (take (counts.fields * name_width) t.labels)))) count
    → (count ≡ length (reply_to (length before) text)) × (after ≡ over (reply_to (length before) text) before)
unfolding reply_to
reply_accepted {text} {t} {counts} {count} {before} {after} h s =
    let k : tables (take (counts.registers * register_row_width) t.registers) (take (counts.registers * path_row_width) t.paths) (take (counts.fields * field_row_width) t.fields) (take (counts.fields * name_width) t.labels) ≡ tables_of h.map
    = λ i. record { registers = h.registers i; paths = h.paths i; fields = h.fields i; labels = h.labels i } in
    let e : shown_of (listing_of (rows_in (tables (take (counts.registers * register_row_width) t.registers) (take (counts.registers * path_row_width) t.paths) (take (counts.fields * field_row_width) t.fields) (take (counts.fields * name_width) t.labels))))
    (listed (length before) (tables (take (counts.registers * register_row_width) t.registers) (take (counts.registers * path_row_width) t.paths) (take (counts.fields * field_row_width) t.fields) (take (counts.fields * name_width) t.labels)))
    ≡ shown (length before) (compiled text)
    = ap (λ (x : Tables). shown_of (listing_of (rows_in x)) (listed (length before) x)) k ∙ accepted_shown text h.map h.same (length before) in (
      s.count_of ∙ ap (λ (x : List ℕ). length (take (length before) x)) e,
      s.written ∙ ap (λ (x : List ℕ). over (take (length before) x) before) e,
    )
