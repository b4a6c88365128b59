-- Laws of playing a log: "however the log is cut, the lines are the same"; line by line; access by access; how long the text is; and that
-- an answered access is told whether it may be sent again.
use mathlib.Core.Bool.{Bool, true, false, not}
use mathlib.Core.Path.{◌≡◌, refl, sym, ap, ◌∙◌}
use mathlib.Core.List.{List, [], ◌∷◌, ◌++◌, append_assoc}
use Prim.Native.Nat.{ℕ, zero, suc, ◌+◌, ◌*◌, ◌/◌, ◌%◌, ◌≤◌}
use native.Mathlib.Omega.{arith}
use lib.Dec.{eqb, ltb}
use lib.ListN.{length, length-append}
use borrow.Author.Tests.{ne_eqb}
use Rattle.basics.specs.All.{all_none, all_more}
use Rattle.std.specs.Prelude.{if◌then◌else◌}
use Rattle.chars.specs.Ascii.{bytes}
use Rattle.chars.proofs.Laws.{either}
use Rattle.lines.specs.Text.{digits, digit_byte, decimal, hex}
use Rattle.rows.specs.Rows.{Tables}
use Rattle.rows.specs.Lawful.{lawful}
use Rattle.model.specs.declared.Access.{Access}
use Rattle.model.specs.declared.Access.TheVariants.{Read, Write}
use Rattle.model.specs.Model.{fits, well_formed, word_from, bits_of, answer_with}
use Rattle.model.specs.Repeats.{repeats}
use Rattle.access.specs.Stored.{stored_fields, device_in}
use Rattle.access.specs.Perform.{is_short, is_reached, refusal_of, answer_of, store_after, store_after_all, answers_of, retry_refusal, retry_with, retry_of}
use Rattle.log_lines.specs.declared.Expected.{Expected}
use Rattle.log_lines.specs.declared.Expected.TheVariants as due
use Rattle.log_lines.specs.declared.Line.{Line}
use Rattle.log_lines.specs.declared.LogLine.{LogLine}
use Rattle.log_lines.specs.declared.LogLine.TheVariants.{Skipped, Made, Malformed}
use Rattle.log_lines.specs.Log.{fresh, counted, with_byte, with_bytes, ended, line_of}
use Rattle.log_lines.specs.Text.{call_text, blank_hex, access_text, expected_text}
use Rattle.player.specs.declared.Progress.{Progress}
use Rattle.player.specs.Play.{retry_text, done_text, outcome_text, played_text, place_text, malformed_text, line_text, line_store, is_malformed, after_line, after_byte, byte_text, byte_store, progress_over, store_over, text_over}
use Rattle.player.specs.Lines.{joined, parts_text, parts_store, OneLine, at_start, ended_by, line_accesses, accesses_in, access_texts, answer_texts, line_fault, fault_text}
use Rattle.player.proofs.Steps.{after_stopped, after_other, store_other}
use Rattle.basics.specs.Judged.{Outcome, gave, barred}
use Rattle.access.specs.declared.Resend.{Resend}
use Rattle.access.specs.declared.Resend.TheVariants.{Safe, Unsafe}

-- ---- a log that is cut in two

pub progress_cut : (p : Progress) (xs ys : List ℕ) → progress_over p (xs ++ ys) ≡ progress_over (progress_over p xs) ys
unfolding progress_over
progress_cut p [] ys = refl
progress_cut p (b ∷ xs) ys = progress_cut (after_byte p b) xs ys

pub store_cut : (t : Tables) (s : List ℕ) (p : Progress) (xs ys : List ℕ) → store_over t s p (xs ++ ys) ≡ store_over t (store_over t s p xs) (progress_over p xs) ys
unfolding progress_over store_over
store_cut t s p [] ys = refl
store_cut t s p (b ∷ xs) ys = store_cut t (byte_store t s p b) (after_byte p b) xs ys

pub text_cut : (t : Tables) (s : List ℕ) (p : Progress) (xs ys : List ℕ) → text_over t s p (xs ++ ys) ≡ text_over t s p xs ++ text_over t (store_over t s p xs) (progress_over p xs) ys
unfolding progress_over store_over text_over
text_cut t s p [] ys = refl
text_cut t s p (b ∷ xs) ys =
    let u : List ℕ = byte_store t s p b in
    let q : Progress = after_byte p b in
    ap (λ (l : List ℕ). byte_text t s p b ++ l) (text_cut t u q xs ys) ∙ sym (append_assoc (byte_text t s p b) (text_over t u q xs) (text_over t (store_over t u q xs) (progress_over q xs) ys))

-- ---- a log that is cut in parts

pub parts_text_lem : (t : Tables) (s : List ℕ) (p : Progress) (parts : List (List ℕ)) → parts_text t s p parts ≡ text_over t s p (joined parts)
unfolding joined parts_text text_over
parts_text_lem t s p [] = refl
parts_text_lem t s p (part ∷ parts) =
    ap (λ (l : List ℕ). text_over t s p part ++ l) (parts_text_lem t (store_over t s p part) (progress_over p part) parts) ∙ sym (text_cut t s p part (joined parts))

pub parts_store_lem : (t : Tables) (s : List ℕ) (p : Progress) (parts : List (List ℕ)) → parts_store t s p parts ≡ store_over t s p (joined parts)
unfolding joined parts_store store_over
parts_store_lem t s p [] = refl
parts_store_lem t s p (part ∷ parts) = parts_store_lem t (store_over t s p part) (progress_over p part) parts ∙ sym (store_cut t s p part (joined parts))

-- "however the log is cut, the lines are the same", and so is the store
module _ (t : Tables) (s : List ℕ) (p : Progress) (parts others : List (List ℕ)) (e : joined parts ≡ joined others) where
  pub however_cut : parts_text t s p parts ≡ parts_text t s p others
  however_cut = parts_text_lem t s p parts ∙ ap (text_over t s p) e ∙ sym (parts_text_lem t s p others)

  pub however_cut_store : parts_store t s p parts ≡ parts_store t s p others
  however_cut_store = parts_store_lem t s p parts ∙ ap (store_over t s p) e ∙ sym (parts_store_lem t s p others)

-- ---- line by line

-- within line n, of which some bytes are read
abbrev within : Line → ℕ → Progress
within m n = record { line = m; number = n; stopped = false }

within_more : (m : Line) (n b : ℕ) → (b ≡ 10 → ⊥) → after_byte (within m n) b ≡ within (with_byte m b) n
within_more m n b h = sym (after_other (within m n) b refl h refl)

module _ (t : Tables) (s : List ℕ) (n : ℕ) (rest : List ℕ) where
  text_within : (m : Line) (l : List ℕ) → OneLine l
      → text_over t s (within m n) (l ++ (10 ∷ rest))
      ≡ line_text t s n (ended (with_bytes m l)) ++ text_over t (line_store t s (ended (with_bytes m l))) (at_start (counted n) (is_malformed (ended (with_bytes m l)))) rest
  unfolding text_over byte_text byte_store after_byte with_bytes
  text_within m [] all_none = refl
  text_within m (b ∷ l) (all_more h a) = rw (ne_eqb b 10 h) (text_within (with_byte m b) l a)

  store_within : (m : Line) (l : List ℕ) → OneLine l
      → store_over t s (within m n) (l ++ (10 ∷ rest)) ≡ store_over t (line_store t s (ended (with_bytes m l))) (at_start (counted n) (is_malformed (ended (with_bytes m l)))) rest
  unfolding store_over byte_store after_byte with_bytes
  store_within m [] all_none = refl
  store_within m (b ∷ l) (all_more h a) =
      let bs : List ℕ = l ++ (10 ∷ rest) in
      ap (λ (u : List ℕ). store_over t u (after_byte (within m n) b) bs) (sym (store_other (within m n) b t s refl h)) ∙ ap (λ (q : Progress). store_over t s q bs) (within_more m n b h) ∙ store_within (with_byte m b) l a

  -- a line and the LF behind it: the line's text, the line's store, and the start of the next line
  module _ {l : List ℕ} (a : OneLine l) where
    pub line_played : text_over t s (at_start n false) (l ++ (10 ∷ rest)) ≡ line_text t s n (line_of l) ++ text_over t (line_store t s (line_of l)) (at_start (counted n) (is_malformed (line_of l))) rest
    line_played = text_within fresh l a

    pub line_stored : store_over t s (at_start n false) (l ++ (10 ∷ rest)) ≡ store_over t (line_store t s (line_of l)) (at_start (counted n) (is_malformed (line_of l))) rest
    line_stored = store_within fresh l a

module _ (n : ℕ) (rest : List ℕ) where
  progress_within : (m : Line) (l : List ℕ) → OneLine l → progress_over (within m n) (l ++ (10 ∷ rest)) ≡ progress_over (at_start (counted n) (is_malformed (ended (with_bytes m l)))) rest
  unfolding progress_over after_byte with_bytes
  progress_within m [] all_none = refl
  progress_within m (b ∷ l) (all_more h a) = ap (λ (q : Progress). progress_over q (l ++ (10 ∷ rest))) (within_more m n b h) ∙ progress_within (with_byte m b) l a

  accesses_within : (m : Line) (l : List ℕ) → OneLine l
      → accesses_in (within m n) (l ++ (10 ∷ rest)) ≡ line_accesses (ended (with_bytes m l)) ++ accesses_in (at_start (counted n) (is_malformed (ended (with_bytes m l)))) rest
  unfolding accesses_in ended_by after_byte with_bytes
  accesses_within m [] all_none = refl
  accesses_within m (b ∷ l) (all_more h a) = rw (ne_eqb b 10 h) (accesses_within (with_byte m b) l a)

  fault_within : (m : Line) (l : List ℕ) → OneLine l
      → fault_text (within m n) (l ++ (10 ∷ rest)) ≡ line_fault n (ended (with_bytes m l)) ++ fault_text (at_start (counted n) (is_malformed (ended (with_bytes m l)))) rest
  unfolding fault_text ended_by after_byte with_bytes
  fault_within m [] all_none = refl
  fault_within m (b ∷ l) (all_more h a) = rw (ne_eqb b 10 h) (fault_within (with_byte m b) l a)

  module _ {l : List ℕ} (a : OneLine l) where
    pub line_passed : progress_over (at_start n false) (l ++ (10 ∷ rest)) ≡ progress_over (at_start (counted n) (is_malformed (line_of l))) rest
    line_passed = progress_within fresh l a

    pub line_accesses_lem : accesses_in (at_start n false) (l ++ (10 ∷ rest)) ≡ line_accesses (line_of l) ++ accesses_in (at_start (counted n) (is_malformed (line_of l))) rest
    line_accesses_lem = accesses_within fresh l a

    pub line_fault_lem : fault_text (at_start n false) (l ++ (10 ∷ rest)) ≡ line_fault n (line_of l) ++ fault_text (at_start (counted n) (is_malformed (line_of l))) rest
    line_fault_lem = fault_within fresh l a

-- ---- byte by byte

-- a byte writes what the line that it ends writes
module _ (t : Tables) (s : List ℕ) (p : Progress) (b : ℕ) where
  byte_text_lem : byte_text t s p b ≡ line_text t s p.number (ended_by p b)
  unfolding byte_text ended_by
  byte_text_lem = by p.stopped (eqb b 10)
    where
      by : (stopped ends : Bool) → (if stopped then [] else if not ends then [] else line_text t s p.number (ended p.line))
          ≡ line_text t s p.number (if stopped then Skipped else if not ends then Skipped else ended p.line)
      by true ends = refl
      by false true = refl
      by false false = refl

  byte_store_lem : byte_store t s p b ≡ line_store t s (ended_by p b)
  unfolding byte_store ended_by
  byte_store_lem = by p.stopped (eqb b 10)
    where
      by : (stopped ends : Bool) → (if stopped then s else if not ends then s else line_store t s (ended p.line))
          ≡ line_store t s (if stopped then Skipped else if not ends then Skipped else ended p.line)
      by true ends = refl
      by false true = refl
      by false false = refl

-- ---- behind a malformed line "nothing .. is played"

module _ (p : Progress) (e : p.stopped ≡ true) where
  ended_none : (b : ℕ) → ended_by p b ≡ Skipped
  unfolding ended_by
  ended_none b = rw e

  pub stopped_progress : (bs : List ℕ) → progress_over p bs ≡ p
  unfolding progress_over
  stopped_progress [] = refl
  stopped_progress (b ∷ bs) = ap (λ (q : Progress). progress_over q bs) (sym (after_stopped p b e)) ∙ stopped_progress bs

  pub stopped_accesses : (bs : List ℕ) → accesses_in p bs ≡ []
  unfolding accesses_in
  stopped_accesses [] = refl
  stopped_accesses (b ∷ bs) = rw (ended_none b, ← after_stopped p b e) (stopped_accesses bs)

  pub stopped_fault : (bs : List ℕ) → fault_text p bs ≡ []
  unfolding fault_text
  stopped_fault [] = refl
  stopped_fault (b ∷ bs) = rw (ended_none b, ← after_stopped p b e) (stopped_fault bs)

  module _ (t : Tables) (s : List ℕ) where
    stopped_text : (bs : List ℕ) → text_over t s p bs ≡ []
    unfolding text_over
    stopped_text [] = refl
    stopped_text (b ∷ bs) = rw (byte_text_lem t s p b, byte_store_lem t s p b, ended_none b, ← after_stopped p b e) (stopped_text bs)

    stopped_store : (bs : List ℕ) → store_over t s p bs ≡ s
    unfolding store_over
    stopped_store [] = refl
    stopped_store (b ∷ bs) =
        ap (λ (u : List ℕ). store_over t u (after_byte p b) bs) (byte_store_lem t s p b ∙ ap (line_store t s) (ended_none b)) ∙ ap (λ (q : Progress). store_over t s q bs) (sym (after_stopped p b e)) ∙ stopped_store bs

    pub stopped_none : (bs : List ℕ) → (text_over t s p bs ≡ []) × (store_over t s p bs ≡ s)
    stopped_none bs = (stopped_text bs, stopped_store bs)

-- ---- access by access

-- a malformed line stops the play
malformed_stops : (p : Progress) (b : ℕ) → is_malformed (ended_by p b) ≡ true → (after_byte p b).stopped ≡ true
unfolding ended_by after_byte
malformed_stops p b = by p.stopped (eqb b 10) refl
  where
    by : (stopped ends : Bool) → p.stopped ≡ stopped → is_malformed (if stopped then Skipped else if not ends then Skipped else ended p.line) ≡ true
        → (if stopped then p else if ends then after_line p else record { line = with_byte p.line b; number = p.number; stopped = false }).stopped ≡ true
    by true ends e h = e
    by false true e h = h
    by false false e h = h

stores_join : (t : Tables) (xs ys : List Access) (s : List ℕ) → store_after_all t (xs ++ ys) s ≡ store_after_all t ys (store_after_all t xs s)
unfolding store_after_all
stores_join t [] ys s = refl
stores_join t (x ∷ xs) ys s = stores_join t xs ys (store_after t s x)

line_made : (t : Tables) (s : List ℕ) (x : LogLine) → line_store t s x ≡ store_after_all t (line_accesses x) s
unfolding store_after_all
line_made t s Skipped = refl
line_made t s (Made x) = refl
line_made t s (Malformed column due) = refl

-- the store is the one that the accesses leave
pub played_store : (t : Tables) (s : List ℕ) (p : Progress) (bs : List ℕ) → store_over t s p bs ≡ store_after_all t (accesses_in p bs) s
unfolding store_over accesses_in store_after_all
played_store t s p [] = refl
played_store t s p (b ∷ bs) =
    let own : List Access = line_accesses (ended_by p b) in
    let others : List Access = accesses_in (after_byte p b) bs in
    played_store t (byte_store t s p b) (after_byte p b) bs ∙ ap (store_after_all t others) (byte_store_lem t s p b ∙ line_made t s (ended_by p b)) ∙ sym (stores_join t own others s)

-- a line and what follows, written: behind a malformed line no access follows
line_made_text : (t : Tables) (s : List ℕ) (n : ℕ) (x : LogLine) (others : List Access) (fault : List ℕ) → (is_malformed x ≡ true → others ≡ [])
    → line_text t s n x ++ (access_texts t (line_store t s x) others ++ fault) ≡ access_texts t s (line_accesses x ++ others) ++ (line_fault n x ++ fault)
unfolding access_texts
line_made_text t s n Skipped others fault h = refl
line_made_text t s n (Made x) others fault h = sym (append_assoc (played_text t s x) (access_texts t (store_after t s x) others) fault)
line_made_text t s n (Malformed column due) others fault h = rw (h refl)

-- the text is the lines of the accesses, one for each, and that of the malformed line
pub played_text_lem : (t : Tables) (s : List ℕ) (p : Progress) (bs : List ℕ) → text_over t s p bs ≡ access_texts t s (accesses_in p bs) ++ fault_text p bs
unfolding text_over accesses_in fault_text access_texts
played_text_lem t s p [] = refl
played_text_lem t s p (b ∷ bs) =
    let x : LogLine = ended_by p b in
    let q : Progress = after_byte p b in
    let others : List Access = accesses_in q bs in
    let told : List ℕ = fault_text q bs in
    ap (λ (l : List ℕ). byte_text t s p b ++ l) (played_text_lem t (byte_store t s p b) q bs)
    ∙ ap (λ (u : List ℕ). byte_text t s p b ++ (access_texts t u others ++ told)) (byte_store_lem t s p b)
    ∙ ap (λ (l : List ℕ). l ++ (access_texts t (line_store t s x) others ++ told)) (byte_text_lem t s p b)
    ∙ line_made_text t s p.number x others told (λ h. stopped_accesses q (malformed_stops p b h) bs)

-- and these lines are those of the accesses and their answers
pub played_answers : (t : Tables) (xs : List Access) (s : List ℕ) → access_texts t s xs ≡ answer_texts t xs (answers_of t xs s)
unfolding access_texts answer_texts answers_of played_text
played_answers t [] s = refl
played_answers t (x ∷ xs) s = ap (λ (l : List ℕ). played_text t s x ++ l) (played_answers t xs (store_after t s x))

-- ---- whether an access may be sent again

-- the first refusal of an access and of a retry, by their tests
abbrev first_refusal : Bool → Bool → Bool → Bool → Bool → ℕ
first_refusal formed rows short fitting reached = if not formed then 23 else if not rows then 24 else if short then 22 else if not fitting then 24 else if not reached then 25 else 0

abbrev first_retry : Bool → Bool → Bool → ℕ
first_retry formed rows reached = if not formed then 23 else if not rows then 24 else if not reached then 25 else 0

-- no refusal is a word
word_none : (n word : ℕ) {w : ℕ} → answer_with n word ≡ gave w → n ≡ 0
word_none zero word e = refl
word_none (suc n) word e = absurd (let z : ◌≡◌ {A = ℕ} 0 1 = cc in omega arith)

retry_none : (formed rows short fitting reached : Bool) → first_refusal formed rows short fitting reached ≡ 0 → first_retry formed rows reached ≡ 0
retry_none true true false true true e = refl
retry_none true true false true false e = e
retry_none true true false false reached e = absurd (omega arith)
retry_none true true true fitting reached e = absurd (omega arith)
retry_none true false short fitting reached e = e
retry_none false rows short fitting reached e = e

module _ (t : Tables) (s : List ℕ) (x : Access) {w : ℕ} (e : answer_of t s x ≡ gave w) where
  answered_none : refusal_of t s x ≡ 0
  unfolding answer_of
  answered_none = word_none (refusal_of t s x) (word_from (device_in t) x (bits_of s)) e

  -- an access that is answered is one that retry answers
  pub answered_verdict : retry_refusal t x ≡ 0
  unfolding refusal_of retry_refusal
  answered_verdict = retry_none (well_formed x) (lawful t) (is_short t s) (fits (device_in t).sizes s) (is_reached t x) answered_none

  -- "`retry=unsafe`, `retry=safe`": its line has one of the two
  pub retry_told : retry_text (retry_of t x) ≡ (if repeats (stored_fields t) x then bytes " retry=safe" else bytes " retry=unsafe")
  unfolding retry_of
  retry_told = ap (λ (n : ℕ). retry_text (retry_with n (repeats (stored_fields t) x))) answered_verdict ∙ by (repeats (stored_fields t) x)
    where
      by : (again : Bool) → retry_text (retry_with 0 again) ≡ (if again then bytes " retry=safe" else bytes " retry=unsafe")
      by true = refl
      by false = refl

-- ---- how long the text is

both_short : (a b : List ℕ) {m n : ℕ} → length a ≤ m → length b ≤ n → length (a ++ b) ≤ m + n
both_short a b h g = omega (arith, length-append a b, h, g)

digits_short : (base left n : ℕ) → length (digits base left n) ≤ left + 1
unfolding digits
digits_short base zero n = omega arith
digits_short base (suc left) n =
    let last : List ℕ = digit_byte (n % base) ∷ [] in
    either (λ (l : List ℕ). length l ≤ suc left + 1) (ltb n base) (λ _. omega arith)
    (λ _. omega (arith, both_short (digits base left (n / base)) last {n = 1} (digits_short base left (n / base)) (omega arith)))

module _ (n : ℕ) where
  decimal_short : length (decimal n) ≤ 20
  decimal_short = digits_short 10 19 n

  hex_short : length (hex n) ≤ 18
  hex_short = omega (arith, digits_short 16 15 n)

  blank_hex_short : length (blank_hex n) ≤ 19
  unfolding blank_hex
  blank_hex_short = omega (arith, hex_short)

access_short : (x : Access) → length (access_text x) ≤ 64
unfolding call_text
access_short (Read a w) = omega (arith, both_short (decimal w) (blank_hex a.0) (decimal_short w) (blank_hex_short a.0))
access_short (Write a w x) =
    let call : length (decimal w ++ blank_hex a.0) ≤ 39 = both_short (decimal w) (blank_hex a.0) (decimal_short w) (blank_hex_short a.0) in
    both_short (bytes "write " ++ (decimal w ++ blank_hex a.0)) (blank_hex x) {m = 45} (omega (arith, call)) (blank_hex_short x)

retry_short : (r : Outcome Resend) → length (retry_text r) ≤ 13
retry_short (barred n) = omega arith
retry_short (gave Safe) = omega arith
retry_short (gave Unsafe) = omega arith

done_short : (x : Access) (word : ℕ) → length (done_text x word) ≤ 24
done_short (Read a w) word = omega (arith, hex_short word)
done_short (Write a w x) word = omega arith

outcome_short : (x : Access) (a : Outcome ℕ) (r : Outcome Resend) → length (outcome_text x a r) ≤ 37
outcome_short x (barred n) r = omega (arith, decimal_short n)
outcome_short x (gave word) r = both_short (done_text x word) (retry_text r) (done_short x word) (retry_short r)

played_short : (t : Tables) (s : List ℕ) (x : Access) → length (played_text t s x) ≤ 102
unfolding played_text
played_short t s x =
    let told : List ℕ = outcome_text x (answer_of t s x) (retry_of t x) in
    both_short (access_text x) (told ++ (10 ∷ [])) (access_short x) (both_short told (10 ∷ []) {n = 1} (outcome_short x (answer_of t s x) (retry_of t x)) (omega arith))

expected_short : (e : Expected) → length (expected_text e) ≤ 37
expected_short due.Line = omega arith
expected_short due.ReadWord = omega arith
expected_short due.WriteWord = omega arith
expected_short due.Blank = omega arith
expected_short due.Number = omega arith
expected_short due.HexDigit = omega arith
expected_short due.DigitOrBlank = omega arith
expected_short due.DigitOrEnd = omega arith
expected_short due.FewerBits = omega arith
expected_short due.End = omega arith

module _ (number column : ℕ) where
  place_short : length (place_text number column) ≤ 57
  unfolding place_text
  place_short =
      let behind : length (bytes " column=" ++ decimal column) ≤ 28 = omega (arith, decimal_short column) in
      omega (arith, both_short (decimal number) (bytes " column=" ++ decimal column) (decimal_short number) behind)

  malformed_short : (e : Expected) → length (malformed_text number column e) ≤ 106
  unfolding malformed_text
  malformed_short e =
      let behind : length (expected_text e ++ (10 ∷ [])) ≤ 38 = both_short (expected_text e) (10 ∷ []) {n = 1} (expected_short e) (omega arith) in
      both_short (place_text number column) (bytes ": expected " ++ (expected_text e ++ (10 ∷ []))) {n = 49} place_short (omega (arith, behind))

line_short : (t : Tables) (s : List ℕ) (n : ℕ) (x : LogLine) → length (line_text t s n x) ≤ 128
line_short t s n Skipped = omega arith
line_short t s n (Made x) = omega (arith, played_short t s x)
line_short t s n (Malformed column e) = omega (arith, malformed_short n column e)

-- at most 128 bytes for each byte of the log
pub text_short : (t : Tables) (s : List ℕ) (p : Progress) (bs : List ℕ) → length (text_over t s p bs) ≤ 128 * length bs
unfolding text_over
text_short t s p [] = omega arith
text_short t s p (b ∷ bs) =
    let more : List ℕ = text_over t (byte_store t s p b) (after_byte p b) bs in
    let own : length (byte_text t s p b) ≤ 128 = rw (byte_text_lem t s p b) (line_short t s p.number (ended_by p b)) in
    omega (arith, length-append (byte_text t s p b) more, own, text_short t (byte_store t s p b) (after_byte p b) bs)
