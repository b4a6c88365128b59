-- A line with spelled numbers is read as its access: every spelling of a number that fits 64 bits, with a CR at the end or without.
use mathlib.Core.Bool.{Bool, true, false}
use mathlib.Core.Path.{◌≡◌, refl, ap, ◌∙◌}
use mathlib.Core.List.{List, [], ◌∷◌, ◌++◌}
use Prim.Native.Nat.{ℕ, ◌^◌, ◌<◌, ◌≤◌}
use native.Mathlib.Omega.{arith}
use lib.Dec.{eqb}
use borrow.Author.Tests.{eqb-true, eqb-false, ne_eqb, lt-ltb}
use Rattle.chars.specs.Ascii.{bytes, is_within, is_digit, is_hex_digit}
use Rattle.chars.specs.Run.{every}
use Rattle.chars.specs.declared.Radix.{Radix}
use Rattle.chars.specs.declared.Radix.TheVariants.{Binary, Decimal, Hex}
use Rattle.chars.proofs.Laws.{and_left, and_right, within_high}
use Rattle.numbers.specs.Number.{digit_value, next_value, value_from, value, fitting, base_of, plain_digits}
use Rattle.numbers.proofs.Laws.{value_grows}
use Rattle.model.specs.declared.Access.{Access}
use Rattle.model.specs.declared.Access.TheVariants.{Read, Write}
use Rattle.log_lines.specs.declared.Stage.{Stage}
use Rattle.log_lines.specs.declared.Stage.TheVariants.{Start, Number, Zero, Prefix, Digits, AccessEnd}
use Rattle.log_lines.specs.declared.Call.{Call}
use Rattle.log_lines.specs.declared.Line.{Line}
use Rattle.log_lines.specs.declared.LogLine.TheVariants.{Made}
use Rattle.log_lines.specs.Log.{counted, calling, letter_at, is_last, onward, begun, with_letter, with_value, with_whole, with_digit, behind_number, with_next, with_first, behind_zero, with_first_hex, with_byte, with_bytes, access_of, ended_number, ended, line_of}
use Rattle.log_lines.specs.Spelled.{Spelled, spelled_decimal, spelled_hex, spelled_upper, read_line, write_line}

-- bytes behind bytes
pub with_append : (l : Line) (xs ys : List ℕ) → with_bytes l (xs ++ ys) ≡ with_bytes (with_bytes l xs) ys
unfolding with_bytes
with_append l [] ys = refl
with_append l (b ∷ xs) ys = with_append (with_byte l b) xs ys

abbrev pub line : Stage → ℕ → Call → Line
line s k c = record { stage = s; column = k; call = c }

-- from a stage and an access so far, bytes lead to another, at whatever column
pub record Leads (s : Stage) (c : Call) (bs : List ℕ) (t : Stage) (d : Call) : Type 0 where
  pub column : ℕ → ℕ
  pub same : (k : ℕ) → with_bytes (line s k c) bs ≡ line t (column k) d

pub leads_then : {s t u : Stage} {c d e : Call} {xs ys : List ℕ} → Leads s c xs t d → Leads t d ys u e → Leads s c (xs ++ ys) u e
leads_then {xs = xs} {ys} p q =
    record {
      column = λ k. q.column (p.column k);
      same = λ k. with_append _ xs ys ∙ ap (λ (l : Line). with_bytes l ys) (p.same k) ∙ q.same (p.column k);
    }

-- the words
pub read_leads : Leads Start (calling false) (bytes "read ") Number (calling false)
unfolding with_bytes begun with_letter letter_at onward counted
read_leads = record { column = λ k. counted (counted (counted (counted (counted k)))); same = λ k. refl }

pub write_leads : Leads Start (calling false) (bytes "write ") Number (calling true)
unfolding with_bytes begun with_letter letter_at onward counted
write_leads = record { column = λ k. counted (counted (counted (counted (counted (counted k))))); same = λ k. refl }

-- a base is 1 at least
base_least : (r : Radix) → 1 ≤ base_of r
base_least Binary = omega arith
base_least Decimal = omega arith
base_least Hex = omega arith

-- a digit that fits
module _ (c : Call) (r : Radix) (n b : ℕ) (f : next_value (base_of r) n b < 2 ^ 64) where
  with_digit_lem : (s : Stage) (k : ℕ) → with_digit (line s k (with_value c n)) r b ≡ line (Digits r) (counted k) (with_value c (next_value (base_of r) n b))
  unfolding with_digit fitting onward
  with_digit_lem s k = rw (lt-ltb _ _ f)

  digit_leads : is_digit r b ≡ true → Leads (Digits r) (with_value c n) (b ∷ []) (Digits r) (with_value c (next_value (base_of r) n b))
  unfolding with_bytes with_next
  digit_leads e = record { column = counted; same = λ k. rw e (with_digit_lem (Digits r) k) }

-- digits behind digits
digits_lead : (c : Call) (r : Radix) (n : ℕ) (s : List ℕ) → every (is_digit r) s ≡ true → value_from (base_of r) n s < 2 ^ 64
    → Leads (Digits r) (with_value c n) s (Digits r) (with_value c (value_from (base_of r) n s))
unfolding with_bytes value_from every
digits_lead c r n [] e f = record { column = λ k. k; same = λ k. refl }
digits_lead c r n (b ∷ s) e f =
    let m : ℕ = next_value (base_of r) n b in
    leads_then {xs = b ∷ []} (digit_leads c r n b (omega (arith, value_grows (base_of r) m s (base_least r))) (and_left (is_digit r b) _ e)) (digits_lead c r m s (and_right (is_digit r b) _ e) f)

-- a first 0 adds nothing
pub zero_value : (s : List ℕ) → value 10 (48 ∷ s) ≡ value 10 s
unfolding value_from next_value digit_value is_within
zero_value s = refl

-- the stages behind a digit of a number
pub data Behind : Stage → Type 0 where
  behind_zero_lem : Behind Zero
  behind-decimal : Behind (Digits Decimal)
  behind-hex : Behind (Digits Hex)

module _ (d : Call) where
  -- a blank, where another number follows
  pub blank_leads : {s : Stage} → Behind s → is_last d ≡ false → Leads s d (bytes " ") Number (with_whole d)
  unfolding with_bytes behind_zero with_next behind_number is_within is_hex_digit onward
  blank_leads behind_zero_lem e = record { column = counted; same = λ k. rw e }
  blank_leads behind-decimal e = record { column = counted; same = λ k. rw e }
  blank_leads behind-hex e = record { column = counted; same = λ k. rw e }

  -- a CR behind the last number
  pub return_leads : {s : Stage} → Behind s → is_last d ≡ true → Leads s d (13 ∷ []) AccessEnd d
  unfolding with_bytes behind_zero with_next behind_number is_within is_hex_digit onward
  return_leads behind_zero_lem e = record { column = counted; same = λ k. rw e }
  return_leads behind-decimal e = record { column = counted; same = λ k. rw e }
  return_leads behind-hex e = record { column = counted; same = λ k. rw e }

  -- the end behind the last number
  pub number_ends : {s : Stage} → Behind s → is_last d ≡ true → (k : ℕ) → ended (line s k d) ≡ Made (access_of d)
  unfolding ended_number
  number_ends behind_zero_lem e k = rw e
  number_ends behind-decimal e k = rw e
  number_ends behind-hex e k = rw e

-- bytes that are read as the number n, where a number is due
pub record ReadsAs (c : Call) (bs : List ℕ) (n : ℕ) : Type 0 where
  pub stage : Stage
  pub behind : Behind stage
  pub leads : Leads Number (with_value c 0) bs stage (with_value c n)

module _ (c : Call) where
  -- a first 0
  zero_leads : Leads Number (with_value c 0) (48 ∷ []) Zero (with_value c 0)
  unfolding with_bytes with_first onward
  zero_leads = record { column = counted; same = λ k. refl }

  -- another first digit
  first_leads : (b : ℕ) → is_digit Decimal b ≡ true → (b ≡ 48 → ⊥) → next_value 10 0 b < 2 ^ 64
      → Leads Number (with_value c 0) (b ∷ []) (Digits Decimal) (with_value c (next_value 10 0 b))
  unfolding with_bytes with_first
  first_leads b e g f = record { column = counted; same = λ k. rw (ne_eqb b 48 g, e) (with_digit_lem c Decimal 0 b f Number k) }

  -- a digit behind a first 0
  second_leads : (b : ℕ) → is_digit Decimal b ≡ true → next_value 10 0 b < 2 ^ 64
      → Leads Zero (with_value c 0) (b ∷ []) (Digits Decimal) (with_value c (next_value 10 0 b))
  unfolding with_bytes behind_zero with_next
  second_leads b e f =
      let h : b ≤ 57 = within_high 48 57 b refl e in
      record { column = counted; same = λ k. rw (ne_eqb b 120 (λ q. omega arith), ne_eqb b 88 (λ q. omega arith), e) (with_digit_lem c Decimal 0 b f Zero k) }

  -- `0x`, `0X` and a first hex digit
  prefix_leads : Leads Number (with_value c 0) (bytes "0x") Prefix (with_value c 0)
  unfolding with_bytes with_first behind_zero onward
  prefix_leads = record { column = λ k. counted (counted k); same = λ k. refl }

  upper_leads : Leads Number (with_value c 0) (bytes "0X") Prefix (with_value c 0)
  unfolding with_bytes with_first behind_zero onward
  upper_leads = record { column = λ k. counted (counted k); same = λ k. refl }

  hex_leads : (b : ℕ) → is_digit Hex b ≡ true → next_value 16 0 b < 2 ^ 64
      → Leads Prefix (with_value c 0) (b ∷ []) (Digits Hex) (with_value c (next_value 16 0 b))
  unfolding with_bytes with_first_hex
  hex_leads b e f = record { column = counted; same = λ k. rw e (with_digit_lem c Hex 0 b f Prefix k) }

  -- a digit that leads to digits, and the digits behind it
  behind_first : (r : Radix) (s : Stage) (b : ℕ) (bs : List ℕ) → (next_value (base_of r) 0 b < 2 ^ 64 → Leads s (with_value c 0) (b ∷ []) (Digits r) (with_value c (next_value (base_of r) 0 b)))
      → every (is_digit r) bs ≡ true → value (base_of r) (b ∷ bs) < 2 ^ 64 → Leads s (with_value c 0) (b ∷ bs) (Digits r) (with_value c (value (base_of r) (b ∷ bs)))
  unfolding value_from
  behind_first r s b bs p e f =
      let m : ℕ = next_value (base_of r) 0 b in
      leads_then {xs = b ∷ []} (p (omega (arith, value_grows (base_of r) m bs (base_least r)))) (digits_lead c r m bs e f)

  -- decimal digits behind a first 0
  zero_counts : (s : List ℕ) → every (is_digit Decimal) s ≡ true → value 10 s < 2 ^ 64 → ReadsAs c (48 ∷ s) (value 10 s)
  unfolding every value_from
  zero_counts [] e f = record { stage = Zero; behind = behind_zero_lem; leads = zero_leads }
  zero_counts (b ∷ s) e f =
      let d : is_digit Decimal b ≡ true = and_left (is_digit Decimal b) _ e in
      record {
        stage = Digits Decimal;
        behind = behind-decimal;
        leads = leads_then {xs = 48 ∷ []} zero_leads (behind_first Decimal Zero b s (second_leads b d) (and_right (is_digit Decimal b) _ e) f);
      }

  decimal_counts : (s : List ℕ) → plain_digits Decimal s ≡ true → value 10 s < 2 ^ 64 → ReadsAs c s (value 10 s)
  unfolding plain_digits every
  decimal_counts [] e f = absurd (let z : ◌≡◌ {A = ℕ} 0 1 = cc in omega arith)
  decimal_counts (b ∷ s) e f = first (eqb b 48) refl
    where
      d : is_digit Decimal b ≡ true
      d = and_left (is_digit Decimal b) _ e

      first : (t : Bool) → eqb b 48 ≡ t → ReadsAs c (b ∷ s) (value 10 (b ∷ s))
      first true q =
          let z : b ≡ 48 = eqb-true b 48 q in
          rw (z, zero_value s) (zero_counts s (and_right (is_digit Decimal b) _ e) (rw (z, zero_value s) at f))
      first false q =
          record {
            stage = Digits Decimal;
            behind = behind-decimal;
            leads = behind_first Decimal Number b s (first_leads b d (eqb-false b 48 q)) (and_right (is_digit Decimal b) _ e) f;
          }

  hex_counts : (x s : List ℕ) → Leads Number (with_value c 0) x Prefix (with_value c 0) → plain_digits Hex s ≡ true → value 16 s < 2 ^ 64 → ReadsAs c (x ++ s) (value 16 s)
  unfolding plain_digits every
  hex_counts x [] p e f = absurd (let z : ◌≡◌ {A = ℕ} 0 1 = cc in omega arith)
  hex_counts x (b ∷ s) p e f =
      let d : is_digit Hex b ≡ true = and_left (is_digit Hex b) _ e in
      record { stage = Digits Hex; behind = behind-hex; leads = leads_then p (behind_first Hex Prefix b s (hex_leads b d) (and_right (is_digit Hex b) _ e) f) }

  -- every spelling of a number is read as that number
  pub spelled_counts : {n : ℕ} {s : List ℕ} → Spelled n s → n < 2 ^ 64 → ReadsAs c s n
  spelled_counts (spelled_decimal {s = s} e v) h = rw v at (decimal_counts s e (rw (← v) at h))
  spelled_counts (spelled_hex {s = s} e v) h = rw v at (hex_counts (bytes "0x") s prefix_leads e (rw (← v) at h))
  spelled_counts (spelled_upper {s = s} e v) h = rw v at (hex_counts (bytes "0X") s upper_leads e (rw (← v) at h))

-- a line that is an access, with all its numbers
pub record Whole (bs : List ℕ) (x : Access) : Type 0 where
  pub stage : Stage
  pub behind : Behind stage
  pub call : Call
  pub last : is_last call ≡ true
  pub access : access_of call ≡ x
  pub leads : Leads Start (calling false) bs stage call

module _ {bs : List ℕ} {x : Access} (p : Whole bs x) where
  pub whole_made : line_of bs ≡ Made x
  whole_made = ap ended (p.leads.same 0) ∙ number_ends p.call p.behind p.last (p.leads.column 0) ∙ ap Made p.access

  pub whole_return : line_of (bs ++ (13 ∷ [])) ≡ Made x
  whole_return = ap ended ((leads_then p.leads (return_leads p.call p.behind p.last)).same 0) ∙ ap Made p.access

module _ {w a : ℕ} {ws bs : List ℕ} (p : Spelled w ws) (q : Spelled a bs) (h : w < 2 ^ 64) (i : a < 2 ^ 64) where
  read_whole : Whole (read_line ws bs) (Read (record { 0 = a }) w)
  unfolding is_last counted
  read_whole =
      let c : Call = with_whole (with_value (calling false) w) in
      let n : ReadsAs (calling false) ws w = spelled_counts (calling false) p h in
      let m : ReadsAs c bs a = spelled_counts c q i in
      record {
        stage = m.stage;
        behind = m.behind;
        call = with_value c a;
        last = refl;
        access = refl;
        leads = leads_then read_leads (leads_then n.leads (leads_then (blank_leads _ n.behind refl) m.leads));
      }

  -- every spelling of a read is read, and so it is with a CR at its end
  pub spelled_read : line_of (read_line ws bs) ≡ Made (Read (record { 0 = a }) w)
  spelled_read = whole_made read_whole

  pub spelled_read_return : line_of (read_line ws bs ++ (13 ∷ [])) ≡ Made (Read (record { 0 = a }) w)
  spelled_read_return = whole_return read_whole

  module _ {x : ℕ} {xs : List ℕ} (r : Spelled x xs) (j : x < 2 ^ 64) where
    write_whole : Whole (write_line ws bs xs) (Write (record { 0 = a }) w x)
    unfolding is_last counted
    write_whole =
        let c : Call = with_whole (with_value (calling true) w) in
        let d : Call = with_whole (with_value c a) in
        let n : ReadsAs (calling true) ws w = spelled_counts (calling true) p h in
        let m : ReadsAs c bs a = spelled_counts c q i in
        let o : ReadsAs d xs x = spelled_counts d r j in
        record {
          stage = o.stage;
          behind = o.behind;
          call = with_value d x;
          last = refl;
          access = refl;
          leads =
              leads_then write_leads
              (leads_then n.leads (leads_then (blank_leads _ n.behind refl) (leads_then m.leads (leads_then (blank_leads _ m.behind refl) o.leads))));
        }

    -- every spelling of a write is read, and so it is with a CR at its end
    pub spelled_write : line_of (write_line ws bs xs) ≡ Made (Write (record { 0 = a }) w x)
    spelled_write = whole_made write_whole

    pub spelled_write_return : line_of (write_line ws bs xs ++ (13 ∷ [])) ≡ Made (Write (record { 0 = a }) w x)
    spelled_write_return = whole_return write_whole
