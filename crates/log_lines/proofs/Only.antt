-- The lines that are read as an access are those that spell one, and no others; those that are skipped are empty or comments.
use mathlib.Core.Bool.{Bool, true, false, not}
use mathlib.Core.Path.{◌≡◌, refl, sym, ◌∙◌}
use mathlib.Core.List.{List, [], ◌∷◌, ◌++◌, append-nil, append_assoc}
use Prim.Native.Nat.{ℕ, ◌^◌, ◌<◌}
use native.Mathlib.Omega.{arith}
use lib.Dec.{eqb, ltb}
use borrow.Author.Tests.{eqb-true, ltb-true}
use Rattle.std.specs.Prelude.{if◌then◌else◌, Result, Ok, Err}
use Rattle.chars.specs.Ascii.{bytes, is_within, is_digit}
use Rattle.chars.specs.Run.{every}
use Rattle.chars.specs.declared.Radix.{Radix}
use Rattle.chars.specs.declared.Radix.TheVariants.{Decimal, Hex}
use Rattle.chars.proofs.Laws.{either, and_both}
use Rattle.numbers.specs.Number.{digit_value, next_value, value_from, fitting, base_of, plain_digits}
use Rattle.model.specs.declared.Access.{Access}
use Rattle.log_lines.specs.declared.Expected.{Expected}
use Rattle.log_lines.specs.declared.Stage.{Stage}
use Rattle.log_lines.specs.declared.Stage.TheVariants.{Start, Comment, Word, Number, Zero, Prefix, Digits, EmptyEnd, AccessEnd, Broken}
use Rattle.log_lines.specs.declared.Call.{Call}
use Rattle.log_lines.specs.declared.Line.{Line}
use Rattle.log_lines.specs.declared.LogLine.{LogLine}
use Rattle.log_lines.specs.declared.LogLine.TheVariants.{Skipped, Made, Malformed}
use Rattle.log_lines.specs.Log.{counted, calling, letter_at, is_last, onward, broken, begun, with_letter, with_value, with_whole, with_numeral, with_digit, behind_number, with_next, with_first, behind_zero, with_first_hex, with_byte, with_bytes, access_of, cut_short, ended_number, ended, line_of}
use Rattle.log_lines.specs.Spelled.{Spelled, spelled_decimal, spelled_hex, spelled_upper, read_line, write_line, Ends, ends_bare, ends_return, Written, written_read, written_write, Passed, passed_empty, passed_comment}
use Rattle.log_lines.proofs.Reading.{line, zero_value, spelled_read, spelled_read_return, spelled_write, spelled_write_return}
use Rattle.numbers.specs.declared.BadNumber.{BadNumber}

made_inner : {x y : Access} → Made x ≡ Made y → x ≡ y
made_inner e = cc

malformed_not : {n : ℕ} {d : Expected} {x : Access} → Malformed n d ≡ Made x → ⊥
malformed_not e = let z : ◌≡◌ {A = ℕ} 0 1 = cc in omega arith

-- what a line is that goes on with some bytes and ends there
unfoldable line_with : Line → List ℕ → LogLine
line_with l [] = ended l
line_with l (b ∷ bs) = line_with (with_byte l b) bs

line_with_lem : (l : Line) (bs : List ℕ) → line_with l bs ≡ ended (with_bytes l bs)
unfolding line_with with_bytes
line_with_lem l [] = refl
line_with_lem l (b ∷ bs) = line_with_lem (with_byte l b) bs

-- a line that is broken stays so
broken_stays : (d : Expected) (k : ℕ) (c : Call) (bs : List ℕ) → line_with (line (Broken d) k c) bs ≡ Malformed k d
unfolding line_with
broken_stays d k c [] = refl
broken_stays d k c (b ∷ bs) = broken_stays d k c bs

module _ {x : Access} where
  broken_at_not : (d : Expected) (k : ℕ) (c : Call) (bs : List ℕ) → line_with (line (Broken d) k c) bs ≡ Made x → ⊥
  broken_at_not d k c bs h = malformed_not (sym (broken_stays d k c bs) ∙ h)

  broken_not : (l : Line) (bs : List ℕ) → line_with (broken l) bs ≡ Made x → ⊥
  unfolding broken onward
  broken_not l bs h = broken_at_not _ _ _ bs h

-- what stands behind a number, up to the next
data Tail (d : Call) (x : Access) : List ℕ → Type 0 where
  tail_end : {bs : List ℕ} → is_last d ≡ true → access_of d ≡ x → Ends bs → Tail d x bs
  tail_more : {bs : List ℕ} → is_last d ≡ false → (k : ℕ) → line_with (line Number k (with_whole d)) bs ≡ Made x → Tail d x (32 ∷ bs)

module _ {x : Access} (l : Line) where
  nothing_tail : ended_number l ≡ Made x → Tail l.call x []
  unfolding ended_number cut_short
  nothing_tail h = by (is_last l.call) refl
    where
      by : (t : Bool) → is_last l.call ≡ t → Tail l.call x []
      by true q = tail_end q (made_inner (rw q at h)) ends_bare
      by false q = absurd (malformed_not (rw q at h))

  return_tail : (bs : List ℕ) → is_last l.call ≡ true → line_with (onward l AccessEnd l.call) bs ≡ Made x → Tail l.call x (13 ∷ bs)
  unfolding line_with onward
  return_tail [] q h = tail_end q (made_inner h) ends_return
  return_tail (b ∷ bs) q h = absurd (broken_not _ bs h)

  number_tail : (b : ℕ) (bs : List ℕ) → line_with (behind_number l b) bs ≡ Made x → Tail l.call x (b ∷ bs)
  unfolding behind_number onward
  number_tail b bs h = by (is_last l.call) refl
    where
      by_return : is_last l.call ≡ true → (t : Bool) → eqb b 13 ≡ t → Tail l.call x (b ∷ bs)
      by_return q true r = rw (eqb-true b 13 r) (return_tail bs q (rw (q, r) at h))
      by_return q false r = absurd (broken_not l bs (rw (q, r) at h))

      by_blank : is_last l.call ≡ false → (t : Bool) → eqb b 32 ≡ t → Tail l.call x (b ∷ bs)
      by_blank q true r = rw (eqb-true b 32 r) (tail_more q (counted l.column) (rw (q, r) at h))
      by_blank q false r = absurd (broken_not l bs (rw (q, r) at h))

      by : (t : Bool) → is_last l.call ≡ t → Tail l.call x (b ∷ bs)
      by true q = by_return q (eqb b 13) refl
      by false q = by_blank q (eqb b 32) refl

-- digits behind digits of the value n, and what stands behind them
data DigitsThen (c : Call) (r : Radix) (n : ℕ) (x : Access) : List ℕ → Type 0 where
  digits_then : (ds : List ℕ) {rest : List ℕ} → every (is_digit r) ds ≡ true → value_from (base_of r) n ds < 2 ^ 64 → Tail (with_value c (value_from (base_of r) n ds)) x rest
      → DigitsThen c r n x (ds ++ rest)

module _ {x : Access} (c : Call) (r : Radix) where
  -- one digit, by what holds of the bytes behind it
  digit-behind : (s : Stage) (k n b : ℕ) (bs : List ℕ) → ((m : ℕ) → m < 2 ^ 64 → line_with (line (Digits r) (counted k) (with_value c m)) bs ≡ Made x → DigitsThen c r m x bs)
      → line_with (with_digit (line s k (with_value c n)) r b) bs ≡ Made x → DigitsThen c r (next_value (base_of r) n b) x bs
  unfolding with_digit fitting onward
  digit-behind s k n b bs p h = by (ltb (next_value (base_of r) n b) (2 ^ 64)) refl
    where
      by : (t : Bool) → ltb (next_value (base_of r) n b) (2 ^ 64) ≡ t → DigitsThen c r (next_value (base_of r) n b) x bs
      by true q = p (next_value (base_of r) n b) (ltb-true _ _ q) (rw q at h)
      by false q = absurd (broken_at_not _ _ _ bs (rw q at h))

  digits_more : (n b : ℕ) {bs : List ℕ} → is_digit r b ≡ true → DigitsThen c r (next_value (base_of r) n b) x bs → DigitsThen c r n x (b ∷ bs)
  unfolding every value_from
  digits_more n b e (digits_then ds a f t) = digits_then (b ∷ ds) (and_both (is_digit r b) _ e a) f t

  digits-behind : (k n : ℕ) (bs : List ℕ) → n < 2 ^ 64 → line_with (line (Digits r) k (with_value c n)) bs ≡ Made x → DigitsThen c r n x bs
  unfolding line_with with_next every value_from
  digits-behind k n [] f h = digits_then [] refl f (nothing_tail _ h)
  digits-behind k n (b ∷ bs) f h = by (λ m. digits-behind (counted k) m bs) (is_digit r b) refl
    where
      by : ((m : ℕ) → m < 2 ^ 64 → line_with (line (Digits r) (counted k) (with_value c m)) bs ≡ Made x → DigitsThen c r m x bs)
          → (t : Bool) → is_digit r b ≡ t → DigitsThen c r n x (b ∷ bs)
      by p true q = digits_more n b q (digit-behind (Digits r) k n b bs p (rw q at h))
      by p false q = digits_then [] refl f (number_tail _ b bs (rw q at h))

  first_behind : (s : Stage) (k b : ℕ) (bs : List ℕ) → line_with (with_digit (line s k (with_value c 0)) r b) bs ≡ Made x → DigitsThen c r (next_value (base_of r) 0 b) x bs
  first_behind s k b bs = digit-behind s k 0 b bs (λ m. digits-behind (counted k) m bs)

-- a spelled number, and what stands behind it
data NumberThen (c : Call) (x : Access) : List ℕ → Type 0 where
  number_then : (n : ℕ) (s : List ℕ) {rest : List ℕ} → Spelled n s → n < 2 ^ 64 → Tail (with_value c n) x rest → NumberThen c x (s ++ rest)

module _ {x : Access} (c : Call) where
  decimal_then : (b : ℕ) {bs : List ℕ} → is_digit Decimal b ≡ true → DigitsThen c Decimal (next_value 10 0 b) x bs → NumberThen c x (b ∷ bs)
  unfolding plain_digits every value_from
  decimal_then b e (digits_then ds a f t) = number_then _ (b ∷ ds) (spelled_decimal (and_both (is_digit Decimal b) _ e a) refl) f t

  zero_then : (b : ℕ) {bs : List ℕ} → is_digit Decimal b ≡ true → DigitsThen c Decimal (next_value 10 0 b) x bs → NumberThen c x (48 ∷ b ∷ bs)
  unfolding plain_digits every value_from is_within
  zero_then b e (digits_then ds a f t) = number_then _ (48 ∷ b ∷ ds) (spelled_decimal (and_both (is_digit Decimal b) _ e a) (zero_value (b ∷ ds))) f t

  hex_then : (b : ℕ) (bs : List ℕ) → is_digit Hex b ≡ true → DigitsThen c Hex (next_value 16 0 b) x bs → NumberThen c x (bytes "0x" ++ (b ∷ bs))
  unfolding plain_digits every value_from
  hex_then b _ e (digits_then ds a f t) = number_then _ (48 ∷ 120 ∷ b ∷ ds) (spelled_hex {s = b ∷ ds} (and_both (is_digit Hex b) _ e a) refl) f t

  upper_then : (b : ℕ) (bs : List ℕ) → is_digit Hex b ≡ true → DigitsThen c Hex (next_value 16 0 b) x bs → NumberThen c x (bytes "0X" ++ (b ∷ bs))
  unfolding plain_digits every value_from
  upper_then b _ e (digits_then ds a f t) = number_then _ (48 ∷ 88 ∷ b ∷ ds) (spelled_upper {s = b ∷ ds} (and_both (is_digit Hex b) _ e a) refl) f t

  -- behind `0x` or `0X`: a hex digit
  prefix_only : (P : List ℕ → Type 0) → ((b : ℕ) (bs : List ℕ) → is_digit Hex b ≡ true → DigitsThen c Hex (next_value 16 0 b) x bs → P (b ∷ bs))
      → (k : ℕ) (bs : List ℕ) → line_with (line Prefix k (with_value c 0)) bs ≡ Made x → P bs
  unfolding line_with with_first_hex cut_short
  prefix_only P p k [] h = absurd (malformed_not h)
  prefix_only P p k (b ∷ bs) h = by (is_digit Hex b) refl
    where
      by : (t : Bool) → is_digit Hex b ≡ t → P (b ∷ bs)
      by true q = p b bs q (first_behind c Hex Prefix k b bs (rw q at h))
      by false q = absurd (broken_not _ bs (rw q at h))

  -- behind a first 0
  zero_only : (k : ℕ) (bs : List ℕ) → line_with (line Zero k (with_value c 0)) bs ≡ Made x → NumberThen c x (48 ∷ bs)
  unfolding line_with behind_zero with_next onward plain_digits every value_from is_within next_value digit_value
  zero_only k [] h = number_then 0 (48 ∷ []) (spelled_decimal refl refl) (omega arith) (nothing_tail _ h)
  zero_only k (b ∷ bs) h = by_lower (eqb b 120) refl
    where
      by_digit : eqb b 120 ≡ false → eqb b 88 ≡ false → (t : Bool) → is_digit Decimal b ≡ t → NumberThen c x (48 ∷ b ∷ bs)
      by_digit q r true e = zero_then b e (first_behind c Decimal Zero k b bs (rw (q, r, e) at h))
      by_digit q r false e = number_then 0 (48 ∷ []) (spelled_decimal refl refl) (omega arith) (number_tail _ b bs (rw (q, r, e) at h))

      by_upper : eqb b 120 ≡ false → (t : Bool) → eqb b 88 ≡ t → NumberThen c x (48 ∷ b ∷ bs)
      by_upper q true r = rw (eqb-true b 88 r) (prefix_only (λ (s : List ℕ). NumberThen c x (48 ∷ 88 ∷ s)) upper_then (counted k) bs (rw (q, r) at h))
      by_upper q false r = by_digit q r (is_digit Decimal b) refl

      by_lower : (t : Bool) → eqb b 120 ≡ t → NumberThen c x (48 ∷ b ∷ bs)
      by_lower true q = rw (eqb-true b 120 q) (prefix_only (λ (s : List ℕ). NumberThen c x (48 ∷ 120 ∷ s)) hex_then (counted k) bs (rw q at h))
      by_lower false q = by_upper q (eqb b 88) refl

  -- where a number is due
  number_only : (k : ℕ) (bs : List ℕ) → line_with (line Number k (with_value c 0)) bs ≡ Made x → NumberThen c x bs
  unfolding line_with with_first onward cut_short
  number_only k [] h = absurd (malformed_not h)
  number_only k (b ∷ bs) h = by_zero (eqb b 48) refl
    where
      by_digit : eqb b 48 ≡ false → (t : Bool) → is_digit Decimal b ≡ t → NumberThen c x (b ∷ bs)
      by_digit q true e = decimal_then b e (first_behind c Decimal Number k b bs (rw (q, e) at h))
      by_digit q false e = absurd (broken_not _ bs (rw (q, e) at h))

      by_zero : (t : Bool) → eqb b 48 ≡ t → NumberThen c x (b ∷ bs)
      by_zero true q = rw (eqb-true b 48 q) (zero_only (counted k) bs (rw q at h))
      by_zero false q = by_digit q (is_digit Decimal b) refl

-- the numbers of a read, one after the other
module _ {x : Access} where
  read_second : (w : ℕ) (ws : List ℕ) {bs : List ℕ} → Spelled w ws → w < 2 ^ 64 → NumberThen (with_whole (with_value (calling false) w)) x bs
      → Written x (bytes "read " ++ (ws ++ (32 ∷ bs)))
  unfolding is_last counted
  read_second w ws p f (number_then a s q g (tail_end {bs = end} i e z)) = rw (← e, ← append_assoc ws (32 ∷ s) end) (written_read p q f g z)
  read_second w ws p f (number_then a s q g (tail_more i k h)) = absurd (let z : ◌≡◌ {A = ℕ} 0 1 = cc in omega arith)

  read_first : {bs : List ℕ} → NumberThen (calling false) x bs → Written x (bytes "read " ++ bs)
  unfolding is_last
  read_first (number_then w ws p f (tail_end i e z)) = absurd (let z : ◌≡◌ {A = ℕ} 0 1 = cc in omega arith)
  read_first (number_then w ws p f (tail_more {bs = bs} i k h)) = read_second w ws p f (number_only _ k bs h)

-- those of a write
module _ {x : Access} where
  write_third : (w a : ℕ) (ws bs : List ℕ) {cs : List ℕ} → Spelled w ws → Spelled a bs → w < 2 ^ 64 → a < 2 ^ 64
      → NumberThen (with_whole (with_value (with_whole (with_value (calling true) w)) a)) x cs → Written x (bytes "write " ++ (ws ++ (32 ∷ (bs ++ (32 ∷ cs)))))
  unfolding is_last counted
  write_third w a ws bs p q f g (number_then y s r u (tail_end {bs = end} i e z)) =
      rw (← e, ← append_assoc bs (32 ∷ s) end, ← append_assoc ws (32 ∷ (bs ++ (32 ∷ s))) end) (written_write p q r f g u z)
  write_third w a ws bs p q f g (number_then y s r u (tail_more i k h)) = absurd (let z : ◌≡◌ {A = ℕ} 0 1 = cc in omega arith)

  write_second : (w : ℕ) (ws : List ℕ) {bs : List ℕ} → Spelled w ws → w < 2 ^ 64 → NumberThen (with_whole (with_value (calling true) w)) x bs
      → Written x (bytes "write " ++ (ws ++ (32 ∷ bs)))
  unfolding is_last counted
  write_second w ws p f (number_then a s q g (tail_end i e z)) = absurd (let z : ◌≡◌ {A = ℕ} 0 1 = cc in omega arith)
  write_second w ws p f (number_then a s q g (tail_more {bs = bs} i k h)) = write_third w a ws s p q f g (number_only _ k bs h)

  write_first : {bs : List ℕ} → NumberThen (calling true) x bs → Written x (bytes "write " ++ bs)
  unfolding is_last
  write_first (number_then w ws p f (tail_end i e z)) = absurd (let z : ◌≡◌ {A = ℕ} 0 1 = cc in omega arith)
  write_first (number_then w ws p f (tail_more {bs = bs} i k h)) = write_second w ws p f (number_only _ k bs h)

-- bytes that lead to a stage, and those behind them
record Leading (s : Stage) (c : Call) (x : Access) (b : ℕ) (bs : List ℕ) : Type 0 where
  rest : List ℕ
  column : ℕ
  split : bs ≡ b ∷ rest
  goes : line_with (line s column c) rest ≡ Made x

module _ {x : Access} where
  -- a letter of the word
  letter_only : (writes : Bool) (n k : ℕ) (bs : List ℕ) → line_with (line (Word n) k (calling writes)) bs ≡ Made x
      → Leading (if eqb (letter_at writes n) 32 then Number else Word (counted n)) (calling writes) x (letter_at writes n) bs
  unfolding line_with with_letter onward cut_short
  letter_only writes n k [] h = absurd (malformed_not h)
  letter_only writes n k (b ∷ bs) h = by (eqb b (letter_at writes n)) refl
    where
      by : (t : Bool) → eqb b (letter_at writes n) ≡ t
          → Leading (if eqb (letter_at writes n) 32 then Number else Word (counted n)) (calling writes) x (letter_at writes n) (b ∷ bs)
      by false q = absurd (broken_not _ bs (rw q at h))
      by true q = blank (eqb b 32) refl
        where
          e : b ≡ letter_at writes n
          e = eqb-true b (letter_at writes n) q

          blank : (t : Bool) → eqb b 32 ≡ t
              → Leading (if eqb (letter_at writes n) 32 then Number else Word (counted n)) (calling writes) x (letter_at writes n) (b ∷ bs)
          blank true r = rw (← e, r) (record { rest = bs; column = counted k; split = refl; goes = rw (q, r) at h })
          blank false r = rw (← e, r) (record { rest = bs; column = counted k; split = refl; goes = rw (q, r) at h })

  read_only : (k : ℕ) (bs : List ℕ) → line_with (line (Word 1) k (calling false)) bs ≡ Made x → Written x (114 ∷ bs)
  unfolding letter_at counted
  read_only k bs h =
      let l1 : Leading (Word 2) (calling false) x 101 bs = letter_only false 1 k bs h in
      let l2 : Leading (Word 3) (calling false) x 97 l1.rest = letter_only false 2 l1.column l1.rest l1.goes in
      let l3 : Leading (Word 4) (calling false) x 100 l2.rest = letter_only false 3 l2.column l2.rest l2.goes in
      let l4 : Leading Number (calling false) x 32 l3.rest = letter_only false 4 l3.column l3.rest l3.goes in
      rw (l1.split, l2.split, l3.split, l4.split) (read_first {bs = l4.rest} (number_only (calling false) l4.column l4.rest l4.goes))

  write-only : (k : ℕ) (bs : List ℕ) → line_with (line (Word 1) k (calling true)) bs ≡ Made x → Written x (119 ∷ bs)
  unfolding letter_at counted
  write-only k bs h =
      let l1 : Leading (Word 2) (calling true) x 114 bs = letter_only true 1 k bs h in
      let l2 : Leading (Word 3) (calling true) x 105 l1.rest = letter_only true 2 l1.column l1.rest l1.goes in
      let l3 : Leading (Word 4) (calling true) x 116 l2.rest = letter_only true 3 l2.column l2.rest l2.goes in
      let l4 : Leading (Word 5) (calling true) x 101 l3.rest = letter_only true 4 l3.column l3.rest l3.goes in
      let l5 : Leading Number (calling true) x 32 l4.rest = letter_only true 5 l4.column l4.rest l4.goes in
      rw (l1.split, l2.split, l3.split, l4.split, l5.split) (write_first {bs = l5.rest} (number_only (calling true) l5.column l5.rest l5.goes))

-- comments and empty lines are no accesses
skipped_not : {x : Access} → Skipped ≡ Made x → ⊥
skipped_not e = let z : ◌≡◌ {A = ℕ} 0 1 = cc in omega arith

comment_stays : (k : ℕ) (c : Call) (bs : List ℕ) → line_with (line Comment k c) bs ≡ Skipped
unfolding line_with
comment_stays k c [] = refl
comment_stays k c (b ∷ bs) = comment_stays k c bs

empty_not : {x : Access} (k : ℕ) (c : Call) (bs : List ℕ) → line_with (line EmptyEnd k c) bs ≡ Made x → ⊥
unfolding line_with
empty_not k c [] h = skipped_not h
empty_not k c (b ∷ bs) h = broken_not _ bs h

module _ {x : Access} where
  start_only : (k : ℕ) (c : Call) (bs : List ℕ) → line_with (line Start k c) bs ≡ Made x → Written x bs
  unfolding line_with begun onward
  start_only k c [] h = absurd (skipped_not h)
  start_only k c (b ∷ bs) h = by_comment (eqb b 35) refl
    where
      by_return : eqb b 35 ≡ false → eqb b 114 ≡ false → eqb b 119 ≡ false → (t : Bool) → eqb b 13 ≡ t → Written x (b ∷ bs)
      by_return p q r true s = absurd (empty_not _ _ bs (rw (p, q, r, s) at h))
      by_return p q r false s = absurd (broken_not _ bs (rw (p, q, r, s) at h))

      by_write : eqb b 35 ≡ false → eqb b 114 ≡ false → (t : Bool) → eqb b 119 ≡ t → Written x (b ∷ bs)
      by_write p q true r = rw (eqb-true b 119 r) (write-only _ bs (rw (p, q, r) at h))
      by_write p q false r = by_return p q r (eqb b 13) refl

      by_read : eqb b 35 ≡ false → (t : Bool) → eqb b 114 ≡ t → Written x (b ∷ bs)
      by_read p true q = rw (eqb-true b 114 q) (read_only _ bs (rw (p, q) at h))
      by_read p false q = by_write p q (eqb b 119) refl

      by_comment : (t : Bool) → eqb b 35 ≡ t → Written x (b ∷ bs)
      by_comment true p = absurd (skipped_not (sym (comment_stays _ _ bs) ∙ (rw p at h)))
      by_comment false p = by_read p (eqb b 114) refl

-- a line that is read as an access spells that access
pub made_spelled : (bs : List ℕ) (x : Access) → line_of bs ≡ Made x → Written x bs
made_spelled bs x h = start_only 0 (calling false) bs (line_with_lem _ bs ∙ h)

-- and every line that spells one is read as it
pub written_made : {x : Access} {bs : List ℕ} → Written x bs → line_of bs ≡ Made x
written_made (written_read {ws = ws} {bs = bs} p q f g ends_bare) = rw (append-nil (read_line ws bs)) (spelled_read p q f g)
written_made (written_read p q f g ends_return) = spelled_read_return p q f g
written_made (written_write {ws = ws} {bs = bs} {xs = xs} p q r f g u ends_bare) = rw (append-nil (write_line ws bs xs)) (spelled_write p q f g r u)
written_made (written_write p q r f g u ends_return) = spelled_write_return p q f g r u

-- the stages of an access or of a broken line, from which no line is skipped
abbrev is_busy : Stage → Bool
is_busy Start = false
is_busy Comment = false
is_busy (Word n) = true
is_busy Number = true
is_busy Zero = true
is_busy Prefix = true
is_busy (Digits r) = true
is_busy EmptyEnd = false
is_busy AccessEnd = true
is_busy (Broken d) = true

abbrev Busy : Line → Type 0
Busy l = is_busy l.stage ≡ true

module _ (l : Line) where
  broken_busy : Busy (broken l)
  unfolding broken onward
  broken_busy = refl

  letter_busy : (n b : ℕ) → Busy (with_letter l n b)
  unfolding with_letter onward
  letter_busy n b = either Busy (not (eqb b (letter_at l.call.writes n))) (λ _. broken_busy) (λ _. either Busy (eqb b 32) (λ _. refl) (λ _. refl))

  numeral_busy : (r : Radix) (m : Result ℕ BadNumber) → Busy (with_numeral l r m)
  unfolding onward
  numeral_busy r (Ok n) = refl
  numeral_busy r (Err bad) = refl

  digit_busy : (r : Radix) (b : ℕ) → Busy (with_digit l r b)
  unfolding with_digit
  digit_busy r b = numeral_busy r (fitting 64 (next_value (base_of r) l.call.value b))

  behind_busy : (b : ℕ) → Busy (behind_number l b)
  unfolding behind_number onward
  behind_busy b =
      either Busy (is_last l.call) (λ _. either Busy (eqb b 13) (λ _. refl) (λ _. broken_busy)) (λ _. either Busy (eqb b 32) (λ _. refl) (λ _. broken_busy))

  next_busy : (r : Radix) (b : ℕ) → Busy (with_next l r b)
  unfolding with_next
  next_busy r b = either Busy (is_digit r b) (λ _. digit_busy r b) (λ _. behind_busy b)

  first_busy : (b : ℕ) → Busy (with_first l b)
  unfolding with_first onward
  first_busy b = either Busy (eqb b 48) (λ _. refl) (λ _. either Busy (is_digit Decimal b) (λ _. digit_busy Decimal b) (λ _. broken_busy))

  zero_busy : (b : ℕ) → Busy (behind_zero l b)
  unfolding behind_zero onward
  zero_busy b = either Busy (eqb b 120) (λ _. refl) (λ _. either Busy (eqb b 88) (λ _. refl) (λ _. next_busy Decimal b))

  hex_busy : (b : ℕ) → Busy (with_first_hex l b)
  unfolding with_first_hex
  hex_busy b = either Busy (is_digit Hex b) (λ _. digit_busy Hex b) (λ _. broken_busy)

byte_busy : (s : Stage) (k : ℕ) (c : Call) (b : ℕ) → is_busy s ≡ true → Busy (with_byte (line s k c) b)
byte_busy Start k c b e = absurd (let z : ◌≡◌ {A = ℕ} 0 1 = cc in omega arith)
byte_busy Comment k c b e = absurd (let z : ◌≡◌ {A = ℕ} 0 1 = cc in omega arith)
byte_busy (Word n) k c b e = letter_busy _ n b
byte_busy Number k c b e = first_busy _ b
byte_busy Zero k c b e = zero_busy _ b
byte_busy Prefix k c b e = hex_busy _ b
byte_busy (Digits r) k c b e = next_busy _ r b
byte_busy EmptyEnd k c b e = absurd (let z : ◌≡◌ {A = ℕ} 0 1 = cc in omega arith)
byte_busy AccessEnd k c b e = broken_busy _
byte_busy (Broken d) k c b e = refl

-- a line that ends at such a stage is not skipped
malformed_counts : {n : ℕ} {d : Expected} → Malformed n d ≡ Skipped → ⊥
malformed_counts e = let z : ◌≡◌ {A = ℕ} 0 1 = cc in omega arith

cut_counts : (l : Line) → cut_short l ≡ Skipped → ⊥
unfolding cut_short
cut_counts l h = malformed_counts h

number_counts : (l : Line) → ended_number l ≡ Skipped → ⊥
unfolding ended_number
number_counts l = either (λ (x : LogLine). x ≡ Skipped → ⊥) (is_last l.call) (λ _ h. skipped_not (sym h)) (λ _ h. cut_counts l h)

stage_counts : (s : Stage) (k : ℕ) (c : Call) → is_busy s ≡ true → ended (line s k c) ≡ Skipped → ⊥
stage_counts Start k c e h = let z : ◌≡◌ {A = ℕ} 0 1 = cc in omega arith
stage_counts Comment k c e h = let z : ◌≡◌ {A = ℕ} 0 1 = cc in omega arith
stage_counts (Word n) k c e h = cut_counts _ h
stage_counts Number k c e h = cut_counts _ h
stage_counts Zero k c e h = number_counts _ h
stage_counts Prefix k c e h = cut_counts _ h
stage_counts (Digits r) k c e h = number_counts _ h
stage_counts EmptyEnd k c e h = let z : ◌≡◌ {A = ℕ} 0 1 = cc in omega arith
stage_counts AccessEnd k c e h = skipped_not (sym h)
stage_counts (Broken d) k c e h = malformed_counts h

line_counts : (l : Line) (bs : List ℕ) → Busy l → line_with l bs ≡ Skipped → ⊥
unfolding line_with
line_counts l [] e h = stage_counts l.stage l.column l.call e h
line_counts l (b ∷ bs) e h = line_counts (with_byte l b) bs (byte_busy l.stage l.column l.call b e) h

-- a CR is the whole of an empty line
return_passed : (k : ℕ) (c : Call) (bs : List ℕ) → line_with (line EmptyEnd k c) bs ≡ Skipped → Passed (13 ∷ bs)
unfolding line_with
return_passed k c [] h = passed_empty ends_return
return_passed k c (b ∷ bs) h = absurd (line_counts _ bs (broken_busy _) h)

start_passed : (k : ℕ) (c : Call) (bs : List ℕ) → line_with (line Start k c) bs ≡ Skipped → Passed bs
unfolding line_with begun onward
start_passed k c [] h = passed_empty ends_bare
start_passed k c (b ∷ bs) h = by_comment (eqb b 35) refl
  where
    by_return : eqb b 35 ≡ false → eqb b 114 ≡ false → eqb b 119 ≡ false → (t : Bool) → eqb b 13 ≡ t → Passed (b ∷ bs)
    by_return p q r true s = rw (eqb-true b 13 s) (return_passed _ _ bs (rw (p, q, r, s) at h))
    by_return p q r false s = absurd (line_counts _ bs (broken_busy _) (rw (p, q, r, s) at h))

    by_write : eqb b 35 ≡ false → eqb b 114 ≡ false → (t : Bool) → eqb b 119 ≡ t → Passed (b ∷ bs)
    by_write p q true r = absurd (line_counts _ bs refl (rw (p, q, r) at h))
    by_write p q false r = by_return p q r (eqb b 13) refl

    by_read : eqb b 35 ≡ false → (t : Bool) → eqb b 114 ≡ t → Passed (b ∷ bs)
    by_read p true q = absurd (line_counts _ bs refl (rw (p, q) at h))
    by_read p false q = by_write p q (eqb b 119) refl

    by_comment : (t : Bool) → eqb b 35 ≡ t → Passed (b ∷ bs)
    by_comment true p = rw (eqb-true b 35 p) passed_comment
    by_comment false p = by_read p (eqb b 114) refl

-- a line that is skipped is empty or a comment
pub skipped_only : (bs : List ℕ) → line_of bs ≡ Skipped → Passed bs
skipped_only bs h = start_passed 0 (calling false) bs (line_with_lem _ bs ∙ h)

-- and every such line is skipped
pub passed_skipped : {bs : List ℕ} → Passed bs → line_of bs ≡ Skipped
unfolding with_bytes begun onward
passed_skipped (passed_empty ends_bare) = refl
passed_skipped (passed_empty ends_return) = refl
passed_skipped (passed_comment {bs = bs}) = sym (line_with_lem _ bs) ∙ comment_stays _ _ bs
