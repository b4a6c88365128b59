-- A printed access is read back as itself: its width in decimal, its address and its word in hex are spellings of these numbers.
use mathlib.Core.Bool.{Bool, true, false}
use mathlib.Core.Path.{◌≡◌, refl, sym, ap, ◌∙◌}
use mathlib.Core.List.{List, [], ◌∷◌, ◌++◌, append_assoc}
use Prim.Native.Nat.{ℕ, zero, suc, ◌+◌, ◌-◌, ◌*◌, ◌/◌, ◌%◌, ◌^◌, ◌<◌, ◌≤◌}
use native.Mathlib.Nat.{mod-lt, mod-eq_of_lt, div-add-mod', div-lt_iff_lt-mul, pow-zero, pow-suc, one-mul}
use native.Mathlib.Omega.{arith}
use lib.Dec.{ltb, leb}
use borrow.Author.Tests.{ltb-true, ltb-false, le-leb, lt-leb}
use Rattle.chars.specs.Ascii.{bytes, is_within, is_digit, is_hex_digit}
use Rattle.chars.specs.Run.{every}
use Rattle.chars.specs.declared.Radix.{Radix}
use Rattle.chars.specs.declared.Radix.TheVariants.{Decimal, Hex}
use Rattle.chars.proofs.Laws.{either, and_left, and_right, and_both, and_false}
use Rattle.numbers.specs.Number.{digit_value, next_value, value_from, value, base_of, plain_digits}
use Rattle.numbers.proofs.Laws as numbers
use Rattle.lines.specs.Text.{digit_byte, digits, decimal, hex}
use Rattle.lines.proofs.Words as words
use Rattle.model.specs.declared.Access.{Access}
use Rattle.model.specs.declared.Access.TheVariants.{Read, Write}
use Rattle.log_lines.specs.declared.LogLine.TheVariants.{Made}
use Rattle.log_lines.specs.Log.{line_of}
use Rattle.log_lines.specs.Text.{access_text, call_text, blank_hex}
use Rattle.log_lines.specs.Spelled.{Spelled, spelled_decimal, spelled_hex, Numbers64, read_line, write_line}
use Rattle.log_lines.proofs.Reading.{spelled_read, spelled_read_return, spelled_write, spelled_write_return}

-- the test of a range
module _ (low high b : ℕ) where
  within_yes : low ≤ b → b ≤ high → is_within low high b ≡ true
  unfolding is_within
  within_yes h g = rw (le-leb low b h, le-leb b high g)

  within_above : high < b → is_within low high b ≡ false
  unfolding is_within
  within_above h = rw (lt-leb b high h) (and_false (leb low b))

-- what a digit's byte is read as
record Printed (r : Radix) (d : ℕ) : Type 0 where
  digit : is_digit r (digit_byte d) ≡ true
  value : digit_value (digit_byte d) ≡ d
  plain : digit_byte d ≡ 95 → ⊥

module _ (d : ℕ) where
  printed_decimal : d < 10 → Printed Decimal d
  printed_decimal h =
      let e : 48 + d ≡ digit_byte d = words.digit-decimal d h in
      let w : is_within 48 57 (digit_byte d) ≡ true = within_yes 48 57 (digit_byte d) (omega arith) (omega arith) in
      record { digit = w; value = sym (numbers.digit-decimal (digit_byte d) refl w (omega arith)); plain = λ f. omega arith }

  printed_letter : 10 ≤ d → d < 16 → Printed Hex d
  unfolding is_hex_digit
  printed_letter l h =
      let e : 97 + (d - 10) ≡ digit_byte d = words.digit_letter d l in
      let n : is_within 48 57 (digit_byte d) ≡ false = within_above 48 57 (digit_byte d) (omega arith) in
      let w : is_within 97 102 (digit_byte d) ≡ true = within_yes 97 102 (digit_byte d) (omega arith) (omega arith) in
      record {
        digit = rw (n, w);
        value = sym (numbers.digit_lower (digit_byte d) refl n {w = d - 10} refl w (omega arith)) ∙ (omega arith);
        plain = λ f. omega arith;
      }

  printed_hex : d < 16 → Printed Hex d
  unfolding is_hex_digit
  printed_hex h = each (ltb d 10) refl
    where
      each : (t : Bool) → ltb d 10 ≡ t → Printed Hex d
      each true e =
          let p : Printed Decimal d = printed_decimal (ltb-true d 10 e) in
          record { digit = rw p.digit; value = p.value; plain = p.plain }
      each false e = printed_letter (ltb-false d 10 e) h

-- digits of one radix that have a value
record Spells (r : Radix) (n : ℕ) (s : List ℕ) : Type 0 where
  plain : plain_digits r s ≡ true
  number : value (base_of r) s ≡ n

every_last : (P : ℕ → Bool) (s : List ℕ) (b : ℕ) → every P s ≡ true → P b ≡ true → every P (s ++ (b ∷ [])) ≡ true
unfolding every
every_last P [] b e f = rw f
every_last P (a ∷ s) b e f = and_both (P a) _ (and_left (P a) _ e) (every_last P s b (and_right (P a) _ e) f)

plain_last : (r : Radix) (s : List ℕ) (b : ℕ) → plain_digits r s ≡ true → is_digit r b ≡ true → plain_digits r (s ++ (b ∷ [])) ≡ true
unfolding plain_digits
plain_last r [] b e f = absurd (let z : ◌≡◌ {A = ℕ} 0 1 = cc in omega arith)
plain_last r (a ∷ s) b e f = every_last (is_digit r) (a ∷ s) b e f

value_last : (base n : ℕ) (s : List ℕ) (b : ℕ) → value_from base n (s ++ (b ∷ [])) ≡ next_value base (value_from base n s) b
unfolding value_from
value_last base n [] b = refl
value_last base n (a ∷ s) b = value_last base (next_value base n a) s b

module _ (r : Radix) (h : 1 ≤ base_of r) (each : (d : ℕ) → d < base_of r → Printed r d) where
  digit_next : (m d : ℕ) → d < base_of r → next_value (base_of r) m (digit_byte d) ≡ m * base_of r + d
  digit_next m d l = let p : Printed r d = each d l in sym (numbers.next_digit (base_of r) m (digit_byte d) p.plain (sym p.value))

  one_digit : (n : ℕ) → n < base_of r → Spells r n (digit_byte (n % base_of r) ∷ [])
  unfolding plain_digits every value_from
  one_digit n l =
      let e : n % base_of r ≡ n = mod-eq_of_lt l in
      rw e (record { plain = rw (each n l).digit; number = digit_next 0 n l ∙ (omega arith) })

  more_digits : (n : ℕ) (s : List ℕ) → Spells r (n / base_of r) s → Spells r n (s ++ (digit_byte (n % base_of r) ∷ []))
  more_digits n s p =
      let l : n % base_of r < base_of r = mod-lt n h in
      record {
        plain = plain_last r s (digit_byte (n % base_of r)) p.plain (each (n % base_of r) l).digit;
        number =
            value_last (base_of r) 0 s (digit_byte (n % base_of r))
            ∙ ap (λ (m : ℕ). next_value (base_of r) m (digit_byte (n % base_of r))) p.number
            ∙ digit_next (n / base_of r) (n % base_of r) l
            ∙ div-add-mod' n (base_of r);
      }

  -- a number is spelled by its digits, as far as these go
  digits_spell : (left n : ℕ) → n < base_of r ^ suc left → Spells r n (digits (base_of r) left n)
  unfolding digits
  digits_spell zero n l = one_digit n (rw (pow-suc (base_of r) 0, pow-zero (base_of r), one-mul (base_of r)) at l)
  digits_spell (suc left) n l =
      either (λ (s : List ℕ). Spells r n s) (ltb n (base_of r)) (λ e. one_digit n (ltb-true n (base_of r) e))
      (λ _. more_digits n (digits (base_of r) left (n / base_of r)) (digits_spell left (n / base_of r) ((div-lt_iff_lt-mul h).1 (rw (pow-suc (base_of r) (suc left)) at l))))

-- "a number of 64 bits has at most 20 decimal and 16 hex digits"
module _ (n : ℕ) (l : n < 2 ^ 64) where
  pub decimal_spelled : Spelled n (decimal n)
  decimal_spelled =
      let p : Spells Decimal n (decimal n) = digits_spell Decimal (omega arith) printed_decimal 19 n (omega arith) in
      spelled_decimal p.plain p.number

  pub hex_spelled : Spelled n (hex n)
  hex_spelled =
      let p : Spells Hex n (digits 16 15 n) = digits_spell Hex (omega arith) printed_hex 15 n (omega arith) in
      spelled_hex p.plain p.number

-- the text of an access is a line of spelled numbers
read_text : (a w : ℕ) → access_text (Read (record { 0 = a }) w) ≡ read_line (decimal w) (hex a)
unfolding call_text blank_hex
read_text a w = refl

write_text : (a w x : ℕ) → access_text (Write (record { 0 = a }) w x) ≡ write_line (decimal w) (hex a) (hex x)
unfolding call_text blank_hex
write_text a w x = ap (λ (t : List ℕ). bytes "write " ++ t) (append_assoc (decimal w) (blank_hex a) (blank_hex x))

-- a printed access is read back as itself, and so it is with a CR at its end
pub printed_read : (x : Access) → Numbers64 x → line_of (access_text x) ≡ Made x
printed_read (Read a w) h = ap line_of (read_text a.0 w) ∙ spelled_read (decimal_spelled w h.0) (hex_spelled a.0 h.1) h.0 h.1
printed_read (Write a w x) h =
    ap line_of (write_text a.0 w x) ∙ spelled_write (decimal_spelled w h.0) (hex_spelled a.0 h.1) h.0 h.1 (hex_spelled x h.2) h.2

pub printed_read_return : (x : Access) → Numbers64 x → line_of (access_text x ++ (13 ∷ [])) ≡ Made x
printed_read_return (Read a w) h =
    ap (λ (t : List ℕ). line_of (t ++ (13 ∷ []))) (read_text a.0 w) ∙ spelled_read_return (decimal_spelled w h.0) (hex_spelled a.0 h.1) h.0 h.1
printed_read_return (Write a w x) h =
    ap (λ (t : List ℕ). line_of (t ++ (13 ∷ []))) (write_text a.0 w x)
    ∙ spelled_write_return (decimal_spelled w h.0) (hex_spelled a.0 h.1) h.0 h.1 (hex_spelled x h.2) h.2
