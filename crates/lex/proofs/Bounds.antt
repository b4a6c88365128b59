-- Where tokens lie: a token starts at the cursor or after it, ends in the text, and one that is not the end moves the cursor on.
use mathlib.Core.Bool.{Bool, true, false, ◌||◌}
use mathlib.Core.Path.{◌≡◌, refl, sym, ap, ◌∙◌}
use mathlib.Core.List.{List, [], ◌∷◌}
use Prim.Native.Nat.{ℕ, suc, min, ◌+◌, ◌-◌, ◌<◌, ◌≤◌}
use native.Mathlib.Omega.{arith}
use lib.Dec.{ltb, eqb}
use lib.ListN.{length, take, drop, drop_of_length-le, length-drop, length-take}
use borrow.Author.Tests.{ltb-true, ltb-false}
use Rattle.std.specs.Prelude.{if◌then◌else◌, Option, Some, None, Result, Ok, Err}
use Rattle.chars.specs.Ascii.{is_blank, is_line_end, is_letter, is_name_byte, is_number_byte, is_digit}
use Rattle.chars.specs.Run.{run}
use Rattle.chars.specs.declared.Radix.TheVariants.{Decimal}
use Rattle.chars.proofs.Laws.{either, run_length}
use Rattle.vocabulary.specs.Vocabulary.{mark_of, mark_bytes}
use Rattle.vocabulary.specs.declared.Mark.{Mark}
use Rattle.vocabulary.proofs.Laws.{mark_spelt}
use Rattle.lex.specs.declared.Token.{Token}
use Rattle.lex.specs.declared.Word.{Word}
use Rattle.lex.specs.declared.Word.TheVariants as word
use Rattle.lex.specs.Blank.{blanks, in_line, in_block, next_from}
use Rattle.lex.specs.Quote.{closes, closing, closing_from}
use Rattle.lex.specs.Token.{token, name_token, number_token, string_to, string_token, longer, mark_word, mark_token, token_from, token_past, token_at}

-- what holds of both choices
both : {A : Type 0} (Q : A → Type 0) (t : Bool) {x y : A} → Q x → Q y → Q (if t then x else y)
both Q t p q = either Q t (λ _. p) (λ _. q)

-- a place from `low` to `high`; an unclosed comment starts at `first` or after it
abbrev pub Found : ℕ → ℕ → ℕ → Result ℕ ℕ → Type 0
Found first low high (Ok i) = (low ≤ i) × (i ≤ high)
Found first low high (Err o) = (first ≤ o) × (o < high)

widen : (first low high first' low' high' : ℕ) (x : Result ℕ ℕ) → first' ≤ first → low' ≤ low → high ≤ high' → Found first low high x → Found first' low' high' x
widen first low high first' low' high' (Ok i) f g h p = (omega arith, omega arith)
widen first low high first' low' high' (Err o) f g h p = (omega arith, omega arith)

mutual
  unfolding blanks

  blanks_found : (p : ℕ) (s : List ℕ) → Found p p (p + length s) (blanks p s)
  blanks_found p [] = (omega arith, omega arith)
  blanks_found p (b ∷ []) = both (Found p p (p + 1)) (is_blank b) (omega arith, omega arith) (omega arith, omega arith)
  blanks_found p (b ∷ c ∷ s) =
      let n : ℕ = p + suc (suc (length s)) in
      both (Found p p n) (is_blank b)
      (widen (p + 1) (p + 1) (p + 1 + suc (length s)) p p n (blanks (p + 1) (c ∷ s)) (omega arith) (omega arith) (omega arith) (blanks_found (p + 1) (c ∷ s)))
      (both (Found p p n) (eqb b 47)
      (both (Found p p n) (eqb c 47)
      (widen (p + 2) (p + 2) (p + 2 + length s) p p n (in_line (p + 2) s) (omega arith) (omega arith) (omega arith) (line-found (p + 2) s))
      (both (Found p p n) (eqb c 42)
      (widen p (p + 2) (p + 2 + length s) p p n (in_block p (p + 2) s) (omega arith) (omega arith) (omega arith) (block_found p (p + 2) s (omega arith)))
      (omega arith, omega arith)))
      (omega arith, omega arith))

  line-found : (p : ℕ) (s : List ℕ) → Found p p (p + length s) (in_line p s)
  line-found p [] = (omega arith, omega arith)
  line-found p (b ∷ s) =
      let n : ℕ = p + suc (length s) in
      both (Found p p n) (is_line_end b)
      (widen (p + 1) (p + 1) (p + 1 + length s) p p n (blanks (p + 1) s) (omega arith) (omega arith) (omega arith) (blanks_found (p + 1) s))
      (widen (p + 1) (p + 1) (p + 1 + length s) p p n (in_line (p + 1) s) (omega arith) (omega arith) (omega arith) (line-found (p + 1) s))

  block_found : (o p : ℕ) (s : List ℕ) → o < p → Found o p (p + length s) (in_block o p s)
  block_found o p [] h = (omega arith, omega arith)
  block_found o p (b ∷ []) h = (omega arith, omega arith)
  block_found o p (b ∷ c ∷ s) h =
      let n : ℕ = p + suc (suc (length s)) in
      let more : Found o p n (in_block o (p + 1) (c ∷ s)) =
      widen o (p + 1) (p + 1 + suc (length s)) o p n (in_block o (p + 1) (c ∷ s)) (omega arith) (omega arith) (omega arith) (block_found o (p + 1) (c ∷ s) (omega arith)) in
      both (Found o p n) (eqb b 42)
      (both (Found o p n) (eqb c 47)
      (widen (p + 2) (p + 2) (p + 2 + length s) o p n (blanks (p + 2) s) (omega arith) (omega arith) (omega arith) (blanks_found (p + 2) s))
      more)
      more

-- the closing quote lies behind the opening one, in the text
abbrev pub Closed : ℕ → ℕ → Result ℕ ℕ → Type 0
Closed low high (Ok q) = (low ≤ q) × (q < high)
Closed low high (Err o) = Unit {0}

pub closing-found : (o before p : ℕ) (s : List ℕ) (high : ℕ) → p + length s ≤ high → Closed p high (closing o before p s)
unfolding closing
closing-found o before p [] high h = tt
closing-found o before p (b ∷ s) high h = both (Closed p high) (closes before b) (omega arith, omega arith) (lower (closing o b (p + 1) s) (closing-found o b (p + 1) s high (omega arith)))
  where
    lower : (x : Result ℕ ℕ) → Closed (p + 1) high x → Closed p high x
    lower (Ok q) c = (omega arith, c.1)
    lower (Err u) c = tt

-- what the search for the closing quote says of its place
module _ (i : ℕ) (t : List ℕ) {x : Result ℕ ℕ} {q : ℕ} (e : x ≡ closing_from i 34 t (i + 1)) (f : x ≡ Ok q) (h : i < length t) where
  quote_within : Closed (i + 1) (length t) (Ok q)
  unfolding closing_from
  quote_within =
      let l : i + 1 + length (drop (i + 1) t) ≤ length t = simp length-drop (omega arith) in
      let c : Closed (i + 1) (length t) (closing i 34 (i + 1) (drop (i + 1) t)) = closing-found i 34 (i + 1) (drop (i + 1) t) (length t) l in
      let g : closing i 34 (i + 1) (drop (i + 1) t) ≡ Ok q = sym e ∙ f in
      rw g at c

  pub quote_after : i + 1 ≤ q
  quote_after = quote_within.0

  pub quote_before : q < length t
  quote_before = quote_within.1

-- A token of the text from the place p on, which ends at `high`: it starts at p, and ends behind p unless it is the end.
pub record Lies (p high : ℕ) (k : Token) : Type 0 where
  pub starts : k.start ≡ p
  pub reaches : p ≤ k.end
  pub inside : k.end ≤ high
  pub moves : (k.word ≡ word.End → ⊥) → p < k.end

-- a token that is known to end behind its start
lies : (p high e : ℕ) (w : Word) → p < e → e ≤ high → Lies p high (token w p e)
lies p high e w h l = record { starts = refl; reaches = omega arith; inside = l; moves = λ _. h }

run-some : (P : ℕ → Bool) (b : ℕ) (s : List ℕ) → P b ≡ true → 0 < length (run P (b ∷ s))
unfolding run
run-some P b s e = rw e (omega arith)

run_lies : (P : ℕ → Bool) (p b : ℕ) (s : List ℕ) (w : Word) → P b ≡ true → Lies p (p + suc (length s)) (token w p (p + length (run P (b ∷ s))))
run_lies P p b s w e =
    lies p (p + suc (length s)) (p + length (run P (b ∷ s))) w (omega (arith, run-some P b s e)) (omega (arith, run_length P (b ∷ s)))

string_lies : (p n : ℕ) (x : Result ℕ ℕ) → Closed (p + 1) (p + suc n) x → Lies p (p + suc n) (string_to p (p + suc n) x)
string_lies p n (Ok q) c = lies p (p + suc n) (q + 1) _ (omega arith) (omega arith)
string_lies p n (Err o) c = lies p (p + suc n) (p + suc n) _ (omega arith) (omega arith)

-- the bytes of a mark that stands at the start of s are one byte or more, all of s
pub mark_fits : (s : List ℕ) (m : Mark) → 0 < length s → longer (mark_of (take 2 s)) (mark_of (take 1 s)) ≡ Some m
    → (0 < length (mark_bytes m)) × (length (mark_bytes m) ≤ length s)
mark_fits s m h = cases (mark_of (take 2 s)) refl
  where
    Fits : Type 0
    Fits = (0 < length (mark_bytes m)) × (length (mark_bytes m) ≤ length s)

    part : (k : ℕ) → 0 < k → mark_of (take k s) ≡ Some m → Fits
    part k l e =
        let n : min k (length s) ≡ length (mark_bytes m) = rw length-take at (ap length (mark_spelt (take k s) e)) in
        (omega arith, omega arith)

    cases : (x : Option Mark) → mark_of (take 2 s) ≡ x → longer x (mark_of (take 1 s)) ≡ Some m → Fits
    cases (Some a) e f = part 2 (omega arith) (e ∙ f)
    cases None e f = part 1 (omega arith) f

-- a mark ends in the text
pub mark_room : (t : List ℕ) (i : ℕ) {l : Option Mark} {m : Mark} {n : ℕ} → i < length t → l ≡ longer (mark_of (take 2 (drop i t))) (mark_of (take 1 (drop i t)))
    → l ≡ Some m → n ≡ length (mark_bytes m) → i + n ≤ length t
mark_room t i {m = m} {n = n} h e f g =
    let s : 0 < length (drop i t) = simp length-drop (omega arith) in
    let w : n ≤ length t - i = rw (g, ← length-drop) (mark_fits (drop i t) m s (sym e ∙ f)).1 in
    omega arith

mark_lies : (p b : ℕ) (s : List ℕ) → Lies p (p + suc (length s)) (mark_token p (b ∷ s))
unfolding mark_token
mark_lies p b s = cases (longer (mark_of (take 2 (b ∷ s))) (mark_of (take 1 (b ∷ s)))) refl
  where
    cases : (x : Option Mark) → longer (mark_of (take 2 (b ∷ s))) (mark_of (take 1 (b ∷ s))) ≡ x → Lies p (p + suc (length s)) (mark_word p x)
    cases (Some m) e =
        let f : (0 < length (mark_bytes m)) × (length (mark_bytes m) ≤ suc (length s)) = mark_fits (b ∷ s) m (omega arith) e in
        lies p (p + suc (length s)) (p + length (mark_bytes m)) _ (omega arith) (omega arith)
    cases None e = lies p (p + suc (length s)) (p + 1) _ (omega arith) (omega arith)

second : (x z : Bool) {y : Bool} → y ≡ true → ((x || y) || z) ≡ true
second true z e = refl
second false z e = rw e

-- a digit may stand in a number
pub number_byte : (b : ℕ) → is_digit Decimal b ≡ true → is_number_byte b ≡ true
unfolding is_number_byte is_name_byte
number_byte b e = second (is_letter b) (eqb b 39) e

pub from_lies : (p : ℕ) (s : List ℕ) → Lies p (p + length s) (token_from p s)
unfolding token_from name_token number_token string_token is_name_byte
from_lies p [] = record { starts = refl; reaches = omega arith; inside = omega arith; moves = λ n. absurd (n refl) }
from_lies p (b ∷ s) =
    let L = Lies p (p + suc (length s)) in
    either L (is_letter b) (λ e. run_lies is_name_byte p b s _ (rw e))
    (λ _. either L (is_digit Decimal b) (λ e. run_lies is_number_byte p b s _ (number_byte b e))
    (λ _. both L (eqb b 34) (string_lies p (length s) (closing p 34 (p + 1) s) (closing-found p 34 (p + 1) s (p + suc (length s)) (omega arith)))
    (mark_lies p b s)))

-- "a token lies within the text"
pub record Within (text : List ℕ) (at : ℕ) (k : Token) : Type 0 where
  pub after : at ≤ k.start
  pub ordered : k.start ≤ k.end
  pub inside : k.end ≤ length text

past_within : (t : List ℕ) (at : ℕ) (x : Result ℕ ℕ) → Found at at (length t) x → Within t at (token_past t x)
past_within t at (Ok i) f =
    let l : Lies i (i + length (drop i t)) (token_from i (drop i t)) = from_lies i (drop i t) in
    let n : i + length (drop i t) ≤ length t = simp length-drop (omega arith) in
    record { after = omega arith; ordered = omega arith; inside = omega arith }
past_within t at (Err o) f = record { after = omega arith; ordered = omega arith; inside = omega arith }

pub next_found : (t : List ℕ) (at : ℕ) → at ≤ length t → Found at at (length t) (next_from t at)
unfolding next_from
next_found t at h =
    let n : at + length (drop at t) ≤ length t = simp length-drop (omega arith) in
    widen at at (at + length (drop at t)) at at (length t) (blanks at (drop at t)) (omega arith) (omega arith) n (blanks_found at (drop at t))

pub token-within : (t : List ℕ) (at : ℕ) → at ≤ length t → Within t at (token_at t at)
unfolding token_at
token-within t at h = past_within t at (next_from t at) (next_found t at h)

past_moves : (t : List ℕ) (at high : ℕ) (x : Result ℕ ℕ) → Found at at high x → high ≤ at + length (drop at t) → ((token_past t x).word ≡ word.End → ⊥) → at < (token_past t x).end
past_moves t at high (Ok i) f l n = omega (arith, (from_lies i (drop i t)).moves n)
past_moves t at high (Err o) f l n = omega (arith, length-drop at t)

-- "a token that isn't the end moves the cursor on"
pub token_moves : (t : List ℕ) (at : ℕ) → ((token_at t at).word ≡ word.End → ⊥) → at < (token_at t at).end
unfolding token_at next_from
token_moves t at = past_moves t at (at + length (drop at t)) (next_from t at) (blanks_found at (drop at t)) (omega arith)

-- past the text there is only its end
past_end : (t : List ℕ) (at : ℕ) → length t ≤ at → (token_at t at).word ≡ word.End
unfolding token_at next_from blanks token_from
past_end t at h = rw (drop_of_length-le t h, drop_of_length-le t h)

-- a token that isn't the end moves the cursor on, within the text
pub token_inside : (t : List ℕ) (at : ℕ) → ((token_at t at).word ≡ word.End → ⊥) → (at < (token_at t at).end) × ((token_at t at).end ≤ length t)
token_inside t at n = (token_moves t at n, below (ltb at (length t)) refl)
  where
    below : (r : Bool) → ltb at (length t) ≡ r → (token_at t at).end ≤ length t
    below true e = (token-within t at (omega (arith, ltb-true at (length t) e))).inside
    below false e = absurd (n (past_end t at (ltb-false at (length t) e)))
