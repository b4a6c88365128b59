-- The tokens, one law for each way that the code goes.
use mathlib.Core.Bool.{Bool, true, false}
use mathlib.Core.Path.{◌≡◌, sym, ◌∙◌}
use mathlib.Core.List.{List, [], ◌∷◌}
use Prim.Native.Nat.{ℕ, ◌+◌, ◌-◌, ◌<◌, ◌≤◌}
use native.Mathlib.Omega.{arith}
use lib.ListN.{length, take, drop, get_or, drop_of_length-le, length-drop}
use lib.Seq.{take_all}
use borrow.Author.Tests.{eq-eqb, ne_eqb, lt-ltb, le-ltb}
use Rattle.basics.specs.Limits.{name_limit, string_limit}
use Rattle.chars.specs.Ascii.{is_letter, is_name_byte, is_number_byte, is_digit}
use Rattle.chars.specs.Run.{run_end}
use Rattle.chars.specs.declared.Radix.TheVariants.{Decimal}
use Rattle.chars.proofs.Laws.{drop_next, run_part}
use Rattle.vocabulary.specs.Vocabulary.{keyword_of, mark_of, mark_bytes}
use Rattle.vocabulary.specs.declared.Lookup.{Lookup}
use Rattle.vocabulary.specs.declared.Mark.{Mark}
use Rattle.numbers.specs.Number.{number_of}
use Rattle.lex.specs.declared.Token.{Token}
use Rattle.lex.specs.declared.Word.{Word}
use Rattle.lex.specs.declared.Word.TheVariants as word
use Rattle.lex.specs.declared.Cause.TheVariants as cause
use Rattle.lex.specs.Blank.{next_from}
use Rattle.lex.specs.Quote.{closing, closing_from}
use Rattle.lex.specs.Token.{token, keyword_word, name_word, number_word, name_token, number_token, string_token, longer, mark_token, token_from, token_at}
use Rattle.std.specs.Prelude.{Option, Some, None, Result, Ok, Err}
use Rattle.numbers.specs.declared.BadNumber.{BadNumber}

module _ (n : List ℕ) where
  pub name_long : name_limit < length n → word.Bad cause.Malformed ≡ name_word n
  unfolding name_word
  name_long h = rw (lt-ltb name_limit (length n) h)

  pub name_short : {l : Lookup} {w : Word} → length n ≤ name_limit → l ≡ keyword_of n → w ≡ keyword_word l → w ≡ name_word n
  unfolding name_word
  name_short h e f = rw (le-ltb name_limit (length n) h, ← e) f

-- a token from the place i of a text on
module _ (t : List ℕ) (i : ℕ) where
  pub name_token_lem : {e : ℕ} {w : Word} → e ≡ run_end is_name_byte t i → w ≡ name_word (take (e - i) (drop i t)) → token w i e ≡ name_token i (drop i t)
  unfolding name_token run_end
  name_token_lem q f = rw (rw (run_part is_name_byte t i q) at f, q)

  pub number-token : {e : ℕ} {n : Result ℕ BadNumber} {w : Word} → e ≡ run_end is_number_byte t i → n ≡ number_of (take (e - i) (drop i t)) → w ≡ number_word n
      → token w i e ≡ number_token i (drop i t)
  unfolding number_token run_end
  number-token q f g = rw (g, rw (run_part is_number_byte t i q) at f, q)

  module _ {x : Result ℕ ℕ} (h : i < length t) (e : x ≡ closing_from i 34 t (i + 1)) where
    same_search : closing i 34 (i + 1) (drop 1 (drop i t)) ≡ x
    unfolding closing_from
    same_search = rw (drop_next t i h) (sym e)

    same_end : i + length (drop i t) ≡ length t
    same_end = simp length-drop (omega arith)

    pub string_long : {q : ℕ} → x ≡ Ok q → string_limit < q - (i + 1) → token (word.Bad cause.Malformed) i (q + 1) ≡ string_token i (drop i t)
    unfolding string_token
    string_long {q} f l = rw (same_search ∙ f, lt-ltb string_limit (q - (i + 1)) l)

    pub string_short : {q : ℕ} → x ≡ Ok q → q - (i + 1) ≤ string_limit → token word.String i (q + 1) ≡ string_token i (drop i t)
    unfolding string_token
    string_short {q} f l = rw (same_search ∙ f, le-ltb string_limit (q - (i + 1)) l)

    pub string_open : {o : ℕ} → x ≡ Err o → token (word.Bad cause.Unclosed) i (length t) ≡ string_token i (drop i t)
    unfolding string_token
    string_open f = rw (same_search ∙ f, same_end)

  -- the longest mark
  one_byte : i < length t → take 1 (drop i t) ≡ get_or t i 0 ∷ []
  one_byte h = rw (drop_next t i h)

  two_bytes : i + 1 < length t → take 2 (drop i t) ≡ get_or t i 0 ∷ get_or t (i + 1) 0 ∷ []
  two_bytes h = rw (drop_next t i (omega arith), drop_next t (i + 1) h)

  module _ {l : Option Mark} (h : i + 1 < length t) (e : l ≡ mark_of (get_or t i 0 ∷ get_or t (i + 1) 0 ∷ [])) where
    pub mark_both : {r x : Option Mark} → r ≡ mark_of (get_or t i 0 ∷ []) → x ≡ longer l r → x ≡ longer (mark_of (take 2 (drop i t))) (mark_of (take 1 (drop i t)))
    mark_both g f = rw (two_bytes h, one_byte (omega arith), sym e, sym g) f

  pub mark_last : {r : Option Mark} → i < length t → length t ≤ i + 1 → r ≡ mark_of (get_or t i 0 ∷ []) → r ≡ longer (mark_of (take 2 (drop i t))) (mark_of (take 1 (drop i t)))
  mark_last k h g =
      let n : length (drop i t) ≤ 1 = simp length-drop (omega arith) in
      rw (take_all 2 (drop i t) (omega arith), take_all 1 (drop i t) n) (twice (mark_of (drop i t)) (rw (sym (one_byte k) ∙ take_all 1 (drop i t) n) at g))
    where
      twice : (x : Option Mark) {r : Option Mark} → r ≡ x → r ≡ longer x x
      twice (Some m) e = e
      twice None e = e

  module _ {l : Option Mark} (e : l ≡ longer (mark_of (take 2 (drop i t))) (mark_of (take 1 (drop i t)))) where
    pub mark_token_lem : {m : Mark} {n : ℕ} → l ≡ Some m → n ≡ length (mark_bytes m) → token (word.Mark m) i (i + n) ≡ mark_token i (drop i t)
    unfolding mark_token
    mark_token_lem f g = rw (sym e ∙ f, g)

    pub mark_none : l ≡ None → token (word.Bad cause.Malformed) i (i + 1) ≡ mark_token i (drop i t)
    unfolding mark_token
    mark_none f = rw (sym e ∙ f)

  -- by the first byte
  pub from_end : length t ≤ i → token word.End i i ≡ token_from i (drop i t)
  unfolding token_from
  from_end h = rw (drop_of_length-le t h)

  module _ {l : Bool} {k : Token} (h : i < length t) (e : l ≡ is_letter (get_or t i 0)) where
    pub from_name : l ≡ true → k ≡ name_token i (drop i t) → k ≡ token_from i (drop i t)
    unfolding token_from
    from_name f g = rw (drop_next t i h, sym e ∙ f) (rw (drop_next t i h) at g)

    module _ {d : Bool} (f : l ≡ false) (g : d ≡ is_digit Decimal (get_or t i 0)) where
      pub from_number : d ≡ true → k ≡ number_token i (drop i t) → k ≡ token_from i (drop i t)
      unfolding token_from
      from_number n j = rw (drop_next t i h, sym e ∙ f, sym g ∙ n) (rw (drop_next t i h) at j)

      pub from_string : d ≡ false → get_or t i 0 ≡ 34 → k ≡ string_token i (drop i t) → k ≡ token_from i (drop i t)
      unfolding token_from
      from_string n q j = rw (drop_next t i h, sym e ∙ f, sym g ∙ n, eq-eqb (get_or t i 0) 34 q) (rw (drop_next t i h) at j)

      pub from_mark : d ≡ false → (get_or t i 0 ≡ 34 → ⊥) → k ≡ mark_token i (drop i t) → k ≡ token_from i (drop i t)
      unfolding token_from
      from_mark n q j = rw (drop_next t i h, sym e ∙ f, sym g ∙ n, ne_eqb (get_or t i 0) 34 q) (rw (drop_next t i h) at j)

-- past the blanks
module _ (t : List ℕ) (at : ℕ) {x : Result ℕ ℕ} (e : x ≡ next_from t at) where
  pub token_past_lem : {i : ℕ} {k : Token} → x ≡ Ok i → k ≡ token_from i (drop i t) → k ≡ token_at t at
  unfolding token_at
  token_past_lem f g = rw (sym e ∙ f) g

  pub token_open : {o : ℕ} → x ≡ Err o → token (word.Bad cause.Unclosed) o (length t) ≡ token_at t at
  unfolding token_at
  token_open f = rw (sym e ∙ f)
