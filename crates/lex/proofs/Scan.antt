-- How the searches for the next token and for a string's end go on from a place to the next. `x` is the answer.
use mathlib.Core.Bool.{Bool, true, false}
use mathlib.Core.Path.{◌≡◌, refl, sym, ◌∙◌}
use mathlib.Core.List.{List, [], ◌∷◌}
use Prim.Native.Nat.{ℕ, ◌+◌, ◌<◌, ◌≤◌}
use native.Mathlib.Omega.{arith}
use lib.Dec.{eqb}
use lib.ListN.{length, drop, get_or, drop_of_length-le, length-drop}
use borrow.Author.Tests.{eq-eqb, ne_eqb}
use Rattle.chars.specs.Ascii.{is_blank, is_line_end}
use Rattle.chars.proofs.Laws.{drop_next}
use Rattle.lex.specs.Blank.{blanks, in_block, next_from, line_from, block_from}
use Rattle.lex.specs.Quote.{closes, closing, closing_from}
use Rattle.std.specs.Prelude.{Result, Ok, Err}

drop-after : (t : List ℕ) (i : ℕ) → i + 1 < length t → drop (i + 1) t ≡ get_or t (i + 1) 0 ∷ drop (i + 2) t
drop-after t i h =
    let e : i + 1 + 1 ≡ i + 2 = omega arith in
    rw (drop_next t (i + 1) h, e)

drop_two : (t : List ℕ) (i : ℕ) → i + 1 < length t → drop i t ≡ get_or t i 0 ∷ get_or t (i + 1) 0 ∷ drop (i + 2) t
drop_two t i h =
    let h₀ : i < length t = omega arith in
    rw (drop_next t i h₀, drop-after t i h)

blanks_blank : (p b : ℕ) (s : List ℕ) → is_blank b ≡ true → blanks p (b ∷ s) ≡ blanks (p + 1) s
unfolding blanks
blanks_blank p b [] e = rw e
blanks_blank p b (c ∷ s) e = rw e

pub blanks_word : (p b : ℕ) (s : List ℕ) → is_blank b ≡ false → eqb b 47 ≡ false → blanks p (b ∷ s) ≡ Ok p
unfolding blanks
blanks_word p b [] e f = rw e
blanks_word p b (c ∷ s) e f = rw (e, f)

block_short : (o p : ℕ) (s : List ℕ) → length s ≤ 1 → in_block o p s ≡ Err o
unfolding in_block
block_short o p [] l = refl
block_short o p (b ∷ []) l = refl
block_short o p (b ∷ c ∷ s) l = absurd (omega arith)

module _ (t : List ℕ) (i : ℕ) {x : Result ℕ ℕ} where
  module _ (at : next_from t i ≡ x) where
    pub next_end : length t ≤ i → Ok i ≡ x
    unfolding next_from blanks
    next_end h = rw (drop_of_length-le t h) at at

    pub next_blank : {r : Bool} → i < length t → r ≡ is_blank (get_or t i 0) → r ≡ true → next_from t (i + 1) ≡ x
    unfolding next_from
    next_blank h e f = sym (blanks_blank i _ _ (sym e ∙ f)) ∙ (rw (drop_next t i h) at at)

    module _ {r : Bool} (h : i < length t) (e : r ≡ is_blank (get_or t i 0)) (f : r ≡ false) where
      pub next_word : (get_or t i 0 ≡ 47 → ⊥) → Ok i ≡ x
      unfolding next_from
      next_word g = sym (blanks_word i _ _ (sym e ∙ f) (ne_eqb _ _ g)) ∙ (rw (drop_next t i h) at at)

      pub next_last : length t ≤ i + 1 → Ok i ≡ x
      unfolding next_from blanks
      next_last l = rw (drop_next t i h, drop_of_length-le t l, sym e ∙ f) at at

      module _ (l : i + 1 < length t) (s : get_or t i 0 ≡ 47) where
        pub next_line : get_or t (i + 1) 0 ≡ 47 → line_from t (i + 2) ≡ x
        unfolding next_from line_from blanks
        next_line g = rw (drop_two t i l, sym e ∙ f, eq-eqb _ _ s, eq-eqb _ _ g) at at

        pub next_block : (get_or t (i + 1) 0 ≡ 47 → ⊥) → get_or t (i + 1) 0 ≡ 42 → block_from t i (i + 2) ≡ x
        unfolding next_from block_from blanks
        next_block n g = rw (drop_two t i l, sym e ∙ f, eq-eqb _ _ s, ne_eqb _ _ n, eq-eqb _ _ g) at at

        pub next_slash : (get_or t (i + 1) 0 ≡ 47 → ⊥) → (get_or t (i + 1) 0 ≡ 42 → ⊥) → Ok i ≡ x
        unfolding next_from blanks
        next_slash n g = rw (drop_two t i l, sym e ∙ f, eq-eqb _ _ s, ne_eqb _ _ n, ne_eqb _ _ g) at at

  module _ (at : line_from t i ≡ x) where
    pub line_stop : length t ≤ i → Ok i ≡ x
    unfolding line_from blanks
    line_stop h = rw (drop_of_length-le t h) at at

    module _ {r : Bool} (h : i < length t) (e : r ≡ is_line_end (get_or t i 0)) where
      pub line_more : r ≡ false → line_from t (i + 1) ≡ x
      unfolding line_from blanks
      line_more f = rw (drop_next t i h, sym e ∙ f) at at

      pub line_close : r ≡ true → next_from t (i + 1) ≡ x
      unfolding line_from next_from blanks
      line_close f = rw (drop_next t i h, sym e ∙ f) at at

  module _ (o : ℕ) (at : block_from t o i ≡ x) where
    pub block_stop : length t ≤ i + 1 → Err o ≡ x
    unfolding block_from
    block_stop h = sym (block_short o i (drop i t) (simp length-drop (omega arith))) ∙ at

    pub block_close : i + 1 < length t → get_or t i 0 ≡ 42 → get_or t (i + 1) 0 ≡ 47 → next_from t (i + 2) ≡ x
    unfolding block_from next_from blanks
    block_close h f g = rw (drop_two t i h, eq-eqb _ _ f, eq-eqb _ _ g) at at

    pub block_star : i + 1 < length t → get_or t i 0 ≡ 42 → (get_or t (i + 1) 0 ≡ 47 → ⊥) → block_from t o (i + 1) ≡ x
    unfolding block_from next_from blanks
    block_star h f g = rw (drop-after t i h) (rw (drop_two t i h, eq-eqb _ _ f, ne_eqb _ _ g) at at)

    pub block_more : i + 1 < length t → (get_or t i 0 ≡ 42 → ⊥) → block_from t o (i + 1) ≡ x
    unfolding block_from next_from blanks
    block_more h f = rw (drop-after t i h) (rw (drop_two t i h, ne_eqb _ _ f) at at)

module _ (o before : ℕ) (t : List ℕ) (i : ℕ) {x : Result ℕ ℕ} (at : closing_from o before t i ≡ x) where
  pub closing_end : length t ≤ i → Err o ≡ x
  unfolding closing_from closing
  closing_end h = rw (drop_of_length-le t h) at at

  module _ {r : Bool} (h : i < length t) (e : r ≡ closes before (get_or t i 0)) where
    pub closing_here : r ≡ true → Ok i ≡ x
    unfolding closing_from closing
    closing_here f = rw (drop_next t i h, sym e ∙ f) at at

    pub closing_more : r ≡ false → closing_from o (get_or t i 0) t (i + 1) ≡ x
    unfolding closing_from closing
    closing_more f = rw (drop_next t i h, sym e ∙ f) at at

pub ruleset closings = (closing_end, closing_here, closing_more)
