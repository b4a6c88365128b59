-- Choosing by length and first byte leaves exactly the keywords of that length and first byte (`exactly`), and among these a word of that
-- length and first byte is what it is among all keywords (`answer_kept`).
use mathlib.Core.Bool.{Bool, true, false, ◌||◌}
use mathlib.Core.Logic.{◌↔◌}
use mathlib.Core.Path.{◌≡◌, refl, sym, ap, ◌∙◌}
use mathlib.Core.List.{List, [], ◌∷◌, map}
use Prim.Native.Nat.{ℕ}
use native.Mathlib.Omega.{arith}
use lib.Dec.{eqb}
use lib.ListN.{length}
use borrow.Author.Tests.{eq-eqb, ne_eqb, eqb-true}
use Rattle.std.specs.Prelude.{if◌then◌else◌}
use Rattle.basics.specs.All.{All, all_none, all_more, In, in_here, in_later}
use Rattle.chars.specs.Run.{every}
use Rattle.chars.specs.Same.{same_bytes}
use Rattle.chars.proofs.Laws.{either, same_equal, and_left, and_right}
use Rattle.vocabulary.specs.declared.Lookup.{Lookup}
use Rattle.vocabulary.specs.declared.Lookup.TheVariants.{NotKeyword}
use Rattle.vocabulary.specs.Vocabulary.{chosen, entry, keyword_of}
use Rattle.vocabulary.proofs.Laws.{chosen_other, entries}
use Rattle.vocabulary.specs.Candidates.{KeywordEntry, keywords, keyword_among, having, first_byte, candidates, keyword_lengths}

-- Keywords chosen by one key of their words, as the length.
module _ (key : List ℕ → ℕ) (n : ℕ) where
  module _ (k : KeywordEntry) where
    having_front : (j : KeywordEntry) (ks : List KeywordEntry) → eqb (key j.word) n ≡ true → (In k (having key n ks) → In k ks × (key k.word ≡ n))
        → In k (j ∷ having key n ks) → In k (j ∷ ks) × (key k.word ≡ n)
    having_front j ks e rest in_here = (in_here, eqb-true _ _ e)
    having_front j ks e rest (in_later i) = (in_later (rest i).0, (rest i).1)

    having_only : (ks : List KeywordEntry) → In k (having key n ks) → In k ks × (key k.word ≡ n)
    unfolding having
    having_only [] i = elim i [ ]
    having_only (j ∷ ks) i = by (eqb (key j.word) n) refl (having_only ks) i
      where
        by : (t : Bool) → eqb (key j.word) n ≡ t → (In k (having key n ks) → In k ks × (key k.word ≡ n))
            → In k (if t then j ∷ having key n ks else having key n ks) → In k (j ∷ ks) × (key k.word ≡ n)
        by true e rest i = having_front j ks e rest i
        by false e rest i = (in_later (rest i).0, (rest i).1)

    having_all : key k.word ≡ n → (ks : List KeywordEntry) → In k ks → In k (having key n ks)
    unfolding having
    having_all e [] x' = elim x' [ ]
    having_all e (j ∷ ks) in_here = rw (eq-eqb _ _ e) in_here
    having_all e (j ∷ ks) (in_later i) = either (λ (l : List KeywordEntry). In k l) (eqb (key j.word) n) (λ _. in_later (having_all e ks i)) (λ _. having_all e ks i)

  -- none is left where no word has that key
  having_none : (ks : List KeywordEntry) → All (λ (k : KeywordEntry). n ≡ key k.word → ⊥) ks → having key n ks ≡ []
  unfolding having
  having_none [] a = refl
  having_none (k ∷ ks) (all_more u a) = rw (ne_eqb (key k.word) n (λ e. u (sym e))) (having_none ks a)

-- "this leaves exactly the keywords of that length and first byte"
pub exactly : (n b : ℕ) (k : KeywordEntry) → In k (candidates n b) ↔ (In k keywords × (length k.word ≡ n) × (first_byte k.word ≡ b))
unfolding candidates
exactly n b k = (only, all)
  where
    only : In k (candidates n b) → In k keywords × (length k.word ≡ n) × (first_byte k.word ≡ b)
    only i =
        let by_first = having_only first_byte b k (having length n keywords) i in
        let by_length = having_only length n k keywords by_first.0 in
        (by_length.0, by_length.1, by_first.1)

    all : In k keywords × (length k.word ≡ n) × (first_byte k.word ≡ b) → In k (candidates n b)
    all h = having_all first_byte b k h.2 (having length n keywords) (having_all length n k h.1 keywords h.0)

-- Among the keywords that have its own key, a word is what it is among all.
module _ (key : List ℕ → ℕ) (w : List ℕ) where
  unlike : (k : KeywordEntry) → eqb (key k.word) (key w) ≡ false → (s : Bool) → same_bytes w k.word ≡ s → s ≡ false
  unlike k e true f = absurd (let z : true ≡ false = sym (eq-eqb _ _ (ap key (sym (same_equal w k.word f)))) ∙ e in let y : ◌≡◌ {A = ℕ} 0 1 = cc in omega arith)
  unlike k e false f = refl

  among_having : (ks : List KeywordEntry) → keyword_among (having key (key w) ks) w ≡ keyword_among ks w
  unfolding having entry
  among_having [] = refl
  among_having (k ∷ ks) = by (eqb (key k.word) (key w)) refl (among_having ks)
    where
      by : (t : Bool) → eqb (key k.word) (key w) ≡ t → keyword_among (having key (key w) ks) w ≡ keyword_among ks w
          → keyword_among (if t then k ∷ having key (key w) ks else having key (key w) ks) w ≡ chosen w k.word k.means (keyword_among ks w)
      by true e rest = ap (chosen w k.word k.means) rest
      by false e rest = rest ∙ chosen_other w k.word k.means (keyword_among ks w) refl (unlike k e (same_bytes w k.word) refl)

keyword_among_lem : (w : List ℕ) → keyword_among keywords w ≡ keyword_of w
unfolding keyword_of entry
keyword_among_lem w = refl

-- "The answer for every word stays the same"
pub answer_kept : (w : List ℕ) → keyword_among (candidates (length w) (first_byte w)) w ≡ keyword_of w
unfolding candidates
answer_kept w = among_having first_byte w (having length (length w) keywords) ∙ (among_having length w keywords ∙ keyword_among_lem w)

-- No keyword of a list has the length n where all their lengths are listed, and n is none of those listed.
abbrev is_one_of : List ℕ → ℕ → Bool
is_one_of [] n = false
is_one_of (m ∷ ms) n = eqb n m || is_one_of ms n

module _ (n : ℕ) where
  other_listed : (ms : List ℕ) → All (λ (m : ℕ). n ≡ m → ⊥) ms → (x : ℕ) → is_one_of ms x ≡ true → n ≡ x → ⊥
  other_listed [] a x e f = let z : ◌≡◌ {A = ℕ} 0 1 = cc in omega arith
  other_listed (m ∷ ms) (all_more u a) x e f = by (eqb x m) refl e (other_listed ms a x)
    where
      by : (t : Bool) → eqb x m ≡ t → (t || is_one_of ms x) ≡ true → (is_one_of ms x ≡ true → n ≡ x → ⊥) → ⊥
      by true p q rest = u (f ∙ eqb-true x m p)
      by false p q rest = rest q f

  none_listed : (ms : List ℕ) → All (λ (m : ℕ). n ≡ m → ⊥) ms → (ks : List KeywordEntry) → every (is_one_of ms) (map (λ (k : KeywordEntry). length k.word) ks) ≡ true
      → All (λ (k : KeywordEntry). n ≡ length k.word → ⊥) ks
  unfolding every
  none_listed ms a [] e = all_none
  none_listed ms a (k ∷ ks) e = all_more (other_listed ms a (length k.word) (and_left _ _ e)) (none_listed ms a ks (and_right (is_one_of ms (length k.word)) _ e))

module _ (w : List ℕ) where
  -- a word by its length and its first byte
  pub keyword_chosen : (n b : ℕ) {r : Lookup} → length w ≡ n → b ≡ first_byte w → r ≡ keyword_among (candidates n b) w → r ≡ keyword_of w
  keyword_chosen n b e f h = (rw (← e, f) at h) ∙ answer_kept w

  -- a word whose length no keyword has
  pub keyword_none : All (λ (n : ℕ). length w ≡ n → ⊥) keyword_lengths → NotKeyword ≡ keyword_of w
  unfolding entry every
  keyword_none a =
      let none = having_none length (length w) keywords (none_listed (length w) keyword_lengths a keywords refl) in
      ap (λ (ks : List KeywordEntry). keyword_among ks w) (sym none) ∙ (among_having length w keywords ∙ keyword_among_lem w)

  module _ (n b : ℕ) where
    -- a first byte that is known
    pub candidates_at : {x : ℕ} {r : Lookup} → b ≡ x → r ≡ keyword_among (candidates n x) w → r ≡ keyword_among (candidates n b) w
    candidates_at e h = rw e h

    -- a first byte that no keyword of that length has
    pub candidates_none : All (λ (k : KeywordEntry). b ≡ first_byte k.word → ⊥) (having length n keywords) → NotKeyword ≡ keyword_among (candidates n b) w
    unfolding candidates entry
    candidates_none a = sym (ap (λ (ks : List KeywordEntry). keyword_among ks w) (having_none first_byte b (having length n keywords) a))

-- what a function of one length answers in the arm of a first byte, and in its last arm
pub ruleset arms = (candidates_at, entries)

pub ruleset last_arm = (candidates_none, all_none, all_more)
