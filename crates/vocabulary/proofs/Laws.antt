-- How a list of words is tested, one word after another.
use mathlib.Core.Bool.{Bool, true, false}
use mathlib.Core.Path.{◌≡◌, refl, sym, ap, ◌∙◌}
use mathlib.Core.List.{List, [], ◌∷◌, ◌++◌}
use Prim.Native.Nat.{ℕ}
use native.Mathlib.Omega.{arith}
use lib.ListN.{length}
use Rattle.chars.specs.Ascii.{bytes}
use Rattle.chars.specs.Same.{same_bytes}
use Rattle.chars.proofs.Laws.{either, same_equal}
use Rattle.vocabulary.specs.declared.Keyword.{Keyword}
use Rattle.vocabulary.specs.declared.Lookup.{Lookup}
use Rattle.vocabulary.specs.declared.Lookup.TheVariants.{Kept, LeftOut, NotKeyword}
use Rattle.vocabulary.specs.declared.Property.{Property}
use Rattle.vocabulary.specs.declared.Mark.{Mark}
use Rattle.vocabulary.specs.declared.Mark.TheVariants as mark
use Rattle.vocabulary.specs.Vocabulary.{chosen, entry, spelling, kept_keywords, itself, leave, left_out_keywords, keyword_of, property_name, property_of, access_properties, effect_properties, other_properties, mark_bytes, mark_of, bracket_marks, separator_marks, suffix_marks, expression_marks}
use Rattle.std.specs.Prelude.{Option, Some, None}

module _ {B : Type 0} (w s : List ℕ) {r : Bool} (this other : B) (e : r ≡ same_bytes w s) where
  pub chosen_this : r ≡ true → this ≡ chosen w s this other
  unfolding chosen
  chosen_this f = rw (sym e ∙ f)

  pub chosen_other : r ≡ false → other ≡ chosen w s this other
  unfolding chosen
  chosen_other f = rw (sym e ∙ f)

module _ {A B : Type 0} (word : A → List ℕ) (give : A → B) (other : B) (w : List ℕ) where
  pub entry_none : other ≡ entry word give other [] w
  unfolding entry
  entry_none = refl

  pub entry_next : (a : A) (rest : List A) {x y : B} → x ≡ chosen w (word a) (give a) y → y ≡ entry word give other rest w
      → x ≡ entry word give other (a ∷ rest) w
  unfolding entry
  entry_next a rest e f = rw f at e

  entry-append : (l m : List A) → entry word give (entry word give other m w) l w ≡ entry word give other (l ++ m) w
  unfolding entry
  entry-append [] m = refl
  entry-append (a ∷ l) m = ap (chosen w (word a) (give a)) (entry-append l m)

  -- a list behind another is what the other answers for any other word
  pub entry-behind : (l m : List A) {x y : B} → x ≡ entry word give y l w → y ≡ entry word give other m w → x ≡ entry word give other (l ++ m) w
  entry-behind l m e f = rw f at e ∙ entry-append l m

pub ruleset entries = (entry_none, entry_next)

-- What holds of what is given for an item with the word `w`, and of the other answer, holds of the answer.
module _ {A B : Type 0} (word : A → List ℕ) (give : A → B) (other : B) (w : List ℕ) (Q : B → Type 0) (found : (a : A) → w ≡ word a → Q (give a)) (none : Q other) where
  chosen_holds : (a : A) (x : B) → Q x → Q (chosen w (word a) (give a) x)
  unfolding chosen
  chosen_holds a x q = either Q (same_bytes w (word a)) (λ e. found a (same_equal w (word a) e)) (λ _. q)

  pub entry_holds : (l : List A) → Q (entry word give other l w)
  unfolding entry
  entry_holds [] = none
  entry_holds (a ∷ l) = chosen_holds a (entry word give other l w) (entry_holds l)

-- a word that is found is spelt so
pub keyword_spelt : (w : List ℕ) {k : Keyword} → keyword_of w ≡ Kept k → w ≡ spelling k
unfolding keyword_of
keyword_spelt w {k} =
    entry_holds spelling Kept _ w spelt (λ a e f. e ∙ ap spelling (kept f))
    (entry_holds itself leave NotKeyword w spelt (λ a e f. left f) (λ f. plain f) left_out_keywords) kept_keywords
  where
    spelt : Lookup → Type 0
    spelt x = x ≡ Kept k → w ≡ spelling k

    kept : {a : Keyword} → Kept a ≡ Kept k → a ≡ k
    kept f = cc

    left : LeftOut ≡ Kept k → w ≡ spelling k
    left f = absurd (let z : ◌≡◌ {A = ℕ} 0 1 = cc in omega arith)

    plain : NotKeyword ≡ Kept k → w ≡ spelling k
    plain f = absurd (let z : ◌≡◌ {A = ℕ} 0 1 = cc in omega arith)

pub property_spelt : (w : List ℕ) {p : Property} → property_of w ≡ Some p → w ≡ property_name p
unfolding property_of
property_spelt w {p} =
    entry_holds property_name Some None w (λ (x : Option Property). x ≡ Some p → w ≡ property_name p) (λ a e f. e ∙ ap property_name (known f)) (λ f. unknown f)
    (access_properties ++ (effect_properties ++ other_properties))
  where
    known : {a : Property} → Some a ≡ Some p → a ≡ p
    known f = cc

    unknown : None ≡ Some p → w ≡ property_name p
    unknown f = absurd (let z : ◌≡◌ {A = ℕ} 0 1 = cc in omega arith)

pub mark_spelt : (w : List ℕ) {m : Mark} → mark_of w ≡ Some m → w ≡ mark_bytes m
unfolding mark_of
mark_spelt w {m} =
    entry_holds mark_bytes Some None w (λ (x : Option Mark). x ≡ Some m → w ≡ mark_bytes m) (λ a e f. e ∙ ap mark_bytes (known f)) (λ f. unknown f)
    (bracket_marks ++ (separator_marks ++ (suffix_marks ++ expression_marks)))
  where
    known : {a : Mark} → Some a ≡ Some m → a ≡ m
    known f = cc

    unknown : None ≡ Some m → w ≡ mark_bytes m
    unknown f = absurd (let z : ◌≡◌ {A = ℕ} 0 1 = cc in omega arith)

-- bytes that no mark has
pub mark_none : (w : List ℕ) → ((m : Mark) → w ≡ mark_bytes m → ⊥) → None ≡ mark_of w
mark_none w f = by (mark_of w) refl
  where
    by : (x : Option Mark) → mark_of w ≡ x → None ≡ mark_of w
    by (Some m) e = absurd (f m (mark_spelt w e))
    by None e = sym e

first : {a b : ℕ} {x y : List ℕ} → (a ∷ x) ≡ (b ∷ y) → a ≡ b
first e = cc

second : {a b c d : ℕ} {x y : List ℕ} → (a ∷ c ∷ x) ≡ (b ∷ d ∷ y) → c ≡ d
second e = cc

long : (x y : List ℕ) → x ≡ y → (length x ≡ length y → ⊥) → ⊥
long x y e f = f (ap length e)

module _ (a : ℕ) where
  pub single_none : (a ≡ 123 → ⊥) → (a ≡ 125 → ⊥) → (a ≡ 91 → ⊥) → (a ≡ 93 → ⊥) → (a ≡ 59 → ⊥) → (a ≡ 58 → ⊥) → (a ≡ 44 → ⊥) → (a ≡ 61 → ⊥) → (a ≡ 64 → ⊥) → (a ≡ 40 → ⊥) → (a ≡ 41 → ⊥) → (a ≡ 42 → ⊥) → (a ≡ 47 → ⊥) → (a ≡ 37 → ⊥) → (a ≡ 43 → ⊥) → (a ≡ 45 → ⊥) → (a ≡ 60 → ⊥) → (a ≡ 62 → ⊥) → (a ≡ 38 → ⊥) → (a ≡ 94 → ⊥) → (a ≡ 124 → ⊥) → None ≡ mark_of (a ∷ [])
  single_none n1 n2 n3 n4 n5 n6 n7 n8 n9 n10 n11 n12 n13 n14 n15 n16 n17 n18 n19 n20 n21 = mark_none (a ∷ []) by
    where
      by : (m : Mark) → (a ∷ []) ≡ mark_bytes m → ⊥
      by mark.OpenBrace e = n1 (first e)
      by mark.CloseBrace e = n2 (first e)
      by mark.OpenBracket e = n3 (first e)
      by mark.CloseBracket e = n4 (first e)
      by mark.Semicolon e = n5 (first e)
      by mark.Colon e = n6 (first e)
      by mark.Comma e = n7 (first e)
      by mark.Equals e = n8 (first e)
      by mark.At e = n9 (first e)
      by mark.PlusEquals e = long (a ∷ []) (bytes "+=") e (λ z. omega arith)
      by mark.PercentEquals e = long (a ∷ []) (bytes "%=") e (λ z. omega arith)
      by mark.OpenParen e = n10 (first e)
      by mark.CloseParen e = n11 (first e)
      by mark.Times e = n12 (first e)
      by mark.Slash e = n13 (first e)
      by mark.Percent e = n14 (first e)
      by mark.Plus e = n15 (first e)
      by mark.Minus e = n16 (first e)
      by mark.ShiftLeft e = long (a ∷ []) (bytes "<<") e (λ z. omega arith)
      by mark.ShiftRight e = long (a ∷ []) (bytes ">>") e (λ z. omega arith)
      by mark.Less e = n17 (first e)
      by mark.AtMost e = long (a ∷ []) (bytes "<=") e (λ z. omega arith)
      by mark.More e = n18 (first e)
      by mark.AtLeast e = long (a ∷ []) (bytes ">=") e (λ z. omega arith)
      by mark.Same e = long (a ∷ []) (bytes "==") e (λ z. omega arith)
      by mark.Unlike e = long (a ∷ []) (bytes "!=") e (λ z. omega arith)
      by mark.Ampersand e = n19 (first e)
      by mark.Caret e = n20 (first e)
      by mark.Bar e = n21 (first e)

  pub equals_none : (a ≡ 43 → ⊥) → (a ≡ 37 → ⊥) → (a ≡ 60 → ⊥) → (a ≡ 62 → ⊥) → (a ≡ 61 → ⊥) → (a ≡ 33 → ⊥) → None ≡ mark_of (a ∷ 61 ∷ [])
  equals_none n1 n2 n3 n4 n5 n6 = mark_none (a ∷ 61 ∷ []) by
    where
      by : (m : Mark) → (a ∷ 61 ∷ []) ≡ mark_bytes m → ⊥
      by mark.OpenBrace e = long (a ∷ 61 ∷ []) (bytes "{") e (λ z. omega arith)
      by mark.CloseBrace e = long (a ∷ 61 ∷ []) (bytes "}") e (λ z. omega arith)
      by mark.OpenBracket e = long (a ∷ 61 ∷ []) (bytes "[") e (λ z. omega arith)
      by mark.CloseBracket e = long (a ∷ 61 ∷ []) (bytes "]") e (λ z. omega arith)
      by mark.Semicolon e = long (a ∷ 61 ∷ []) (bytes ";") e (λ z. omega arith)
      by mark.Colon e = long (a ∷ 61 ∷ []) (bytes ":") e (λ z. omega arith)
      by mark.Comma e = long (a ∷ 61 ∷ []) (bytes ",") e (λ z. omega arith)
      by mark.Equals e = long (a ∷ 61 ∷ []) (bytes "=") e (λ z. omega arith)
      by mark.At e = long (a ∷ 61 ∷ []) (bytes "@") e (λ z. omega arith)
      by mark.PlusEquals e = n1 (first e)
      by mark.PercentEquals e = n2 (first e)
      by mark.OpenParen e = long (a ∷ 61 ∷ []) (bytes "(") e (λ z. omega arith)
      by mark.CloseParen e = long (a ∷ 61 ∷ []) (bytes ")") e (λ z. omega arith)
      by mark.Times e = long (a ∷ 61 ∷ []) (bytes "*") e (λ z. omega arith)
      by mark.Slash e = long (a ∷ 61 ∷ []) (bytes "/") e (λ z. omega arith)
      by mark.Percent e = long (a ∷ 61 ∷ []) (bytes "%") e (λ z. omega arith)
      by mark.Plus e = long (a ∷ 61 ∷ []) (bytes "+") e (λ z. omega arith)
      by mark.Minus e = long (a ∷ 61 ∷ []) (bytes "-") e (λ z. omega arith)
      by mark.ShiftLeft e = let z : ◌≡◌ {A = ℕ} 61 60 = second e in omega arith
      by mark.ShiftRight e = let z : ◌≡◌ {A = ℕ} 61 62 = second e in omega arith
      by mark.Less e = long (a ∷ 61 ∷ []) (bytes "<") e (λ z. omega arith)
      by mark.AtMost e = n3 (first e)
      by mark.More e = long (a ∷ 61 ∷ []) (bytes ">") e (λ z. omega arith)
      by mark.AtLeast e = n4 (first e)
      by mark.Same e = n5 (first e)
      by mark.Unlike e = n6 (first e)
      by mark.Ampersand e = long (a ∷ 61 ∷ []) (bytes "&") e (λ z. omega arith)
      by mark.Caret e = long (a ∷ 61 ∷ []) (bytes "^") e (λ z. omega arith)
      by mark.Bar e = long (a ∷ 61 ∷ []) (bytes "|") e (λ z. omega arith)

  module _ (b : ℕ) (o : b ≡ 61 → ⊥) where
    pub unlike_none : (a ≡ b → ⊥) → None ≡ mark_of (a ∷ b ∷ [])
    unlike_none n = mark_none (a ∷ b ∷ []) by
      where
        by : (m : Mark) → (a ∷ b ∷ []) ≡ mark_bytes m → ⊥
        by mark.OpenBrace e = long (a ∷ b ∷ []) (bytes "{") e (λ z. omega arith)
        by mark.CloseBrace e = long (a ∷ b ∷ []) (bytes "}") e (λ z. omega arith)
        by mark.OpenBracket e = long (a ∷ b ∷ []) (bytes "[") e (λ z. omega arith)
        by mark.CloseBracket e = long (a ∷ b ∷ []) (bytes "]") e (λ z. omega arith)
        by mark.Semicolon e = long (a ∷ b ∷ []) (bytes ";") e (λ z. omega arith)
        by mark.Colon e = long (a ∷ b ∷ []) (bytes ":") e (λ z. omega arith)
        by mark.Comma e = long (a ∷ b ∷ []) (bytes ",") e (λ z. omega arith)
        by mark.Equals e = long (a ∷ b ∷ []) (bytes "=") e (λ z. omega arith)
        by mark.At e = long (a ∷ b ∷ []) (bytes "@") e (λ z. omega arith)
        by mark.PlusEquals e = o (second e)
        by mark.PercentEquals e = o (second e)
        by mark.OpenParen e = long (a ∷ b ∷ []) (bytes "(") e (λ z. omega arith)
        by mark.CloseParen e = long (a ∷ b ∷ []) (bytes ")") e (λ z. omega arith)
        by mark.Times e = long (a ∷ b ∷ []) (bytes "*") e (λ z. omega arith)
        by mark.Slash e = long (a ∷ b ∷ []) (bytes "/") e (λ z. omega arith)
        by mark.Percent e = long (a ∷ b ∷ []) (bytes "%") e (λ z. omega arith)
        by mark.Plus e = long (a ∷ b ∷ []) (bytes "+") e (λ z. omega arith)
        by mark.Minus e = long (a ∷ b ∷ []) (bytes "-") e (λ z. omega arith)
        by mark.ShiftLeft e = n (first e ∙ sym (second e))
        by mark.ShiftRight e = n (first e ∙ sym (second e))
        by mark.Less e = long (a ∷ b ∷ []) (bytes "<") e (λ z. omega arith)
        by mark.AtMost e = o (second e)
        by mark.More e = long (a ∷ b ∷ []) (bytes ">") e (λ z. omega arith)
        by mark.AtLeast e = o (second e)
        by mark.Same e = o (second e)
        by mark.Unlike e = o (second e)
        by mark.Ampersand e = long (a ∷ b ∷ []) (bytes "&") e (λ z. omega arith)
        by mark.Caret e = long (a ∷ b ∷ []) (bytes "^") e (λ z. omega arith)
        by mark.Bar e = long (a ∷ b ∷ []) (bytes "|") e (λ z. omega arith)

    pub twice_none : (a ≡ b) → (a ≡ 60 → ⊥) → (a ≡ 62 → ⊥) → None ≡ mark_of (a ∷ b ∷ [])
    twice_none q n1 n2 = mark_none (a ∷ b ∷ []) by
      where
        by : (m : Mark) → (a ∷ b ∷ []) ≡ mark_bytes m → ⊥
        by mark.OpenBrace e = long (a ∷ b ∷ []) (bytes "{") e (λ z. omega arith)
        by mark.CloseBrace e = long (a ∷ b ∷ []) (bytes "}") e (λ z. omega arith)
        by mark.OpenBracket e = long (a ∷ b ∷ []) (bytes "[") e (λ z. omega arith)
        by mark.CloseBracket e = long (a ∷ b ∷ []) (bytes "]") e (λ z. omega arith)
        by mark.Semicolon e = long (a ∷ b ∷ []) (bytes ";") e (λ z. omega arith)
        by mark.Colon e = long (a ∷ b ∷ []) (bytes ":") e (λ z. omega arith)
        by mark.Comma e = long (a ∷ b ∷ []) (bytes ",") e (λ z. omega arith)
        by mark.Equals e = long (a ∷ b ∷ []) (bytes "=") e (λ z. omega arith)
        by mark.At e = long (a ∷ b ∷ []) (bytes "@") e (λ z. omega arith)
        by mark.PlusEquals e = o (second e)
        by mark.PercentEquals e = o (second e)
        by mark.OpenParen e = long (a ∷ b ∷ []) (bytes "(") e (λ z. omega arith)
        by mark.CloseParen e = long (a ∷ b ∷ []) (bytes ")") e (λ z. omega arith)
        by mark.Times e = long (a ∷ b ∷ []) (bytes "*") e (λ z. omega arith)
        by mark.Slash e = long (a ∷ b ∷ []) (bytes "/") e (λ z. omega arith)
        by mark.Percent e = long (a ∷ b ∷ []) (bytes "%") e (λ z. omega arith)
        by mark.Plus e = long (a ∷ b ∷ []) (bytes "+") e (λ z. omega arith)
        by mark.Minus e = long (a ∷ b ∷ []) (bytes "-") e (λ z. omega arith)
        by mark.ShiftLeft e = n1 (first e)
        by mark.ShiftRight e = n2 (first e)
        by mark.Less e = long (a ∷ b ∷ []) (bytes "<") e (λ z. omega arith)
        by mark.AtMost e = o (second e)
        by mark.More e = long (a ∷ b ∷ []) (bytes ">") e (λ z. omega arith)
        by mark.AtLeast e = o (second e)
        by mark.Same e = o (second e)
        by mark.Unlike e = o (second e)
        by mark.Ampersand e = long (a ∷ b ∷ []) (bytes "&") e (λ z. omega arith)
        by mark.Caret e = long (a ∷ b ∷ []) (bytes "^") e (λ z. omega arith)
        by mark.Bar e = long (a ∷ b ∷ []) (bytes "|") e (λ z. omega arith)
