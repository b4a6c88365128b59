-- Document 02, item 3: "choose by length and first byte before comparing". Which keywords such a choice leaves. What a word is, `keyword_of`
-- says, and no answer shows how it was found; how many comparisons are made, nothing here says.
use Rattle.std.specs.Prelude.{List, [], ◌∷◌, ◌++◌, map, ℕ, eqb, length, get_or}
use Rattle.std.specs.Prelude.{if◌then◌else◌}
use Rattle.vocabulary.specs.declared.Keyword.{Keyword}
use Rattle.vocabulary.specs.declared.Lookup.{Lookup}
use Rattle.vocabulary.specs.declared.Lookup.TheVariants.{Kept, LeftOut, NotKeyword}
use Rattle.vocabulary.specs.Vocabulary.{entry, spelling, kept_keywords, left_out_keywords}

-- the bytes of a keyword, and what a word with these bytes is
pub record KeywordEntry : Type 0 where
  pub word : List ℕ
  pub means : Lookup

abbrev pub kept_entry : Keyword → KeywordEntry
kept_entry k = record { word = spelling k; means = Kept k }

abbrev pub left_out_entry : List ℕ → KeywordEntry
left_out_entry w = record { word = w; means = LeftOut }

-- all keywords: the kept, then those left out
abbrev pub keywords : List KeywordEntry
keywords = map kept_entry kept_keywords ++ map left_out_entry left_out_keywords

-- what a word is among some keywords
abbrev pub keyword_among : List KeywordEntry → List ℕ → Lookup
keyword_among ks w = entry (λ k. k.word) (λ k. k.means) NotKeyword ks w

-- the keywords of a list whose word has the key `n`: its length, or its first byte
unfoldable pub having : (List ℕ → ℕ) → ℕ → List KeywordEntry → List KeywordEntry
having key n [] = []
having key n (k ∷ ks) = if eqb (key k.word) n then k ∷ having key n ks else having key n ks

-- the first byte of a word; 0, with which no keyword begins, where there is none
abbrev pub first_byte : List ℕ → ℕ
first_byte w = get_or w 0 0

-- "the keywords of that length and first byte"
unfoldable pub candidates : ℕ → ℕ → List KeywordEntry
candidates n b = having first_byte b (having length n keywords)

-- all lengths that keywords have
abbrev pub keyword_lengths : List ℕ
keyword_lengths = 1 ∷ 2 ∷ 3 ∷ 4 ∷ 5 ∷ 6 ∷ 7 ∷ 8 ∷ 9 ∷ 10 ∷ 11 ∷ 14 ∷ []
