-- The end of a string (document 01, "Words"): "to the next quote not behind a backslash".
use Rattle.std.specs.Prelude.{Bool, ◌&&◌, not, List, [], ◌∷◌, ℕ, ◌+◌, eqb, drop, Result, Ok, Err}
use Rattle.std.specs.Prelude.{if◌then◌else◌}

-- a quote, 34, whose byte before is no backslash, 92
unfoldable pub closes : ℕ → ℕ → Bool
closes before b = eqb b 34 && not (eqb before 92)

-- The place of the quote that closes the string opened at `o`; `s` is the text from the place `p` on, and `before` the byte before it.
unfoldable pub closing : ℕ → ℕ → ℕ → List ℕ → Result ℕ ℕ
closing o before p [] = Err o
closing o before p (b ∷ s) = if closes before b then Ok p else closing o b (p + 1) s

-- the same from a place of the whole text
unfoldable pub closing_from : ℕ → ℕ → List ℕ → ℕ → Result ℕ ℕ
closing_from o before text i = closing o before i (drop i text)
