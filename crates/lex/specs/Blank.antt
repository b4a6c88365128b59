-- Blanks (document 01, "Words"): space, tab, CR, LF and both comment kinds.
use Rattle.std.specs.Prelude.{List, [], ◌∷◌, ℕ, ◌+◌, eqb, drop, Result, Ok, Err}
use Prim.Native.Char.{code}
use Rattle.std.specs.Prelude.{if◌then◌else◌}
use Rattle.chars.specs.Ascii.{is_blank, is_line_end}

-- Past the blanks that `s`, the text from the place `p` on, starts with: the place of the next token or of the text's end,
-- or the place of a block comment that is not closed. (What a `let` binds is computed only where it is used.)
unfoldable mutual
  pub blanks : ℕ → List ℕ → Result ℕ ℕ
  blanks p [] = Ok p
  blanks p (b ∷ []) = if is_blank b then Ok (p + 1) else Ok p
  blanks p (b ∷ c ∷ s) =
      let after = blanks (p + 1) (c ∷ s) in
      let line = in_line (p + 2) s in
      let block = in_block p (p + 2) s in
      if is_blank b then after else
      if eqb b (code "/") then (if eqb c (code "/") then line else if eqb c (code "*") then block else Ok p) else
      Ok p

  -- in a line comment: "a line comment ends there", at the end of text, or behind LF or CR
  pub in_line : ℕ → List ℕ → Result ℕ ℕ
  in_line p [] = Ok p
  in_line p (b ∷ s) =
      let after = blanks (p + 1) s in
      let more = in_line (p + 1) s in
      if is_line_end b then after else more

  -- in a block comment that starts at `o`: "block comments don't nest"
  pub in_block : ℕ → ℕ → List ℕ → Result ℕ ℕ
  in_block o p [] = Err o
  in_block o p (b ∷ []) = Err o
  in_block o p (b ∷ c ∷ s) =
      let after = blanks (p + 2) s in
      let more = in_block o (p + 1) (c ∷ s) in
      if eqb b (code "*") then (if eqb c (code "/") then after else more) else more

-- the same from a place of the whole text
unfoldable pub next_from : List ℕ → ℕ → Result ℕ ℕ
next_from text i = blanks i (drop i text)

unfoldable pub line_from : List ℕ → ℕ → Result ℕ ℕ
line_from text i = in_line i (drop i text)

unfoldable pub block_from : List ℕ → ℕ → ℕ → Result ℕ ℕ
block_from text o i = in_block o i (drop i text)
