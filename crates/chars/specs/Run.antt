-- Runs of bytes of one class.
use Rattle.std.specs.Prelude.{Bool, true, ◌&&◌, List, [], ◌∷◌, ℕ, ◌+◌, length, drop}
use Rattle.std.specs.Prelude.{if◌then◌else◌}

-- the longest start of `s` whose bytes are all in the class `P`
unfoldable pub run : (ℕ → Bool) → List ℕ → List ℕ
run P [] = []
run P (b ∷ s) = if P b then b ∷ run P s else []

-- the place past the run that starts at the place `i` of a text
unfoldable pub run_end : (ℕ → Bool) → List ℕ → ℕ → ℕ
run_end P text i = i + length (run P (drop i text))

-- whether all bytes are in the class `P`
unfoldable pub every : (ℕ → Bool) → List ℕ → Bool
every P [] = true
every P (b ∷ s) = P b && every P s
