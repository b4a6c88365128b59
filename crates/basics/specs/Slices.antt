-- The numbers of a lent slice: one read, some written.
use Rattle.std.specs.Prelude.{List, [], ◌∷◌, ℕ, ◌+◌, get_or, set}

-- the number at an index; 0 past the end
abbrev pub cell_of : List ℕ → ℕ → ℕ
cell_of t i = get_or t i 0

-- numbers from an index on, written; past the end nothing changes
unfoldable pub written : List ℕ → ℕ → List ℕ → List ℕ
written t i [] = t
written t i (x ∷ xs) = written (set t i x) (i + 1) xs
