-- Names of a text, compared by their bytes.
use Rattle.std.specs.Prelude.{Bool, false, ◌||◌, List, [], ◌∷◌, ℕ, ◌+◌, ◌-◌, ◌*◌, ◌%◌, ◌^◌, take, drop}
use Rattle.chars.specs.Same.{same_bytes}
use Rattle.parts.specs.declared.Name.{Name}

-- the bytes from a place up to another, as far as the text has them
unfoldable pub bytes_of : List ℕ → ℕ → ℕ → List ℕ
bytes_of text start end = take (end - start) (drop start text)

unfoldable pub same_name : List ℕ → Name → Name → Bool
same_name text a b = same_bytes (bytes_of text a.start a.end) (bytes_of text b.start b.end)

-- whether a name stands among the names
unfoldable pub is_among : List ℕ → Name → List Name → Bool
is_among text n [] = false
is_among text n (m ∷ ms) = same_name text n m || is_among text n ms

-- above every fingerprint
abbrev pub print_bound : ℕ
print_bound = 2 ^ 32

-- a number of 32 bits that equal byte strings share
unfoldable pub print_from : ℕ → List ℕ → ℕ
print_from h [] = h
print_from h (b ∷ s) = print_from ((h * 16777619 + b) % print_bound) s
