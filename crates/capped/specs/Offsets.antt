-- Sizes and offsets are whole numbers (document 01, "Addresses": "no wrap may show"). The code keeps each cut at a cap above every
-- address; that is enough, since each operation on cut numbers, cut again, is the operation on the true ones, cut.
use Rattle.std.specs.Prelude.{ℕ, zero, suc, max, ◌+◌, ◌-◌, ◌*◌, ◌/◌, ◌%◌, ◌^◌, eqb, leb, ltb}
use Rattle.std.specs.Prelude.{if◌then◌else◌}

abbrev pub cap : ℕ
cap = 2 ^ 40

-- a number up to the cap times one up to this fits 64 bits
abbrev pub factor_bound : ℕ
factor_bound = 65536

unfoldable pub cut : ℕ → ℕ
cut x = if ltb x cap then x else cap

-- the larger of two numbers
abbrev pub larger : ℕ → ℕ → ℕ
larger a b = max a b

-- "the smallest offset not below .. that is a multiple of its step", for a step of 1 at least
unfoldable pub raised : ℕ → ℕ → ℕ
raised x step = (x + (step - 1)) / step * step

-- the first of the numbers m, m + b, m + 2 b, .. that is a multiple of a
unfoldable pub multiple_from : ℕ → ℕ → ℕ → ℕ → ℕ
multiple_from zero a b m = m
multiple_from (suc turns) a b m = if eqb (m % a) 0 then m else multiple_from turns a b (m + b)

-- "the least common multiple": the first multiple of b that is one of a, and a times b is one
unfoldable pub common_multiple : ℕ → ℕ → ℕ
common_multiple a b = multiple_from a a b b

-- "rounded up to a power of two": the first of p, 2 p, 4 p, .. that is not below x
unfoldable pub power_from : ℕ → ℕ → ℕ → ℕ
power_from zero p x = p
power_from (suc turns) p x = if leb x p then p else power_from turns (p * 2) x

unfoldable pub power_above : ℕ → ℕ
power_above x = power_from x 1 x
