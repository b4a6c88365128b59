-- A number that may be given.
use Rattle.std.specs.Prelude.{Bool, ℕ, eqb, Option, Some, None, is_some, unwrap_or}
use Rattle.std.specs.Prelude.{if◌then◌else◌}

abbrev pub is_given : Option ℕ → Bool
is_given given = is_some given

-- the number, or the standard's
abbrev pub or_else : ℕ → Option ℕ → ℕ
or_else standard given = unwrap_or given standard

-- a number that may be given, in two cells
abbrev pub given_from : ℕ → ℕ → Option ℕ
given_from flag n = if eqb flag 0 then None else Some n

abbrev pub flag_of : Option ℕ → ℕ
flag_of None = 0
flag_of (Some n) = 1

abbrev pub number_of : Option ℕ → ℕ
number_of None = 0
number_of (Some n) = n
