-- The operators of constant expressions (document 02, item 1): how tightly each binds, and what each gives over whole numbers.
use Rattle.std.specs.Prelude.{Bool, true, false, not, ℕ, ◌+◌, ◌-◌, ◌*◌, ◌/◌, ◌%◌, ◌^◌, leb, ltb, eqb, Option, Some, None}
use Rattle.std.specs.Int.Bits.{bit_and, bit_or, bit_xor}
use Rattle.operators.specs.declared.Operator.{Operator}
use Rattle.operators.specs.declared.Operator.TheVariants as operator

-- "Verilog's precedence": the rows from the tightest on, `* / %`; `+ -`; `<< >>`; `< <= > >=`; `== !=`; `&`; `^`; `|`
abbrev pub row_of : Operator → ℕ
row_of operator.Times = 1
row_of operator.Over = 1
row_of operator.Modulo = 1
row_of operator.Plus = 2
row_of operator.Minus = 2
row_of operator.ShiftLeft = 3
row_of operator.ShiftRight = 3
row_of operator.Less = 4
row_of operator.AtMost = 4
row_of operator.More = 4
row_of operator.AtLeast = 4
row_of operator.Same = 5
row_of operator.Unlike = 5
row_of operator.And = 6
row_of operator.Xor = 7
row_of operator.Or = 8

-- how many rows there are
abbrev pub row_count : ℕ
row_count = 8

-- what is given where a test holds; else there is no result
abbrev pub only_if : Bool → Option ℕ → Option ℕ
only_if true x = x
only_if false x = None

-- "whole numbers of 0 to 2^64-1"
abbrev pub within : ℕ → Option ℕ
within n = only_if (ltb n (2 ^ 64)) (Some n)

-- "a shift of 64 or more"
abbrev pub shift_limit : ℕ
shift_limit = 64

-- "Comparisons give 1 or 0"
abbrev pub truth : Bool → Option ℕ
truth true = Some 1
truth false = Some 0

-- "a result outside that range, a shift of 64 or more, or a zero divisor" is refused
unfoldable pub result_of : Operator → ℕ → ℕ → Option ℕ
result_of operator.Times a b = within (a * b)
result_of operator.Over a b = only_if (not (eqb b 0)) (Some (a / b))
result_of operator.Modulo a b = only_if (not (eqb b 0)) (Some (a % b))
result_of operator.Plus a b = within (a + b)
result_of operator.Minus a b = only_if (leb b a) (Some (a - b))
result_of operator.ShiftLeft a b = only_if (ltb b shift_limit) (within (a * 2 ^ b))
result_of operator.ShiftRight a b = only_if (ltb b shift_limit) (Some (a / 2 ^ b))
result_of operator.Less a b = truth (ltb a b)
result_of operator.AtMost a b = truth (leb a b)
result_of operator.More a b = truth (ltb b a)
result_of operator.AtLeast a b = truth (leb b a)
result_of operator.Same a b = truth (eqb a b)
result_of operator.Unlike a b = truth (not (eqb a b))
result_of operator.And a b = Some (bit_and a b)
result_of operator.Xor a b = Some (bit_xor a b)
result_of operator.Or a b = Some (bit_or a b)
