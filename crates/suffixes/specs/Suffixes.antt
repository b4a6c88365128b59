-- The suffixes of an instance (document 01, "Names, properties, fields" and the table of refusals): rules 9 and 11.
use Rattle.std.specs.Prelude.{Bool, true, false, ◌||◌, ◌&&◌, not, ℕ, leb, ltb, Option, Some, None, is_some}
use Rattle.std.specs.Prelude.{if◌then◌else◌}
use Rattle.expressions.specs.declared.Number.{Number}
use Rattle.parts.specs.declared.Kind.{Kind}
use Rattle.parts.specs.declared.Array.{Array}
use Rattle.parts.specs.declared.Array.TheVariants as array
use Rattle.parts.specs.declared.SuffixKind.{SuffixKind}
use Rattle.parts.specs.declared.SuffixKind.TheVariants.{Reset, Address, Stride, Alignment}
use Rattle.parts.specs.declared.Instance.{Instance}
use Rattle.property_values.specs.Settings.{is_field, is_alignment}
use Rattle.basics.specs.Limits.{array_limit, width_limit, highest_address}
use Rattle.basics.specs.Judged.{first_of, Verdict, Accepted, Refused}

-- 9 where a number is out of its range
unfoldable pub ranged : Bool → ℕ → Verdict
ranged true place = Accepted
ranged false place = Refused 9 place

-- "No operator or range over a refused part is judged": 9 at the operator that refuses it
unfoldable pub settled_fault : Option ℕ → Verdict → Verdict
settled_fault None rest = rest
settled_fault (Some place) rest = Refused 9 place

-- "array 1 to 1,024; field width 1 to 64"
unfoldable pub is_size : Bool → ℕ → Bool
is_size true n = leb 1 n && leb n width_limit
is_size false n = leb 1 n && leb n array_limit

-- "left not below right, left at most 63"
unfoldable pub is_range : ℕ → ℕ → Bool
is_range left right = leb right left && ltb left width_limit

abbrev pub size_fault : Bool → Number → Verdict
size_fault field n = settled_fault n.refusal (ranged (is_size field n.value) n.place)

abbrev pub range_fault : Number → Number → Verdict
range_fault left right = settled_fault left.refusal (settled_fault right.refusal (ranged (is_range left.value right.value) left.place))

-- `[n]` or `[left:right]`, of a field or not: a range is for fields alone (11 at its first mark); "a range's left" is where its 9 stands
abbrev pub array_fault : Bool → Array → Verdict
array_fault field array.Missing = Accepted
array_fault field (array.Size mark n) = size_fault field n
array_fault true (array.Range mark left right) = range_fault left right
array_fault false (array.Range mark left right) = Refused 11 mark

-- the range of each suffix's number
unfoldable pub suffix_range : SuffixKind → ℕ → Bool
suffix_range Reset n = true
suffix_range Address n = leb n highest_address
suffix_range Stride n = leb 1 n && leb n highest_address
suffix_range Alignment n = is_alignment n

abbrev pub number_fault : SuffixKind → Number → Verdict
number_fault s n = settled_fault n.refusal (ranged (suffix_range s n.value) n.place)

-- a suffix that may not stand here is 11 at its mark, before 9 at its number
abbrev pub suffix_fault : Bool → SuffixKind → Option (ℕ × Number) → Verdict
suffix_fault barred s None = Accepted
suffix_fault barred s (Some (mark, n)) = if barred then Refused 11 mark else number_fault s n

abbrev pub is_array : Array → Bool
is_array array.Missing = false
is_array (array.Size mark n) = true
is_array (array.Range mark left right) = true

abbrev pub is_given : Option (ℕ × Number) → Bool
is_given suffix = is_some suffix

-- `=` is for fields, `@`, `+=` and `%=` for registers and regfiles; "`+=` without array; `@` with `%=` (at the later)"
unfoldable pub is_barred : SuffixKind → Bool → Instance → Bool
is_barred Reset field i = not field
is_barred Address field i = field
is_barred Stride field i = field || not (is_array i.array)
is_barred Alignment field i = field || is_given i.address

-- the first fault of an instance's suffixes, for an instance of a component of this kind
unfoldable pub instance_fault : Kind → Instance → Verdict
instance_fault k i =
    first_of (array_fault (is_field k) i.array)
    (first_of (suffix_fault (is_barred Reset (is_field k) i) Reset i.reset)
    (first_of (suffix_fault (is_barred Address (is_field k) i) Address i.address)
    (first_of (suffix_fault (is_barred Stride (is_field k) i) Stride i.stride)
    (suffix_fault (is_barred Alignment (is_field k) i) Alignment i.alignment))))
