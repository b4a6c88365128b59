-- The limits of documents 01 and 02 and the widths of rows, each once. The code has a constant for each: `TEXT_LIMIT` is `text_limit`.
use Rattle.std.specs.Prelude.{ℕ, ◌^◌}

-- "text above 65,536 bytes" is refused
abbrev pub text_limit : ℕ
text_limit = 65536

-- "at most 31 bytes", a name
abbrev pub name_limit : ℕ
name_limit = 31

-- "at most 4,096 bytes inside", a string
abbrev pub string_limit : ℕ
string_limit = 4096

-- "Nested parentheses go to 16 deep"
abbrev pub parenthesis_limit : ℕ
parenthesis_limit = 16

-- "above 8 open bodies" is refused
abbrev pub body_limit : ℕ
body_limit = 8

-- above "256 definitions" is refused
abbrev pub definition_limit : ℕ
definition_limit = 256

-- "array 1 to 1,024"
abbrev pub array_limit : ℕ
array_limit = 1024

-- "`%=` a power of two, 1 to 65,536", and so `alignment`
abbrev pub alignment_limit : ℕ
alignment_limit = 65536

-- "field width 1 to 64", "left at most 63"
abbrev pub width_limit : ℕ
width_limit = 64

-- "`@` at most 2^32-1; `+=` 1 to 2^32-1"
abbrev pub highest_address : ℕ
highest_address = 4294967295

-- "last byte above 2^32-1": a register ends at or below this
abbrev pub address_end : ℕ
address_end = 2 ^ 32

-- "8 nested instances below the map (not fields), 1,024 registers, 4,096 fields"
abbrev pub nest_limit : ℕ
nest_limit = 8

abbrev pub register_limit : ℕ
register_limit = 1024

abbrev pub field_limit : ℕ
field_limit = 4096

-- the numbers of a register's row and of a field's row
abbrev pub register_row_width : ℕ
register_row_width = 14

abbrev pub field_row_width : ℕ
field_row_width = 8

-- the bytes of a name in a row, and of a path's row: the map's name and those of its steps
abbrev pub name_width : ℕ
name_width = 32

abbrev pub path_row_width : ℕ
path_row_width = 288

-- above every index in a table or an output (288 times as many registers as there may be): sums of such indices fit 64 bits
abbrev pub index_bound : ℕ
index_bound = 1048576

-- above every place, bit place and count that is added to another, so that their sums fit 64 bits too
abbrev pub sum_bound : ℕ
sum_bound = 4294967296
