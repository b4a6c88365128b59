-- A register in the log: a head with its address, its type's row and its path's length, and a number for each step of its path.
use Rattle.std.specs.Prelude.{ℕ, ◌+◌, ◌*◌, ◌/◌, ◌%◌, ◌^◌}
use Rattle.basics.specs.Limits.{register_limit, definition_limit}

-- the numbers of a register, and those of a log that holds as many registers as a map may have
abbrev pub log_width : ℕ
log_width = 9

abbrev pub log_size : ℕ
log_size = register_limit * log_width

-- above every address, which the code cuts at 2^40, and above every path's length
abbrev pub address_bound : ℕ
address_bound = 2 ^ 41

abbrev pub depth_bound : ℕ
depth_bound = 16

-- above every place in a text, and above every index and one more
abbrev pub place_bound : ℕ
place_bound = 2 ^ 21

abbrev pub step_index_bound : ℕ
step_index_bound = 2 ^ 22

unfoldable pub head_of : ℕ → ℕ → ℕ → ℕ
head_of address row depth = address + address_bound * (row + definition_limit * depth)

unfoldable pub head_address : ℕ → ℕ
head_address x = x % address_bound

unfoldable pub head_row : ℕ → ℕ
head_row x = x / address_bound % definition_limit

unfoldable pub head_depth : ℕ → ℕ
head_depth x = x / (address_bound * definition_limit) % depth_bound

-- a step: its name's start and end, and its index and one more, or 0, each cut to its bits
unfoldable pub step_of : ℕ → ℕ → ℕ → ℕ
step_of start end index = start % place_bound + place_bound * (end % place_bound + place_bound * (index % step_index_bound))

unfoldable pub step_start : ℕ → ℕ
step_start x = x % place_bound

unfoldable pub step_end : ℕ → ℕ
step_end x = x / place_bound % place_bound

unfoldable pub step_index : ℕ → ℕ
step_index x = x / (place_bound * place_bound)
