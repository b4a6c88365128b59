-- What a failed read leaves of what was read before it, and a failed write of what was written.
use Rattle.std.specs.Prelude.{ℕ, ◌≤◌, List, length, take}
use Rattle.std.specs.Io.KnownBytes.{Appends, Consumes}
use Rattle.std.specs.declared.option.Option.{Option}

-- the known bytes have lost some that stand at the start of the room
abbrev pub KeepsRead : Option (List ℕ) → Option (List ℕ) → List ℕ → Type 0
KeepsRead old new room = (n : ℕ) × (n ≤ length room) × Consumes old new (take n room)

-- the known bytes have lost some at their front
abbrev pub LosesFront : Option (List ℕ) → Option (List ℕ) → Type 0
LosesFront old new = (bs : List ℕ) × Consumes old new bs

-- the known bytes have grown by some start of these
abbrev pub AppendsPart : Option (List ℕ) → Option (List ℕ) → List ℕ → Type 0
AppendsPart old new bytes = (n : ℕ) × Appends old new (take n bytes)
