-- The shelves behind the shapes: 1,024 of 33 cells, each with the place of an instance and one more, or 0, and then this instance. Which
-- instances are kept, specs/Kept says; it is a matter of speed, and nothing else stands on it.
use Rattle.std.specs.Prelude.{◌≡◌, List, ℕ, ◌+◌, ◌*◌, ◌<◌}
use Rattle.basics.specs.Slices.{cell_of}
use Rattle.parts.specs.Reading.{ok}
use Rattle.parts.specs.Parts.{instance_at}
use Rattle.parts.specs.declared.Instance.{Instance}
use Rattle.sizes.specs.Shapes.{shapes_size}
use Rattle.recall.specs.Encoded.{instance_in}

abbrev pub shelf_count : ℕ
shelf_count = 1024

abbrev pub shelf_width : ℕ
shelf_width = 33

-- the cells of the shapes and of the shelves
abbrev pub recall_size : ℕ
recall_size = shapes_size + shelf_count * shelf_width

-- the first cell of a shelf
abbrev pub shelf_at : ℕ → ℕ
shelf_at k = shapes_size + k * shelf_width

-- the text gives this instance at a place
pub record GivenAt (text : List ℕ) (place : ℕ) (i : Instance) : Type 0 where
  pub next : ℕ
  pub reads : instance_at text place ≡ ok i next

-- a shelf is empty, or holds what the text gives at its place
pub record Shelved (text s : List ℕ) : Type 0 where
  pub each : (k place : ℕ) → k < shelf_count → cell_of s (shelf_at k) ≡ place + 1 → GivenAt text place (instance_in s (shelf_at k + 1))
