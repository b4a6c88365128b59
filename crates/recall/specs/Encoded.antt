-- An instance in 32 cells: 0 and 1 its name's start and end; from 2 and 7 on its array, kept as two suffixes; from 12, 17, 22 and 27 on its
-- reset, address, stride and alignment. A suffix takes five cells.
use Rattle.std.specs.Prelude.{List, [], ◌∷◌, ℕ, ◌+◌, eqb, Option, Some, None}
use Rattle.std.specs.Prelude.{if◌then◌else◌}
use Rattle.basics.specs.Slices.{cell_of}
use Rattle.parts.specs.declared.Array.{Array}
use Rattle.parts.specs.declared.Array.TheVariants as array
use Rattle.parts.specs.declared.Instance.{Instance}
use Rattle.recall.specs.declared.Encoded.{Encoded}
use Rattle.expressions.specs.declared.Number.{Number}

-- a sound number or a refused one, and the operator that refuses it
abbrev pub tag_of : Option ℕ → ℕ
tag_of None = 1
tag_of (Some p) = 2

abbrev pub operator_of : Option ℕ → ℕ
operator_of None = 0
operator_of (Some p) = p

abbrev pub refusal_from : ℕ → ℕ → Option ℕ
refusal_from tag p = if eqb tag 1 then None else Some p

-- a suffix, and what its five numbers say
abbrev pub encoded_of : Option (ℕ × Number) → Encoded
encoded_of None = record { tag = 0; place = 0; start = 0; value = 0; operator = 0 }
encoded_of (Some (p, n)) =
    record { tag = tag_of n.refusal; place = p; start = n.place; value = n.value; operator = operator_of n.refusal }

unfoldable pub suffix_from : Encoded → Option (ℕ × Number)
suffix_from e =
    if eqb e.tag 0 then None else
    Some (e.place, (record { value = e.value; place = e.start; refusal = refusal_from e.tag e.operator }))

-- an array as two suffixes: the second is there for a range only
abbrev pub left_of : Array → Option (ℕ × Number)
left_of array.Missing = None
left_of (array.Size p n) = Some (p, n)
left_of (array.Range p left right) = Some (p, left)

abbrev pub right_of : Array → Option (ℕ × Number)
right_of array.Missing = None
right_of (array.Size p n) = None
right_of (array.Range p left right) = Some (p, right)

abbrev pub array_from : Option (ℕ × Number) → Option (ℕ × Number) → Array
array_from None s = array.Missing
array_from (Some (p, n)) None = array.Size p n
array_from (Some (p, left)) (Some (q, right)) = array.Range p left right

-- the cells of an instance
abbrev pub encoded_cells : Encoded → List ℕ → List ℕ
encoded_cells e rest = e.tag ∷ e.place ∷ e.start ∷ e.value ∷ e.operator ∷ rest

abbrev pub suffix_cells : Option (ℕ × Number) → List ℕ → List ℕ
suffix_cells s rest = encoded_cells (encoded_of s) rest

unfoldable pub instance_cells : Instance → List ℕ
instance_cells i =
    i.name.start ∷ i.name.end ∷ suffix_cells (left_of i.array) (suffix_cells (right_of i.array)
    (suffix_cells i.reset (suffix_cells i.address (suffix_cells i.stride (suffix_cells i.alignment [])))))

-- the suffix and the instance in the cells from an index on
unfoldable pub encoded_in : List ℕ → ℕ → Encoded
encoded_in s i =
    record { tag = cell_of s i; place = cell_of s (i + 1); start = cell_of s (i + 2); value = cell_of s (i + 3); operator = cell_of s (i + 4) }

abbrev pub suffix_in : List ℕ → ℕ → Option (ℕ × Number)
suffix_in s i = suffix_from (encoded_in s i)

unfoldable pub instance_in : List ℕ → ℕ → Instance
instance_in s i =
    record {
      name = record { start = cell_of s i; end = cell_of s (i + 1) };
      array = array_from (suffix_in s (i + 2)) (suffix_in s (i + 7));
      reset = suffix_in s (i + 12);
      address = suffix_in s (i + 17);
      stride = suffix_in s (i + 22);
      alignment = suffix_in s (i + 27);
    }
