-- The names of the instances that stand in cells.
use mathlib.Core.Bool.{Bool, true, false, ◌&&◌}
use mathlib.Core.Path.{◌≡◌, refl, sym, ap, ◌∙◌}
use mathlib.Core.List.{List, [], ◌∷◌}
use Prim.Native.Nat.{ℕ, ◌+◌, ◌-◌, ◌≤◌}
use native.Mathlib.Omega.{arith}
use lib.ListN.{length, length-take, length-drop}
use borrow.Author.Tests.{eq-eqb}
use Rattle.basics.specs.Slices.{cell_of}
use Rattle.chars.specs.Same.{same_bytes}
use Rattle.chars.proofs.Laws.{differ, same_equal}
use Rattle.parts.specs.Parts.{name_at}
use Rattle.parts.specs.declared.Name.{Name}
use Rattle.identifiers.specs.Names.{bytes_of, same_name, is_among}
use Rattle.cells.specs.Cells.{place_in}
use Rattle.cells.specs.Definitions.{Child, names_of}
use Rattle.cells.specs.Relation.{IsEntry, Block, block_end, block_on}
use Rattle.name_tree.specs.Tree.{is_spelt, is_entry_named}
use Rattle.name_tree.proofs.Found.{some_named}
use Rattle.parts.proofs.InstanceName.{instance_named, begins_inside}

pub same_own : (s : List ℕ) → same_bytes s s ≡ true
unfolding same_bytes
same_own [] = refl
same_own (b ∷ s) = rw (eq-eqb b b refl, same_own s)

-- the bytes of a name are as many as its places
bytes-length : (text : List ℕ) (start end : ℕ) → end ≤ length text → length (bytes_of text start end) ≡ end - start
unfolding bytes_of
bytes-length text start end h = rw (length-take, length-drop) (omega arith)

pub bytes_short : (text : List ℕ) (start end : ℕ) → length (bytes_of text start end) ≤ length text
unfolding bytes_of
bytes_short text start end = rw (length-take, length-drop) (omega arith)

-- a cell's instance has a name exactly when the name is its own
pub entry_named : (text : List ℕ) (x : ℕ) (name : List ℕ) {c : Child} → IsEntry text x c
    → is_entry_named text x name ≡ same_bytes name (bytes_of text c.instance.name.start c.instance.name.end)
unfolding is_entry_named
entry_named text x name {c} k = by (same_bytes name (bytes_of text (place_in x) (place_in x + length name))) refl
  where
    own : List ℕ
    own = bytes_of text c.instance.name.start c.instance.name.end

    -- equal names stand at the same place and are equally long
    apart : same_bytes name (bytes_of text (place_in x) (place_in x + length name)) ≡ false → (r : Bool) → same_bytes name own ≡ r → false ≡ r
    apart q true e =
        let s : name ≡ own = same_equal name own e in
        let b = begins_inside text (place_in x) (instance_named text (place_in x) k.reads) in
        let n : length name ≡ c.instance.name.end - c.instance.name.start = ap length s ∙ bytes-length text c.instance.name.start c.instance.name.end b.1 in
        let z : place_in x + length name ≡ c.instance.name.end = omega (arith, n, k.starts, b.0) in
        let w : bytes_of text (place_in x) (place_in x + length name) ≡ own = rw (z, k.starts) in
        differ (sym e ∙ (rw w at q))
    apart q false e = refl

    by : (b : Bool) → same_bytes name (bytes_of text (place_in x) (place_in x + length name)) ≡ b → (b && is_spelt text name (name_at text (place_in x))) ≡ same_bytes name own
    by true q = rw (instance_named text (place_in x) k.reads).reads
    by false q = apart q (same_bytes name own) refl

-- the names of the instances that stand in cells
pub block_named : (text t : List ℕ) (name : Name) {i : ℕ} {cs : List Child} → Block text t i cs
    → some_named text t i (length cs) (bytes_of text name.start name.end) ≡ is_among text name (names_of cs)
unfolding some_named is_among same_name
block_named text t name block_end = refl
block_named text t name (block_on {i = i} k b) = rw (entry_named text (cell_of t i) (bytes_of text name.start name.end) k, block_named text t name b)
