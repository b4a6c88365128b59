-- The types of a body: those that its rows decode to are those that the walk knows.
use mathlib.Core.Path.{◌≡◌, ap}
use mathlib.Core.List.{List}
use Prim.Native.Nat.{ℕ}
use native.Mathlib.Omega.{arith}
use Rattle.parts.specs.declared.Name.{Name}
use Rattle.cells.specs.Definitions.{VisibleType, lookup}
use Rattle.cells.specs.Decoded.{types_in}
use Rattle.cells.specs.Relation.{Chain}
use Rattle.cells.proofs.Laws.{chain_types}

pub meant : (text : List ℕ) {t : List ℕ} {base head : ℕ} {here : List VisibleType} (n : Name) → Chain t base head here → lookup text n (types_in t base head) ≡ lookup text n here
meant text {head = head} n c = ap (lookup text n) (chain_types head (omega arith) c)
