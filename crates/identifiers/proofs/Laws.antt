-- Laws of names, in the form that the proofs use.
use mathlib.Core.Path.{◌≡◌}
use mathlib.Core.List.{List}
use Prim.Native.Nat.{ℕ, ◌+◌, ◌-◌, ◌*◌, ◌%◌, ◌<◌, ◌≤◌}
use Rattle.std.specs.Prelude.{min, max}
use Rattle.std.proofs.lemmas.List.{drop_min, take_min}
use native.Mathlib.Omega.{arith}
use lib.ListN.{length, drop, get_or, take, drop_of_length-le, length-drop}
use Rattle.chars.proofs.Laws.{drop_next}
use Rattle.identifiers.specs.Names.{bytes_of, print_bound, print_from}

-- the bytes from a place up to another, where both are held to the text
pub bytes_cut : (t : List ℕ) (start end : ℕ) {from to : ℕ} → from ≡ min start (length t) → to ≡ max from (min end (length t))
    → take (to - from) (drop from t) ≡ bytes_of t start end
unfolding bytes_of
bytes_cut t start end {from} {to} e f =
    let n : to - from ≡ min (end - start) (length (drop start t)) = omega (arith, length-drop start t) in
    let d : drop from t ≡ drop start t = rw e (drop_min start t) in
    rw (n, d) (take_min (end - start) (drop start t))

-- the print of the bytes from the index i on, with the print so far, comes to x
module _ (s : List ℕ) (i h : ℕ) {x : ℕ} (at : print_from h (drop i s) ≡ x) where
  pub print_end : length s ≤ i → h ≡ x
  unfolding print_from
  print_end f = rw (drop_of_length-le s f) at at

  pub print_next : {r : ℕ} → i < length s → r ≡ (h * 16777619 + get_or s i 0) % print_bound → print_from r (drop (i + 1) s) ≡ x
  unfolding print_from
  print_next f e = rw e (rw (drop_next s i f) at at)
