-- Laws of the loop over a text: what is left to pour at each place that it passes.
use mathlib.Core.List.{List, [], ◌∷◌}
use Prim.Native.Nat.{ℕ, ◌+◌, ◌<◌, ◌≤◌}
use lib.ListN.{length, drop, get_or, drop_of_length-le}
use Rattle.chars.proofs.Laws.{drop_next}
use Rattle.lines.specs.declared.Sink.{Sink}
use Rattle.lines.specs.Sinks.{Pours}
use Rattle.lines.proofs.Pouring.{Pouring, pouring_on, pouring_end}

module _ {room : ℕ} {before : List ℕ} {start : Sink} where
  module _ (text : List ℕ) (i : ℕ) {x out : List ℕ} {s : Sink} (p : Pouring room before out start x s (drop i text)) where
    pub bytes_end : length text ≤ i → Pours room before out start x s
    bytes_end h = pouring_end (rw (drop_of_length-le text h) at p)

    pub bytes_on : {o : List ℕ} {r : Sink} → i < length text → Pours room out o s (get_or text i 0 ∷ []) r → Pouring room before o start x r (drop (i + 1) text)
    bytes_on h w = pouring_on (get_or text i 0 ∷ []) (drop (i + 1) text) (rw (drop_next text i h) at p) w
