-- Bytes poured into an output, one after another, as far as there is room.
use Rattle.std.specs.Prelude.{◌≡◌, Bool, true, false, ◌||◌, List, [], ◌∷◌, ℕ, suc, leb, set}
use Rattle.std.specs.Prelude.{if◌then◌else◌}
use Rattle.lines.specs.declared.Sink.{Sink}

abbrev pub is_full : ℕ → Sink → Bool
is_full room s = s.full || leb room s.at

-- behind one more byte: one further, or full
unfoldable pub behind : ℕ → Sink → Sink
behind room s = if is_full room s then record { at = s.at; full = true } else record { at = suc s.at; full = false }

unfoldable pub poured : ℕ → Sink → List ℕ → Sink
poured room s [] = s
poured room s (b ∷ bs) = poured room (behind room s) bs

-- the output with one more byte: past its end nothing changes
unfoldable pub with_byte : ℕ → Sink → List ℕ → ℕ → List ℕ
with_byte room s out b = if is_full room s then out else set out s.at b

unfoldable pub filled : ℕ → Sink → List ℕ → List ℕ → List ℕ
filled room s out [] = out
filled room s out (b ∷ bs) = filled room (behind room s) (with_byte room s out b) bs

-- what a function that pours these bytes does
pub record Pours (room : ℕ) (before after : List ℕ) (s : Sink) (bs : List ℕ) (r : Sink) : Type 0 where
  pub sink : r ≡ poured room s bs
  pub out : after ≡ filled room s before bs
