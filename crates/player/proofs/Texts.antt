-- Laws of what is written of a malformed line: each text is its parts, poured one after another.
use mathlib.Core.List.{List, [], ◌∷◌}
use Prim.Native.Nat.{ℕ}
use Rattle.chars.specs.Ascii.{bytes}
use Rattle.lines.specs.declared.Sink.{Sink}
use Rattle.lines.specs.Text.{decimal}
use Rattle.lines.specs.Sinks.{Pours}
use Rattle.lines.proofs.Pouring.{pours_then}
use Rattle.log_lines.specs.declared.Expected.{Expected}
use Rattle.log_lines.specs.Text.{expected_text}
use Rattle.player.specs.Play.{place_text, malformed_text}

module _ {room : ℕ} {a b c d e : List ℕ} {s r q u v : Sink} where
  pub place_pours : (number column : ℕ) → Pours room a b s (bytes "log line=") r → Pours room b c r (decimal number) q → Pours room c d q (bytes " column=") u → Pours room d e u (decimal column) v
      → Pours room a e s (place_text number column) v
  unfolding place_text
  place_pours number column p1 p2 p3 p4 = pours_then p1 (pours_then p2 (pours_then p3 p4))

  pub malformed_pours : (number column : ℕ) (due : Expected) → Pours room a b s (place_text number column) r → Pours room b c r (bytes ": expected ") q → Pours room c d q (expected_text due) u
      → Pours room d e u (10 ∷ []) v → Pours room a e s (malformed_text number column due) v
  unfolding malformed_text
  malformed_pours number column due p1 p2 p3 p4 = pours_then p1 (pours_then p2 (pours_then p3 p4))
