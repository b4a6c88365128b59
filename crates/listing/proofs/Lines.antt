-- A map is its name's line and the lines of its registers.
use mathlib.Core.List.{List}
use Prim.Native.Nat.{ℕ}
use Rattle.chars.specs.Ascii.{bytes}
use Rattle.lines.specs.declared.Sink.{Sink}
use Rattle.lines.specs.Text.{line}
use Rattle.lines.specs.Sinks.{Pours}
use Rattle.lines.proofs.Pouring.{pours_then}
use Rattle.rows.specs.Rows.{Map}
use Rattle.listing.specs.Listing.{entries_lines, listing_of}

pub map_pours : {room : ℕ} {a b c : List ℕ} {s r q : Sink} (m : Map) → Pours room a b s (line (bytes "map=") m.name) r → Pours room b c r (entries_lines m.name m.entries) q → Pours room a c s (listing_of m) q
unfolding listing_of
map_pours m p w = pours_then p w
