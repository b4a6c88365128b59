-- A line is its key, its value and LF, poured one after another; the bits of a field are two numbers with a colon between them.
use mathlib.Core.Path.{◌≡◌, ◌∙◌}
use mathlib.Core.List.{List, [], ◌∷◌, ◌++◌}
use Prim.Native.Nat.{ℕ}
use Rattle.chars.specs.Ascii.{bytes}
use Rattle.fields.specs.declared.FieldAt.{FieldAt}
use Rattle.lines.specs.declared.Sink.{Sink}
use Rattle.lines.specs.Text.{decimal, line, bits_text}
use Rattle.lines.specs.Sinks.{poured, filled, Pours}
use Rattle.lines.proofs.Pouring.{poured-append, filled-append, pours_then}

module _ {room : ℕ} {a b c d : List ℕ} {s r q u : Sink} where
  pub line_pours : (key value : List ℕ) → Pours room a b s key r → Pours room b c r value q → Pours room c d q (10 ∷ []) u
      → Pours room a d s (line key value) u
  unfolding line
  line_pours key value p w v = pours_then p (pours_then w v)

module _ (room : ℕ) (s : Sink) where
  module _ (key value : List ℕ) where
    pub line_sink : poured room s (line key value) ≡ poured room (poured room (poured room s key) value) (10 ∷ [])
    unfolding line
    line_sink = poured-append room s key (value ++ (10 ∷ [])) ∙ poured-append room (poured room s key) value (10 ∷ [])

    pub line_out : (out : List ℕ) → filled room s out (line key value) ≡ filled room (poured room (poured room s key) value) (filled room (poured room s key) (filled room s out key) value) (10 ∷ [])
    unfolding line
    line_out out = filled-append room s out key (value ++ (10 ∷ [])) ∙ filled-append room (poured room s key) (filled room s out key) value (10 ∷ [])

  module _ (f : FieldAt) where
    pub bits_sink : poured room s (bits_text f) ≡ poured room (poured room (poured room s (decimal f.high.0)) (bytes ":")) (decimal f.low.0)
    unfolding bits_text
    bits_sink = poured-append room s (decimal f.high.0) (bytes ":" ++ decimal f.low.0) ∙ poured-append room (poured room s (decimal f.high.0)) (bytes ":") (decimal f.low.0)

    pub bits_out : (out : List ℕ) → filled room s out (bits_text f) ≡ filled room (poured room (poured room s (decimal f.high.0)) (bytes ":")) (filled room (poured room s (decimal f.high.0)) (filled room s out (decimal f.high.0)) (bytes ":")) (decimal f.low.0)
    unfolding bits_text
    bits_out out = filled-append room s out (decimal f.high.0) (bytes ":" ++ decimal f.low.0) ∙ filled-append room (poured room s (decimal f.high.0)) (filled room s out (decimal f.high.0)) (bytes ":") (decimal f.low.0)

pub ruleset parts = (line_sink, line_out, bits_sink, bits_out)
