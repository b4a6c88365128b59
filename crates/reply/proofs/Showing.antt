-- Laws of what is shown: bytes poured into a whole output stand at its start, as far as it goes.
use mathlib.Core.Bool.{Bool, true, false, not}
use mathlib.Core.Path.{◌≡◌, refl, sym, ap, ◌∙◌}
use mathlib.Core.List.{List, [], ◌∷◌, ◌++◌}
use Prim.Native.Nat.{ℕ, ◌+◌, ◌<◌, ◌≤◌}
use native.Mathlib.Omega.{arith}
use lib.Dec.{leb, ltb}
use lib.ListN.{length, take, drop, take-append-drop}
use lib.Seq.{length-take-le, take_all}
use borrow.Author.Tests.{leb-true, leb-false, le-leb, ltb-false}
use Rattle.chars.specs.Ascii.{bytes}
use Rattle.std.specs.Prelude.{if◌then◌else◌}
use Rattle.rows.specs.Rows.{Tables}
use Rattle.rows.specs.Lawful.{lawful}
use Rattle.rows.specs.Reading.{rows_in}
use Rattle.lines.specs.declared.Sink.{Sink}
use Rattle.lines.specs.Text.{decimal}
use Rattle.lines.specs.Sinks.{is_full, behind, poured, with_byte, filled, Pours}
use Rattle.lines.proofs.Pouring.{poured-append, filled-append, pours_then}
use Rattle.listing.specs.Listing.{listing_of, listed, output_of}
use Rattle.listing.proofs.Answers.{poured-fits, filled-fits}
use Rattle.compile.specs.Compiled.{over}
use Rattle.reply.specs.Reply.{refusal_line, shown_of, Shows}
use Rattle.basics.specs.Judged.{Outcome, gave, barred}

abbrev sink_at : ℕ → Sink
sink_at n = record { at = n; full = false }

abbrev full_at : ℕ → Sink
full_at n = record { at = n; full = true }

-- nothing is poured past the room
module _ (room : ℕ) where
  behind_full : (s : Sink) → is_full room s ≡ true → behind room s ≡ full_at s.at
  unfolding behind
  behind_full s e = rw e

  poured_past : (s : Sink) (bs : List ℕ) → is_full room s ≡ true → (poured room s bs).at ≡ s.at
  unfolding poured
  poured_past s [] e = refl
  poured_past s (b ∷ bs) e = ap (λ (q : Sink). (poured room q bs).at) (behind_full s e) ∙ poured_past (full_at s.at) bs refl

  byte_past : (s : Sink) (out : List ℕ) (b : ℕ) → is_full room s ≡ true → with_byte room s out b ≡ out
  unfolding with_byte
  byte_past s out b e = rw e

  filled_past : (s : Sink) (out bs : List ℕ) → is_full room s ≡ true → filled room s out bs ≡ out
  unfolding filled
  filled_past s out [] e = refl
  filled_past s out (b ∷ bs) e =
      ap (λ (q : Sink). filled room q (with_byte room s out b) bs) (behind_full s e)
      ∙ ap (λ (o : List ℕ). filled room (full_at s.at) o bs) (byte_past s out b e)
      ∙ filled_past (full_at s.at) out bs refl

-- all bytes, or those for which there is room
module _ (before : List ℕ) where
  poured_all : (bs : List ℕ) → length bs ≤ length before → poured (length before) (sink_at 0) bs ≡ sink_at (length bs)
  poured_all bs l =
      let n : 0 + length bs ≡ length bs = omega arith in
      poured-fits (length before) 0 bs (rw n l) ∙ ap sink_at n

  module _ (bs rest : List ℕ) (e : length bs ≡ length before) where
    at_end : is_full (length before) (sink_at (length bs)) ≡ true
    at_end = le-leb (length before) (length bs) (omega (arith, e))

    poured-cut : (poured (length before) (sink_at 0) (bs ++ rest)).at ≡ length bs
    poured-cut =
        ap (λ (s : Sink). s.at) (poured-append (length before) (sink_at 0) bs rest)
        ∙ ap (λ (s : Sink). (poured (length before) s rest).at) (poured_all bs (omega (arith, e)))
        ∙ poured_past (length before) (sink_at (length bs)) rest at_end

    filled-cut : filled (length before) (sink_at 0) before (bs ++ rest) ≡ over bs before
    filled-cut =
        filled-append (length before) (sink_at 0) before bs rest
        ∙ ap (λ (s : Sink). filled (length before) s (filled (length before) (sink_at 0) before bs) rest) (poured_all bs (omega (arith, e)))
        ∙ filled_past (length before) (sink_at (length bs)) (filled (length before) (sink_at 0) before bs) rest at_end
        ∙ filled-fits (length before) before bs (omega (arith, e)) (omega (arith, e))

-- bytes that have room are shown whole
pub shows_whole : {before after bs : List ℕ} {n : ℕ} → length bs ≤ length before → n ≡ length bs → after ≡ over bs before → Shows before after bs n
shows_whole {before} {after} {bs} {n} l e w =
    let a : take (length before) bs ≡ bs = take_all (length before) bs l in
    record {
      count_of = e ∙ ap (λ (k : List ℕ). length k) (sym a);
      written = w ∙ ap (λ (k : List ℕ). over k before) (sym a);
    }

pub pours_show : {before after bs : List ℕ} {r : Sink} → Pours (length before) before after (sink_at 0) bs r → Shows before after bs r.at
pours_show {before} {after} {bs} {r} p = by (leb (length bs) (length before)) refl
  where
    by : (b : Bool) → leb (length bs) (length before) ≡ b → Shows before after bs r.at
    by true q =
        let l : length bs ≤ length before = leb-true (length bs) (length before) q in
        shows_whole l (ap (λ (s : Sink). s.at) (p.sink ∙ poured_all before bs l)) (p.out ∙ filled-fits (length before) before bs l l)
    by false q =
        let first : List ℕ = take (length before) bs in
        let rest : List ℕ = drop (length before) bs in
        let l : length before < length bs = leb-false (length bs) (length before) q in
        let e : length first ≡ length before = length-take-le (length before) bs (omega arith) in
        let a : bs ≡ first ++ rest = sym (take-append-drop (length before) bs) in
        record {
          count_of = ap (λ (s : Sink). s.at) p.sink ∙ ap (λ (k : List ℕ). (poured (length before) (sink_at 0) k).at) a ∙ poured-cut before first rest e;
          written = p.out ∙ ap (λ (k : List ℕ). filled (length before) (sink_at 0) before k) a ∙ filled-cut before first rest e;
        }

-- the line of a refusal
pub refusal-shown : {a b c d e f : List ℕ} {q r s t u : Sink} (number at : ℕ) → Pours (length a) a b (sink_at 0) (bytes "refused=") q → Pours (length a) b c q (decimal number) r
    → Pours (length a) c d r (bytes " at=") s → Pours (length a) d e s (decimal at) t → Pours (length a) e f t (10 ∷ []) u → Shows a f (refusal_line number at) u.at
unfolding refusal_line
refusal-shown number at p1 p2 p3 p4 p5 = pours_show (pours_then p1 (pours_then p2 (pours_then p3 (pours_then p4 p5))))

-- the answer of a listing
module _ (t : Tables) (before : List ℕ) {after : List ℕ} {r : Outcome ℕ} (e : r ≡ listed (length before) t) (w : after ≡ output_of before (listing_of (rows_in t)) r) where
  pub listing_refused : {n count : ℕ} {end : List ℕ} → r ≡ barred n → Shows after end (refusal_line n 0) count → Shows before end (shown_of (listing_of (rows_in t)) (listed (length before) t)) count
  listing_refused {n} {count} {end} z s =
      let k : after ≡ before = w ∙ ap (λ (x : Outcome ℕ). output_of before (listing_of (rows_in t)) x) z in
      let a : refusal_line n 0 ≡ shown_of (listing_of (rows_in t)) (listed (length before) t) = ap (λ (x : Outcome ℕ). shown_of (listing_of (rows_in t)) x) (sym z ∙ e) in
      rw a at (rw k at s)

  written-fits : (n : ℕ) → gave n ≡ listed (length before) t → (n ≡ length (listing_of (rows_in t))) × (length (listing_of (rows_in t)) ≤ length before)
  unfolding listed
  written-fits n = by (lawful t) (ltb (length before) (length (listing_of (rows_in t)))) refl
    where
      by : (a b : Bool) → ltb (length before) (length (listing_of (rows_in t))) ≡ b
          → gave n ≡ (if not a then barred 24 else if b then barred 22 else gave (length (listing_of (rows_in t))))
          → (n ≡ length (listing_of (rows_in t))) × (length (listing_of (rows_in t)) ≤ length before)
      by false b q z = cc
      by true true q z = cc
      by true false q z = (cc, ltb-false (length before) (length (listing_of (rows_in t))) q)

  pub listing_written : {n : ℕ} → r ≡ gave n → Shows before after (shown_of (listing_of (rows_in t)) (listed (length before) t)) n
  listing_written {n} z =
      let f : (n ≡ length (listing_of (rows_in t))) × (length (listing_of (rows_in t)) ≤ length before) = written-fits n (sym z ∙ e) in
      let a : listing_of (rows_in t) ≡ shown_of (listing_of (rows_in t)) (listed (length before) t) = ap (λ (x : Outcome ℕ). shown_of (listing_of (rows_in t)) x) (sym z ∙ e) in
      rw a at
      (shows_whole {before = before} {after = after} {bs = listing_of (rows_in t)} {n = n} f.1 f.0
      (w ∙ ap (λ (x : Outcome ℕ). output_of before (listing_of (rows_in t)) x) z ∙ ap (λ (k : ℕ). listing_of (rows_in t) ++ drop k before) f.0))
