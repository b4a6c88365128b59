-- Laws of the whole listing: what a sink and an output are behind all bytes, and one law for each answer.
use mathlib.Core.Bool.{Bool, true, false, not}
use mathlib.Core.Path.{◌≡◌, refl, sym, ap, ◌∙◌}
use mathlib.Core.List.{List, [], ◌∷◌, ◌++◌}
use Prim.Native.Nat.{ℕ, suc, ◌+◌, ◌<◌, ◌≤◌}
use native.Mathlib.Omega.{arith}
use lib.Dec.{leb, ltb}
use lib.ListN.{length, set, drop}
use lib.Seq.{sets, sets-eq}
use borrow.Author.Tests.{leb-true, leb-false, le-leb, lt-leb, ltb-true, ltb-false, not-true, not-false}
use Rattle.std.specs.Prelude.{if◌then◌else◌}
use Rattle.lines.specs.declared.Sink.{Sink}
use Rattle.lines.specs.Sinks.{behind, poured, with_byte, filled, Pours}
use Rattle.rows.specs.Rows.{Tables}
use Rattle.rows.specs.Lawful.{lawful}
use Rattle.rows.specs.Reading.{rows_in}
use Rattle.listing.specs.Listing.{listing_of, listed, listed_numbers, listing_numbers}
use Rattle.listing.specs.Bounds.{AllBounded}
use Rattle.listing.proofs.Bounds.{lawful_bounded}
use Rattle.basics.specs.Judged.{Outcome, gave, barred}

abbrev sink_at : ℕ → Sink
sink_at n = record { at = n; full = false }

module _ (room : ℕ) where
  -- a byte where there is room
  module _ (at : ℕ) (h : at < room) where
    behind-fits : behind room (sink_at at) ≡ sink_at (suc at)
    unfolding behind
    behind-fits = rw (lt-leb room at h)

    byte_set : (out : List ℕ) (b : ℕ) → with_byte room (sink_at at) out b ≡ set out at b
    unfolding with_byte
    byte_set out b = rw (lt-leb room at h)

  -- all bytes fit
  pub poured-fits : (at : ℕ) (bs : List ℕ) → at + length bs ≤ room → poured room (sink_at at) bs ≡ sink_at (at + length bs)
  unfolding poured
  poured-fits at [] h = let n : at + 0 ≡ at = omega arith in rw n
  poured-fits at (b ∷ bs) h =
      let n : at + suc (length bs) ≡ suc at + length bs = omega arith in
      let l : suc at + length bs ≤ room = omega arith in
      ap (λ (s : Sink). poured room s bs) (behind-fits at (omega arith)) ∙ poured-fits (suc at) bs l ∙ ap sink_at (sym n)

  filled_sets : (at : ℕ) (out bs : List ℕ) → at + length bs ≤ room → filled room (sink_at at) out bs ≡ sets out at bs
  unfolding filled
  filled_sets at out [] h = refl
  filled_sets at out (b ∷ bs) h =
      let l : suc at + length bs ≤ room = omega arith in
      ap (λ (s : Sink). filled room s (with_byte room (sink_at at) out b) bs) (behind-fits at (omega arith))
      ∙ ap (λ (o : List ℕ). filled room (sink_at (suc at)) o bs) (byte_set at (omega arith) out b)
      ∙ filled_sets (suc at) (set out at b) bs l

  pub filled-fits : (out bs : List ℕ) → length bs ≤ room → length bs ≤ length out → filled room (sink_at 0) out bs ≡ bs ++ drop (length bs) out
  filled-fits out bs h l =
      let n : 0 + length bs ≡ length bs = omega arith in
      filled_sets 0 out bs (rw n h) ∙ sets-eq bs out 0 (rw n l) ∙ ap (λ (k : ℕ). bs ++ drop k out) n

  -- they do not
  poured_full : (s : Sink) (bs : List ℕ) → s.full ≡ true → (poured room s bs).full ≡ true
  unfolding poured behind
  poured_full s [] e = e
  poured_full s (b ∷ bs) e = poured_full (behind room s) bs (rw e)

  over_full : (at : ℕ) → room ≤ at → (behind room (sink_at at)).full ≡ true
  unfolding behind
  over_full at h = rw (le-leb room at h)

  pub poured-over : (at : ℕ) (bs : List ℕ) → at ≤ room → room < at + length bs → (poured room (sink_at at) bs).full ≡ true
  unfolding poured
  poured-over at [] l h = absurd (omega arith)
  poured-over at (b ∷ bs) l h = by (leb room at) refl (poured-over (suc at) bs)
    where
      by : (c : Bool) → leb room at ≡ c → (suc at ≤ room → room < suc at + length bs → (poured room (sink_at (suc at)) bs).full ≡ true) → (poured room (behind room (sink_at at)) bs).full ≡ true
      by true q rest = poured_full (behind room (sink_at at)) bs (over_full at (leb-true room at q))
      by false q rest =
          let m : at < room = leb-false room at q in
          ap (λ (s : Sink). (poured room s bs).full) (behind-fits at m) ∙ rest (omega arith) (omega arith)

-- an answer in numbers
pub listed_numbers_lem : (room : ℕ) (t : Tables) {r : Outcome ℕ} → r ≡ listed room t → listed_numbers r ≡ listing_numbers room t
unfolding listed listing_numbers
listed_numbers_lem room t e = ap listed_numbers e ∙ by (not (lawful t)) (ltb room (length (listing_of (rows_in t))))
  where
    by : (a b : Bool) → let n = length (listing_of (rows_in t)) in listed_numbers (if a then barred 24 else if b then barred 22 else gave n) ≡ (if a then 24 ∷ 0 ∷ 0 ∷ [] else if b then 22 ∷ 0 ∷ 0 ∷ [] else 0 ∷ 0 ∷ n ∷ [])
    by true b = refl
    by false true = refl
    by false false = refl

-- the answers
module _ (t : Tables) {r : Bool} (e : r ≡ lawful t) where
  pub list_unlawful : (room : ℕ) → not r ≡ true → barred 24 ≡ listed room t
  unfolding listed
  list_unlawful room y = rw (sym e ∙ not-true r y)

  pub list_bounds : not r ≡ false → AllBounded t.registers
  list_bounds y = lawful_bounded t (sym e ∙ not-false r y)

  module _ {room : ℕ} {before after : List ℕ} {measured : Sink} (y : not r ≡ false) (p : Pours room before after (sink_at 0) (listing_of (rows_in t)) measured) where
    too_long : measured.full ≡ true → ltb room (length (listing_of (rows_in t))) ≡ true
    too_long f = by (ltb room (length (listing_of (rows_in t)))) refl
      where
        by : (b : Bool) → ltb room (length (listing_of (rows_in t))) ≡ b → b ≡ true
        by true q = refl
        by false q =
            let l : length (listing_of (rows_in t)) ≤ room = ltb-false room (length (listing_of (rows_in t))) q in
            let m : 0 + length (listing_of (rows_in t)) ≤ room = omega arith in
            sym (ap (λ (s : Sink). s.full) (p.sink ∙ poured-fits room 0 (listing_of (rows_in t)) m)) ∙ f

    fits : measured.full ≡ false → ltb room (length (listing_of (rows_in t))) ≡ false
    fits f = by (ltb room (length (listing_of (rows_in t)))) refl
      where
        by : (b : Bool) → ltb room (length (listing_of (rows_in t))) ≡ b → b ≡ false
        by false q = refl
        by true q =
            let l : room < length (listing_of (rows_in t)) = ltb-true room (length (listing_of (rows_in t))) q in
            let m : room < 0 + length (listing_of (rows_in t)) = omega arith in
            sym (ap (λ (s : Sink). s.full) p.sink ∙ poured-over room 0 (listing_of (rows_in t)) (omega arith) m) ∙ f

    pub list_long : measured.full ≡ true → barred 22 ≡ listed room t
    unfolding listed
    list_long f = rw (sym e ∙ not-false r y, too_long f)

    module _ {out now : List ℕ} {written : Sink} (f : measured.full ≡ false) (w : Pours room out now (sink_at 0) (listing_of (rows_in t)) written) where
      short : length (listing_of (rows_in t)) ≤ room
      short = ltb-false room (length (listing_of (rows_in t))) (fits f)

      written_all : written.at ≡ length (listing_of (rows_in t))
      written_all =
          let n : 0 + length (listing_of (rows_in t)) ≡ length (listing_of (rows_in t)) = omega arith in
          ap (λ (s : Sink). s.at) (w.sink ∙ poured-fits room 0 (listing_of (rows_in t)) (rw n short)) ∙ n

      pub list_written : room ≡ length out → (gave written.at ≡ listed room t) × (now ≡ listing_of (rows_in t) ++ drop written.at out)
      unfolding listed
      list_written n =
          let l : length (listing_of (rows_in t)) ≤ length out = rw (← n) short in (
            rw (sym e ∙ not-false r y, fits f, written_all),
            w.out ∙ filled-fits room out (listing_of (rows_in t)) short l ∙ ap (λ (k : ℕ). listing_of (rows_in t) ++ drop k out) (sym written_all),
          )
