-- Laws of pouring: bytes one after another, and what a loop still has to pour.
use mathlib.Core.Path.{◌≡◌, refl, sym, ap, ◌∙◌}
use mathlib.Core.List.{List, [], ◌∷◌, ◌++◌}
use Prim.Native.Nat.{ℕ}
use Rattle.lines.specs.declared.Sink.{Sink}
use Rattle.lines.specs.Sinks.{behind, poured, with_byte, filled, Pours}

-- bytes behind bytes
module _ (room : ℕ) where
  pub poured-append : (s : Sink) (xs ys : List ℕ) → poured room s (xs ++ ys) ≡ poured room (poured room s xs) ys
  unfolding poured
  poured-append s [] ys = refl
  poured-append s (x ∷ xs) ys = poured-append (behind room s) xs ys

  pub filled-append : (s : Sink) (out xs ys : List ℕ) → filled room s out (xs ++ ys) ≡ filled room (poured room s xs) (filled room s out xs) ys
  unfolding poured filled
  filled-append s out [] ys = refl
  filled-append s out (x ∷ xs) ys = filled-append (behind room s) (with_byte room s out x) xs ys

-- no byte, and one byte more
module _ (room : ℕ) (s : Sink) where
  pub poured_none : poured room s [] ≡ s
  unfolding poured
  poured_none = refl

  pub filled_none : (out : List ℕ) → filled room s out [] ≡ out
  unfolding filled
  filled_none out = refl

  pub poured_next : (b : ℕ) (bs : List ℕ) → poured room s (b ∷ bs) ≡ poured room (behind room s) bs
  unfolding poured
  poured_next b bs = refl

  pub filled_next : (b : ℕ) (bs out : List ℕ) → filled room s out (b ∷ bs) ≡ filled room (behind room s) (with_byte room s out b) bs
  unfolding filled
  filled_next b bs out = refl

pub ruleset appends = (poured-append, filled-append)

pub ruleset pouring = (poured-append, filled-append, poured_none, filled_none, poured_next, filled_next)

module _ {room : ℕ} where
  pub pours_none : {out : List ℕ} {s : Sink} → Pours room out out s [] s
  unfolding poured filled
  pours_none = record { sink = refl; out = refl }

  pub pours_then : {a b c : List ℕ} {s r q : Sink} {xs ys : List ℕ} → Pours room a b s xs r → Pours room b c r ys q → Pours room a c s (xs ++ ys) q
  pours_then {a} {b} {c} {s} {r} {q} {xs} {ys} p w =
      record {
        sink = w.sink ∙ ap (λ (t : Sink). poured room t ys) p.sink ∙ sym (poured-append room s xs ys);
        out =
            w.out
            ∙ ap (λ (t : Sink). filled room t b ys) p.sink
            ∙ ap (λ (o : List ℕ). filled room (poured room s xs) o ys) p.out
            ∙ sym (filled-append room s a xs ys);
      }

-- what is left to pour, `left`, comes to what all comes to from the start
pub record Pouring (room : ℕ) (before after : List ℕ) (start : Sink) (all : List ℕ) (s : Sink) (left : List ℕ) : Type 0 where
  pub sink : poured room s left ≡ poured room start all
  pub out : filled room s after left ≡ filled room start before all

module _ {room : ℕ} {before : List ℕ} {start : Sink} {all : List ℕ} where
  pub pouring_end : {out : List ℕ} {s : Sink} → Pouring room before out start all s [] → Pours room before out start all s
  unfolding poured filled
  pouring_end p = record { sink = p.sink; out = p.out }

  pub pouring_on : {a b : List ℕ} {s r : Sink} (xs ys : List ℕ) → Pouring room before a start all s (xs ++ ys) → Pours room a b s xs r → Pouring room before b start all r ys
  pouring_on {a} {b} {s} {r} xs ys p w =
      record {
        sink = ap (λ (t : Sink). poured room t ys) w.sink ∙ sym (poured-append room s xs ys) ∙ p.sink;
        out =
            ap (λ (t : Sink). filled room t b ys) w.sink
            ∙ ap (λ (o : List ℕ). filled room (poured room s xs) o ys) w.out
            ∙ sym (filled-append room s a xs ys)
            ∙ p.out;
      }

pub pouring_start : {room : ℕ} {before : List ℕ} {start : Sink} {all left : List ℕ} → left ≡ all → Pouring room before before start all start left
pouring_start {room} {before} {start} e = record { sink = ap (λ (l : List ℕ). poured room start l) e; out = ap (λ (l : List ℕ). filled room start before l) e }
