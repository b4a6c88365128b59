-- A part of a log in the middle of being played: what is left of it comes to what all of it comes to.
use mathlib.Core.Path.{◌≡◌, refl, sym, ap, ◌∙◌}
use mathlib.Core.List.{List, [], ◌∷◌}
use Prim.Native.Nat.{ℕ, ◌+◌, ◌<◌, ◌≤◌}
use lib.ListN.{length, drop, get_or, drop_of_length-le}
use Rattle.chars.proofs.Laws.{drop_next}
use Rattle.lines.specs.declared.Sink.{Sink}
use Rattle.lines.specs.Sinks.{Pours}
use Rattle.lines.proofs.Pouring.{Pouring, pouring_start, pouring_on, pouring_end}
use Rattle.rows.specs.Rows.{Tables}
use Rattle.player.specs.declared.Progress.{Progress}
use Rattle.player.specs.Play.{after_byte, byte_text, byte_store, progress_over, store_over, text_over}

-- behind one byte more
module _ (t : Tables) (s : List ℕ) (p : Progress) (b : ℕ) (bs : List ℕ) where
  progress_more : progress_over p (b ∷ bs) ≡ progress_over (after_byte p b) bs
  unfolding progress_over
  progress_more = refl

  store_more : store_over t s p (b ∷ bs) ≡ store_over t (byte_store t s p b) (after_byte p b) bs
  unfolding store_over
  store_more = refl

-- behind all
module _ (t : Tables) (s : List ℕ) (p : Progress) where
  progress_none : progress_over p [] ≡ p
  unfolding progress_over
  progress_none = refl

  store_none : store_over t s p [] ≡ s
  unfolding store_over
  store_none = refl

pub record Playing (t : Tables) (room : ℕ) (s₀ out₀ part : List ℕ) (p₀ : Progress) (k₀ : Sink) (s out : List ℕ) (p : Progress) (k : Sink) (i : ℕ) : Type 0 where
  pub progress : progress_over p (drop i part) ≡ progress_over p₀ part
  pub store : store_over t s p (drop i part) ≡ store_over t s₀ p₀ part
  pub text : Pouring room out₀ out k₀ (text_over t s₀ p₀ part) k (text_over t s p (drop i part))

module _ (t : Tables) (room : ℕ) (s₀ out₀ part : List ℕ) (p₀ : Progress) (k₀ : Sink) where
  pub playing_start : Playing t room s₀ out₀ part p₀ k₀ s₀ out₀ p₀ k₀ 0
  playing_start = record { progress = refl; store = refl; text = pouring_start refl }

  module _ {s out : List ℕ} {p : Progress} {k : Sink} {i : ℕ} (c : Playing t room s₀ out₀ part p₀ k₀ s out p k i) where
    module _ (h : length part ≤ i) where
      none_left : drop i part ≡ []
      none_left = drop_of_length-le part h

      pub playing_progress : p ≡ progress_over p₀ part
      playing_progress = sym (ap (progress_over p) none_left ∙ progress_none t s p) ∙ c.progress

      pub playing_store : s ≡ store_over t s₀ p₀ part
      playing_store = sym (ap (store_over t s p) none_left ∙ store_none t s p) ∙ c.store

      pub playing_text : Pours room out₀ out k₀ (text_over t s₀ p₀ part) k
      unfolding text_over
      playing_text = pouring_end (rw none_left at c.text)

    module _ (h : i < length part) where
      one_more : drop i part ≡ get_or part i 0 ∷ drop (i + 1) part
      one_more = drop_next part i h

      pub playing_on : {s' out' : List ℕ} {p' : Progress} {k' : Sink} {b : ℕ} → b ≡ get_or part i 0 → s' ≡ byte_store t s p b
          → Pours room out out' k (byte_text t s p b) k' → p' ≡ after_byte p b → Playing t room s₀ out₀ part p₀ k₀ s' out' p' k' (i + 1)
      unfolding text_over
      playing_on {s'} {out'} {p'} {k'} {b} e f w g =
          let rest : List ℕ = drop (i + 1) part in
          let z : drop i part ≡ b ∷ rest = one_more ∙ ap (λ (x : ℕ). x ∷ rest) (sym e) in
          record {
            progress = ap (λ (q : Progress). progress_over q rest) g ∙ sym (ap (progress_over p) z ∙ progress_more t s p b rest) ∙ c.progress;
            store =
                ap (λ (u : List ℕ). store_over t u p' rest) f ∙ ap (λ (q : Progress). store_over t (byte_store t s p b) q rest) g
                ∙ sym (ap (store_over t s p) z ∙ store_more t s p b rest) ∙ c.store;
            text = rw (f, g) (pouring_on (byte_text t s p b) (text_over t (byte_store t s p b) (after_byte p b) rest) (rw z at c.text) w);
          }
