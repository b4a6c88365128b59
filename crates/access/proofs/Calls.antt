-- The laws of calls: on lawful rows and a fitting store, the calls are the accesses of the device in the rows.
use mathlib.Core.Path.{◌≡◌, refl, sym, ap, ap₂, ◌∙◌, subst}
use mathlib.Core.Bool.{Bool, true, false, not}
use mathlib.Core.List.{List, [], ◌∷◌, ◌++◌}
use Prim.Native.Nat.{ℕ, zero, suc}
use native.Mathlib.Omega.{arith}
use lib.Dec.{eqb}
use lib.ListN.{length, drop}
use lib.Seq.{drop_at}
use borrow.Author.Tests.{le-ltb, ne_eqb}
use Rattle.std.specs.Prelude.{if◌then◌else◌}
use Rattle.rows.specs.Rows.{Tables}
use Rattle.rows.specs.Lawful.{lawful}
use Rattle.model.specs.declared.View.{View}
use Rattle.model.specs.declared.Access.{Access}
use Rattle.model.specs.Model.{fits, Words, well_formed, stepped, refusal, after, bits_of, word_from, answer_with, answer_from, word_in}
use Rattle.model.specs.Lists.{run, answers}
use Rattle.model.specs.Repeats.{repeats}
use Rattle.model.proofs.Fits.{fits_long, fits_words}
use Rattle.model.proofs.Demand.{fitting-after}
use Rattle.access.specs.Stored.{stored_fields, device_in}
use Rattle.access.specs.Perform.{is_short, is_reached, refusal_of, answer_of, unless_refused, store_after, resets, reset_refusal, store_reset, retry_refusal, retry_with, retry_of, Fitting, Answered, store_after_all, answers_of}
use Rattle.access.proofs.Fields.{length_sizes}
use Rattle.access.proofs.Suited.{lawful_suited}
use Rattle.access.proofs.Stores.{stored_reset_fits}
use Rattle.basics.specs.Judged.{Outcome, gave}
use Rattle.access.specs.declared.Resend.TheVariants.{Safe, Unsafe}

length-resets : (m : List View) → length (resets m) ≡ length m
unfolding resets
length-resets [] = refl
length-resets (c ∷ m) = ap suc (length-resets m)

-- a refusal of 0, and a refusal
unless-refused : (n : ℕ) (new old : List ℕ) → unless_refused n new old ≡ (if eqb n 0 then new else old)
unless-refused zero new old = refl
unless-refused (suc n) new old = let some : suc n ≡ 0 → ⊥ = λ e. omega arith in rw (ne_eqb (suc n) 0 some)

module _ (t : Tables) (e : lawful t ≡ true) where
  -- with a fitting store, only 23 and 25 are left
  pub call_refusal : (s : List ℕ) → Fitting t s → (x : Access) → refusal_of t s x ≡ refusal (device_in t) x
  unfolding refusal_of
  call_refusal s h x =
      let room : is_short t s ≡ false = le-ltb (length s) (length (device_in t).sizes) (fits_long (device_in t).sizes s h.fitting) in
      by (well_formed x) (is_reached t x) room
    where
      by : (formed reached : Bool) → is_short t s ≡ false
          → ◌≡◌ {A = ℕ} (if not formed then 23 else if not (lawful t) then 24 else if is_short t s then 22 else if not (fits (device_in t).sizes s) then 24 else if not reached then 25 else 0)
          (if formed then (if reached then 0 else 25) else 23)
      by false reached r = refl
      by true true r = rw (e, r, h.fitting)
      by true false r = rw (e, r, h.fitting)

  pub call_store : (s : List ℕ) → Fitting t s → (x : Access) → store_after t s x ≡ after (device_in t) x s
  unfolding store_after
  call_store s h x =
      ap (λ (n : ℕ). unless_refused n (stepped x (stored_fields t) s) s) (call_refusal s h x) ∙ unless-refused (refusal (device_in t) x) (stepped x (stored_fields t) s) s

  pub call_answer : (s : List ℕ) → Fitting t s → (x : Access) → answer_of t s x ≡ answer_from (device_in t) x (bits_of s)
  unfolding answer_of
  call_answer s h x = ap (λ (n : ℕ). answer_with n (word_from (device_in t) x (bits_of s))) (call_refusal s h x)

  pub call_fits : (s : List ℕ) → Fitting t s → (x : Access) → Fitting t (store_after t s x)
  call_fits s h x = rw (call_store s h x) (fitting-after (device_in t) (lawful_suited t e) x s h)

  -- ---- lists of accesses

  pub calls_store : (xs : List Access) (s : List ℕ) → Fitting t s → store_after_all t xs s ≡ run (device_in t) xs s
  unfolding store_after_all run
  calls_store [] s h = refl
  calls_store (x ∷ xs) s h = calls_store xs (store_after t s x) (call_fits s h x) ∙ ap (run (device_in t) xs) (call_store s h x)

  pub calls_answers : (xs : List Access) (s : List ℕ) → Fitting t s → answers_of t xs s ≡ answers (device_in t) xs s
  unfolding answers_of answers
  calls_answers [] s h = refl
  calls_answers (x ∷ xs) s h =
      ap₂ (λ (a : Outcome ℕ) (l : List (Outcome ℕ)). a ∷ l) (call_answer s h x) (calls_answers xs (store_after t s x) (call_fits s h x) ∙ ap (answers (device_in t) xs) (call_store s h x))

  -- ---- accesses made again

  pub call_retry_refusal : (x : Access) → retry_refusal t x ≡ refusal (device_in t) x
  unfolding retry_refusal
  call_retry_refusal x = by (well_formed x) (is_reached t x)
    where
      by : (formed reached : Bool) → ◌≡◌ {A = ℕ} (if not formed then 23 else if not (lawful t) then 24 else if not reached then 25 else 0) (if formed then (if reached then 0 else 25) else 23)
      by false reached = refl
      by true true = rw e
      by true false = rw e

  -- an answered access is safe to send again where its stored bits let it be made again
  pub call_retry : (x : Access) → Answered t x → retry_of t x ≡ (if repeats (stored_fields t) x then gave Safe else (gave Unsafe))
  unfolding retry_of
  call_retry x h = ap (λ (n : ℕ). retry_with n (repeats (stored_fields t) x)) (call_retry_refusal x ∙ h)

  pub call_twice : (s : List ℕ) → Fitting t s → (x : Access) → store_after t (store_after t s x) x ≡ after (device_in t) x (after (device_in t) x s)
  call_twice s h x = call_store (store_after t s x) (call_fits s h x) x ∙ ap (after (device_in t) x) (call_store s h x)

  -- the word of an answered read
  pub call_word : (s : List ℕ) → Fitting t s → (x : Access) → Answered t x → word_in (answer_of t s x) ≡ word_from (device_in t) x (bits_of s)
  call_word s f x h = ap word_in (call_answer s f x) ∙ ap (λ (n : ℕ). word_in (answer_with n (word_from (device_in t) x (bits_of s)))) h

  pub call_word_twice : (s : List ℕ) → Fitting t s → (x : Access) → Answered t x
      → word_in (answer_of t (store_after t s x) x) ≡ word_from (device_in t) x (bits_of (after (device_in t) x s))
  call_word_twice s f x h = call_word (store_after t s x) (call_fits s f x) x h ∙ ap (λ (l : List ℕ). word_from (device_in t) x (bits_of l)) (call_store s f x)

  -- ---- a reset

  -- the store that an answered reset leaves fits
  pub reset_fitting : (s : List ℕ) → Words s → reset_refusal t s ≡ 0 → Fitting t (store_reset t s)
  unfolding store_reset
  reset_fitting s w h =
      let n = length (device_in t).sizes in
      let u = resets (stored_fields t) ++ drop n s in
      let fits_all : fits (device_in t).sizes u ≡ true = stored_reset_fits t e (drop n s) in
      let left : Fitting t u =
      record {
        fitting = fits_all;
        words = fits_words (device_in t).sizes s u (lawful_suited t e).narrow fits_all
            (drop_at (resets (stored_fields t)) (drop n s) n (length-resets (stored_fields t) ∙ sym (length_sizes (stored_fields t)))) w;
      } in
      subst (Fitting t) (sym (ap (λ (k : ℕ). unless_refused k u s) h)) left
