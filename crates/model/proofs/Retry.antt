-- Demand 3 of accesses made again: retried writes, retried reads, and what a read depends on.
use mathlib.Core.Path.{◌≡◌, refl, sym, ap, ◌∙◌, subst}
use mathlib.Core.Bool.{Bool, true, false, not, ◌&&◌, ◌||◌}
use mathlib.Core.Logic.{◌↔◌, ⊎_elim}
use mathlib.Core.List.{List, [], ◌∷◌}
use Prim.Native.Nat.{ℕ, zero, suc, ◌+◌, ◌<◌, zero-le, suc-le-suc}
use native.Mathlib.Nat.{not-suc-le-zero, le_of_suc-le-suc}
use native.Mathlib.Omega.{arith}
use lib.ListN.{length, get_or, replicate}
use lib.Dec.{eqb, leb, ltb}
use borrow.Author.Tests.{eqb-true, eqb-false, eq-eqb}
use Rattle.std.specs.Prelude.{if◌then◌else◌}
use Rattle.chars.proofs.Laws.{and_left, and_right, and_both, or_left, or_right}
use Rattle.fields.specs.Codes.{read_code, write_code}
use Rattle.fields.specs.declared.ReadEffect.TheVariants as onread
use Rattle.fields.specs.declared.WriteEffect.TheVariants as onwrite
use Rattle.fields.specs.declared.FieldType.{FieldType}
use Rattle.fields.specs.declared.Offset.{Offset}
use Rattle.bits.specs.Bits.{bit}
use Rattle.bits.proofs.BitLaws.{bit-number}
use Rattle.actions.specs.declared.Action.{Action}
use Rattle.actions.specs.declared.Action.TheVariants.{Kept, Cleared, Set, Inverted}
use Rattle.actions.specs.Actions.{apply, followed_by, write_action, read_action}
use Rattle.actions.proofs.ActionLaws.{again_or_inverts, kept_followed, write_inverts, one_inverts, zero_inverts, read_keeps}
use Rattle.model.specs.declared.View.{View}
use Rattle.model.specs.declared.Access.{Access}
use Rattle.model.specs.declared.Access.TheVariants.{Read, Write}
use Rattle.fields.specs.Fields.{is_readable, is_writable}
use Rattle.model.specs.Model.{Device, size, fits, Fitting, reaches, part_low, place_of, reaches_bit, writes_bit, word_bit, bit_action, refusal, answered, after, gives, bits_of, word_from, answer_with, answer_from, view_in}
use Rattle.model.specs.Lists.{action_from, action, Stored, Shown}
use Rattle.model.specs.Repeats.{changed_by_reading, inverted_by, reads_bit, repeats_bit, all_below, repeats, Alone}
use Rattle.model.specs.Suited.{Suited}
use Rattle.chars.proofs.Laws.{differ}
use Rattle.model.proofs.Tests.{not_both, not_second}
use Rattle.model.proofs.Fits.{zeros_fit, zeros_words}
use Rattle.model.proofs.Under.{under, bit_under, under_under, under_ext, under_kept, store_of, store_of_fitting, store_of_bit}
use Rattle.model.proofs.Demand.{after_under, fits_after, after-bit}
use Rattle.model.proofs.Words.{word_index, word_inside, field_at, gives_cong, gives_each, gives_none, word_cong, shown_stored}
use Rattle.model.proofs.Composed.{composed_kept, composed_sole, composed_calm, kept_each}

-- ---- the test of each bit of each view

pub below_at : (n : ℕ) (p : ℕ → Bool) → all_below n p ≡ true → (i : ℕ) → i < n → p i ≡ true
unfolding all_below
below_at zero p e i h = absurd (not-suc-le-zero h)
below_at (suc n) p e i h = by (eqb i n) refl (below_at n p (and_left (all_below n p) (p n) e) i)
  where
    by : (b : Bool) → eqb i n ≡ b → (i < n → p i ≡ true) → p i ≡ true
    by true q rest = ap p (eqb-true i n q) ∙ and_right (all_below n p) (p n) e
    by false q rest = let z : i ≡ n → ⊥ = eqb-false i n q in rest (omega arith)

pub below_made : (n : ℕ) (p : ℕ → Bool) → ((i : ℕ) → i < n → p i ≡ true) → all_below n p ≡ true
unfolding all_below
below_made zero p k = refl
below_made (suc n) p k = and_both (all_below n p) (p n) (below_made n p (λ i h. k i (omega arith))) (k n (omega arith))

repeats_at : (cs : List View) (x : Access) → repeats cs x ≡ true → (k i : ℕ) → Shown cs k i → repeats_bit x (view_in cs k) i ≡ true
unfolding repeats
repeats_at [] x e k i p = absurd (not-suc-le-zero p.row)
repeats_at (c ∷ cs) x e zero i p = below_at (size c) (repeats_bit x c) (and_left (all_below (size c) (repeats_bit x c)) (repeats cs x) e) i p.place
repeats_at (c ∷ cs) x e (suc k) i p =
    repeats_at cs x (and_right (all_below (size c) (repeats_bit x c)) (repeats cs x) e) k i (record { row = le_of_suc-le-suc p.row; place = p.place })

repeats_made : (cs : List View) (x : Access) → ((k i : ℕ) → Shown cs k i → repeats_bit x (view_in cs k) i ≡ true) → repeats cs x ≡ true
unfolding repeats
repeats_made [] x h = refl
repeats_made (c ∷ cs) x h =
    and_both (all_below (size c) (repeats_bit x c)) (repeats cs x)
    (below_made (size c) (repeats_bit x c) (λ i q. h 0 i (record { row = suc-le-suc zero-le; place = q })))
    (repeats_made cs x (λ k i p. h (suc k) i (record { row = suc-le-suc p.row; place = p.place })))

-- the criterion: each bit of each view lets the access be made again
pub repeats_each : (cs : List View) (x : Access) → (repeats cs x ≡ true) ↔ ((k i : ℕ) → Shown cs k i → repeats_bit x (view_in cs k) i ≡ true)
repeats_each cs x = (repeats_at cs x, repeats_made cs x)

-- a stored bit is a bit of each view of its number
pub stored_shown : (d : Device) → Suited d → (f i : ℕ) → Stored d.sizes f i → (k : ℕ) → k < length d.views → (view_in d.views k).index ≡ f
    → Shown d.views k i
stored_shown d ok f i p k h e =
    record { row = h; place = subst (λ (n : ℕ). i < n) (ap (λ (g : ℕ). get_or d.sizes g 0) (sym e) ∙ (ok.each k h).same) p.place }

-- ---- a write made twice

pub not_itself : (b : Bool) → b ≡ not b → ⊥
not_itself true e = differ e
not_itself false e = differ (sym e)

-- a test that cannot pass
pub fails : (b : Bool) → (b ≡ true → ⊥) → b ≡ false
fails true h = absurd (h refl)
fails false h = refl

-- an access made twice leaves the store as made once exactly when it inverts no stored bit
module _ (d : Device) (ok : Suited d) (x : Access) (s : List ℕ) (h : fits d.sizes s ≡ true) where
  once : after d x s ≡ under d.sizes (action d x) s
  once = after_under d ok x s h

  twice : after d x (after d x s) ≡ under d.sizes (λ f i. followed_by (action d x f i) (action d x f i)) s
  twice = after_under d ok x (after d x s) (fits_after d ok x s h) ∙ ap (under d.sizes (action d x)) once ∙ under_under d.sizes (action d x) (action d x) s

  same_twice : ((f i : ℕ) → Stored d.sizes f i → action d x f i ≡ Inverted → ⊥) → after d x (after d x s) ≡ after d x s
  same_twice k =
      twice
      ∙ under_ext d.sizes (λ f i. followed_by (action d x f i) (action d x f i)) (action d x) s
      (λ f i p. ⊎_elim (λ e. e) (λ e. absurd (k f i p e)) (again_or_inverts (action d x f i)))
      ∙ sym once

  inverts_none : after d x (after d x s) ≡ after d x s → (f i : ℕ) → Stored d.sizes f i → action d x f i ≡ Inverted → ⊥
  inverts_none e f i p q =
      not_itself (bits_of s f i)
      (sym (ap (λ (t : Action). apply (followed_by t t) (bits_of s f i)) q)
      ∙ sym (bit_under d.sizes (λ g k. followed_by (action d x g k) (action d x g k)) s h f i p)
      ∙ ap (λ (l : List ℕ). bits_of l f i) (sym twice ∙ e ∙ once)
      ∙ bit_under d.sizes (action d x) s h f i p
      ∙ ap (λ (t : Action). apply t (bits_of s f i)) q)

-- a field's write effect inverts as the definition says
pub inverted_by_lem : (v : FieldType) (b : Bool) → write_action v.onwrite b ≡ Inverted → inverted_by v b ≡ true
inverted_by_lem v b e =
    ⊎_elim (λ k. ap (inverted_by v) k.1 ∙ eq-eqb v.onwrite (write_code onwrite.Wot) k.0)
    (λ k. ap (inverted_by v) k.1 ∙ eq-eqb v.onwrite (write_code onwrite.Wzt) k.0)
    (write_inverts v.onwrite b e)

pub by_inverted : (v : FieldType) (b : Bool) → inverted_by v b ≡ true → write_action v.onwrite b ≡ Inverted
by_inverted v true e = ap (λ (n : ℕ). write_action n true) (eqb-true v.onwrite (write_code onwrite.Wot) e) ∙ one_inverts
by_inverted v false e = ap (λ (n : ℕ). write_action n false) (eqb-true v.onwrite (write_code onwrite.Wzt) e) ∙ zero_inverts

-- a bit that is inverted only where the tests g and v pass
pub again_lets : (g v : Bool) (t : Action) → (t ≡ Inverted → v ≡ true) → not (g && v) ≡ true → (if g then t else Kept) ≡ Inverted → ⊥
again_lets true v t h r e = differ (sym (h e) ∙ not_second true v r refl)
again_lets false v t h r e = let z : ◌≡◌ {A = ℕ} 0 1 = cc in omega arith

module _ (d : Device) (ok : Suited d) (a : Offset) (w x : ℕ) (yes : answered d (Write a w x) ≡ true) where
  write_does : (f i : ℕ) → action d (Write a w x) f i ≡ action_from (Write a w x) d.views Kept f i
  write_does f i = ap (λ (b : Bool). if b then action_from (Write a w x) d.views Kept f i else Kept) yes

  -- a bit that one view writes has that view's action
  write_sole : Alone d a w → (k i : ℕ) → Shown d.views k i → writes_bit a w (view_in d.views k) i ≡ true
      → action d (Write a w x) (view_in d.views k).index i ≡ write_action (view_in d.views k).field.values.onwrite (word_bit a x (view_in d.views k) i)
  write_sole l k i p e =
      let c = view_in d.views k in
      write_does c.index i
      ∙ composed_sole (Write a w x) c.index i d.views Kept k p.row refl
      (λ j q r n. ap (λ (b : Bool). if b then write_action (view_in d.views j).field.values.onwrite (word_bit a x (view_in d.views j) i) else Kept)
      (fails (writes_bit a w (view_in d.views j) i) (λ z. n (l.alone j k i q p r z e))))
      ∙ kept_followed (bit_action (Write a w x) c i)
      ∙ ap (λ (b : Bool). if b then write_action c.field.values.onwrite (word_bit a x c i) else Kept) e

  -- a write that the criterion lets be made again may be: this needs no view to be alone
  pub write_safe : repeats d.views (Write a w x) ≡ true → (s : List ℕ) → fits d.sizes s ≡ true
      → after d (Write a w x) (after d (Write a w x) s) ≡ after d (Write a w x) s
  write_safe r s h =
      same_twice d ok (Write a w x) s h
      (λ f i p q. composed_calm (Write a w x) f i d.views Kept (λ z. let y : ◌≡◌ {A = ℕ} 0 1 = cc in omega arith)
      (λ k n e. let c = view_in d.views k in let b = word_bit a x c i in
      again_lets (writes_bit a w c i) (inverted_by c.field.values b) (write_action c.field.values.onwrite b)
      (inverted_by_lem c.field.values b) (repeats_at d.views (Write a w x) r k i (stored_shown d ok f i p k n e)))
      (sym (write_does f i) ∙ q))

  -- made twice from this store, a write leaves the store as made once exactly when no reached bit is inverted
  pub retry_write_at : Alone d a w → (s : List ℕ) → fits d.sizes s ≡ true
      → (after d (Write a w x) (after d (Write a w x) s) ≡ after d (Write a w x) s) ↔ (repeats d.views (Write a w x) ≡ true)
  retry_write_at l s h = (forth, λ r. write_safe r s h)
    where
      forth : after d (Write a w x) (after d (Write a w x) s) ≡ after d (Write a w x) s → repeats d.views (Write a w x) ≡ true
      forth e =
          repeats_made d.views (Write a w x)
          (λ k i p. let c = view_in d.views k in let b = word_bit a x c i in
          not_both (writes_bit a w c i) (inverted_by c.field.values b)
          (λ g. fails (inverted_by c.field.values b)
          (λ v. inverts_none d ok (Write a w x) s h e c.index i (shown_stored d ok k i p)
          (write_sole l k i p g ∙ by_inverted c.field.values b v))))

  -- the same over every fitting store
  pub retry_write : Alone d a w
      → ((s : List ℕ) → Fitting d.sizes s → after d (Write a w x) (after d (Write a w x) s) ≡ after d (Write a w x) s) ↔ (repeats d.views (Write a w x) ≡ true)
  retry_write l =
      let zeros : Fitting d.sizes (replicate (length d.sizes) 0) = record { fitting = zeros_fit d.sizes; words = zeros_words (length d.sizes) } in (
        (λ k. (retry_write_at l (replicate (length d.sizes) 0) zeros.fitting).0 (k (replicate (length d.sizes) 0) zeros)),
        (λ r s h. write_safe r s h.fitting),
      )

-- ---- a read made twice

abbrev clears : FieldType → Bool
clears v = eqb v.onread (read_code onread.Rclr)

abbrev sets : FieldType → Bool
sets v = eqb v.onread (read_code onread.Rset)

-- a field that reading changes in no way keeps its bits
read_kept : (v : FieldType) → changed_by_reading v ≡ false → read_action v.onread ≡ Kept
read_kept v e =
    read_keeps v.onread (eqb-false v.onread (read_code onread.Rclr) (or_left (clears v) (sets v) e))
    (eqb-false v.onread (read_code onread.Rset) (or_right (clears v) (sets v) e))

-- and the other way round
kept_read_lem : (v : FieldType) → read_action v.onread ≡ Kept → changed_by_reading v ≡ false
unfolding read_action
kept_read_lem v e = go (clears v) (sets v) e
  where
    go : (b d : Bool) → (if b then Cleared else if d then Set else Kept) ≡ Kept → b || d ≡ false
    go true d e = absurd (let z : ◌≡◌ {A = ℕ} 0 1 = cc in omega arith)
    go false true e = absurd (let z : ◌≡◌ {A = ℕ} 0 1 = cc in omega arith)
    go false false e = refl

-- no read inverts
pub read_calm : (a : Offset) (w : ℕ) (c : View) (i : ℕ) → bit_action (Read a w) c i ≡ Inverted → ⊥
unfolding read_action
read_calm a w c i e = go (reaches_bit a w c i) (clears c.field.values) (sets c.field.values) e
  where
    go : (g b d : Bool) → (if g then (if b then Cleared else if d then Set else Kept) else Kept) ≡ Inverted → ⊥
    go true true d e = let z : ◌≡◌ {A = ℕ} 0 1 = cc in omega arith
    go true false true e = let z : ◌≡◌ {A = ℕ} 0 1 = cc in omega arith
    go true false false e = let z : ◌≡◌ {A = ℕ} 0 1 = cc in omega arith
    go false b d e = let z : ◌≡◌ {A = ℕ} 0 1 = cc in omega arith

-- the bits that an action clears
abbrev is_cleared : Action → Bool
is_cleared Kept = false
is_cleared Cleared = true
is_cleared Set = false
is_cleared Inverted = false

-- an action that leaves a 0 leaves nothing of the bits that it clears, and clearing none it keeps
all_cleared : (t : Action) → apply t false ≡ false → apply t (is_cleared t) ≡ false
all_cleared Kept e = refl
all_cleared Cleared e = refl
all_cleared Set e = e
all_cleared Inverted e = e

kept_only : (t : Action) → apply t false ≡ false → is_cleared t ≡ false → t ≡ Kept
kept_only Kept e q = refl
kept_only Cleared e q = differ q
kept_only Set e q = differ e
kept_only Inverted e q = differ e

-- a read that the criterion lets be made again changes no stored bit
pub read_keeps_all : (d : Device) → Suited d → (a : Offset) (w : ℕ) → repeats d.views (Read a w) ≡ true → (f i : ℕ) → Stored d.sizes f i
    → action_from (Read a w) d.views Kept f i ≡ Kept
read_keeps_all d ok a w r f i p =
    composed_kept (Read a w) f i d.views Kept
    (λ k n e. let c = view_in d.views k in
    by k (reaches_bit a w c i) (changed_by_reading c.field.values) refl refl n (repeats_at d.views (Read a w) r k i (stored_shown d ok f i p k n e)))
  where
    by : (k : ℕ) (g b : Bool) → reaches_bit a w (view_in d.views k) i ≡ g → changed_by_reading (view_in d.views k).field.values ≡ b
        → k < length d.views → not ((is_readable (view_in d.views k).field.values && g) && b) ≡ true
        → (if g then read_action (view_in d.views k).field.values.onread else Kept) ≡ Kept
    by k false b e q n u = refl
    by k true false e q n u = read_kept (view_in d.views k).field.values q
    by k true true e q n u =
        differ (not_second (is_readable (view_in d.views k).field.values && true) true u
        (ap (λ (z : Bool). z && true) ((ok.each k n).usable q)))

-- whatever else a store holds: a step that acts on the stored bits as the read does, from stores that have any bits
module _ (d : Device) (ok : Suited d) (a : Offset) (w : ℕ) (step : List ℕ → List ℕ) (Good : List ℕ → Type 0)
    (does : (s : List ℕ) → Good s → (f i : ℕ) → Stored d.sizes f i
    → bits_of (step s) f i ≡ apply (action_from (Read a w) d.views Kept f i) (bits_of s f i))
    (make : (ℕ → ℕ → Bool) → List ℕ) (good : (b : ℕ → ℕ → Bool) → Good (make b))
    (made : (b : ℕ → ℕ → Bool) (f i : ℕ) → Stored d.sizes f i → bits_of (make b) f i ≡ b f i) where
  abbrev does_to : ℕ → ℕ → Action
  does_to f i = action_from (Read a w) d.views Kept f i

  abbrev Same : Type 0
  Same = (s : List ℕ) → Good s → word_from d (Read a w) (bits_of (step s)) ≡ word_from d (Read a w) (bits_of s)

  -- equal words, for any bits in the store
  stable : Same → (b : ℕ → ℕ → Bool) (j : ℕ) → j < w
      → gives d.views a w (λ f i. apply (does_to f i) (b f i)) j ≡ gives d.views a w b j
  stable k b j h =
      let s = make b in
      gives_cong d.views a w (λ f i. apply (does_to f i) (b f i)) (bits_of (step s)) j h
      (λ n i p e. let f = (view_in d.views n).index in let q = shown_stored d ok n i p in
      ap (apply (does_to f i)) (sym (made b f i q)) ∙ sym (does s (good b) f i q))
      ∙ sym (bit-number w (gives d.views a w (bits_of (step s))) j h)
      ∙ ap (λ (n : ℕ). bit n j) (k s (good b))
      ∙ bit-number w (gives d.views a w (bits_of s)) j h
      ∙ gives_cong d.views a w (bits_of s) b j h (λ n i p e. made b (view_in d.views n).index i (shown_stored d ok n i p))

  -- a bit that is read is 0 where the word's bits are
  none_at : (b : ℕ → ℕ → Bool) (k i : ℕ) → Shown d.views k i → reads_bit a w (view_in d.views k) i ≡ true
      → gives d.views a w b (word_index a (view_in d.views k) i) ≡ false → b (view_in d.views k).index i ≡ false
  none_at b k i p e q =
      let c = view_in d.views k in
      sym (field_at a w c (b c.index) i p.place e) ∙ gives_each d.views a w b (word_index a c i) k p.row q

  -- a bit that is read is left 0 if it is
  zero_left : Same → (k i : ℕ) → Shown d.views k i → reads_bit a w (view_in d.views k) i ≡ true
      → apply (does_to (view_in d.views k).index i) false ≡ false
  zero_left m k i p e =
      let j = word_index a (view_in d.views k) i in
      none_at (λ g n. apply (does_to g n) false) k i p e
      (stable m (λ g n. false) j (word_inside a w (view_in d.views k) i p.place e) ∙ gives_none d.views a w j)

  -- and not cleared
  clears_none : Same → (k i : ℕ) → Shown d.views k i → reads_bit a w (view_in d.views k) i ≡ true
      → is_cleared (does_to (view_in d.views k).index i) ≡ false
  clears_none m k i p e =
      let j = word_index a (view_in d.views k) i in
      let h = word_inside a w (view_in d.views k) i p.place e in
      let b : ℕ → ℕ → Bool = λ g n. is_cleared (does_to g n) in
      none_at b k i p e
      (sym (stable m b j h)
      ∙ gives_cong d.views a w (λ g n. apply (does_to g n) (b g n)) (λ g n. false) j h
      (λ g n r u. all_cleared (does_to (view_in d.views g).index n) (zero_left m g n r u))
      ∙ gives_none d.views a w j)

  pub read_again :
      ((s : List ℕ) → Good s → word_from d (Read a w) (bits_of (step s)) ≡ word_from d (Read a w) (bits_of s)) ↔ (repeats d.views (Read a w) ≡ true)
  read_again = (forth, back)
    where
      back : repeats d.views (Read a w) ≡ true → Same
      back r s h =
          word_cong d a w (bits_of (step s)) (bits_of s)
          (λ k i p e. let f = (view_in d.views k).index in let q = shown_stored d ok k i p in
          does s h f i q ∙ ap (λ (t : Action). apply t (bits_of s f i)) (read_keeps_all d ok a w r f i q))

      forth : Same → repeats d.views (Read a w) ≡ true
      forth m =
          repeats_made d.views (Read a w)
          (λ k i p. let c = view_in d.views k in
          not_both (reads_bit a w c i) (changed_by_reading c.field.values)
          (λ e. kept_read_lem c.field.values
          (sym (ap (λ (g : Bool). if g then read_action c.field.values.onread else Kept) (and_right (is_readable c.field.values) (reaches_bit a w c i) e))
          ∙ kept_each (Read a w) c.index i d.views Kept (λ n q. read_calm a w (view_in d.views n) i)
          (kept_only (does_to c.index i) (zero_left m k i p e) (clears_none m k i p e))
          k p.row refl)))

module _ (d : Device) (ok : Suited d) (a : Offset) (w : ℕ) (yes : answered d (Read a w) ≡ true) where
  read_does : (f i : ℕ) → action d (Read a w) f i ≡ action_from (Read a w) d.views Kept f i
  read_does f i = ap (λ (b : Bool). if b then action_from (Read a w) d.views Kept f i else Kept) yes

  -- a read that the criterion lets be made again changes nothing
  pub read_safe : repeats d.views (Read a w) ≡ true → (s : List ℕ) → fits d.sizes s ≡ true → after d (Read a w) s ≡ s
  read_safe r s h =
      after_under d ok (Read a w) s h
      ∙ under_ext d.sizes (action d (Read a w)) (λ f i. Kept) s (λ f i p. read_does f i ∙ read_keeps_all d ok a w r f i p)
      ∙ under_kept d.sizes s h

  -- made twice it gives equal words from every fitting store exactly when it reaches no readable bit that reading clears or sets
  pub retry_read :
      ((s : List ℕ) → Fitting d.sizes s → word_from d (Read a w) (bits_of (after d (Read a w) s)) ≡ word_from d (Read a w) (bits_of s))
      ↔ (repeats d.views (Read a w) ≡ true)
  retry_read =
      read_again d ok a w (after d (Read a w)) (Fitting d.sizes)
      (λ s h f i p. after-bit d ok (Read a w) s h.fitting f i p ∙ ap (λ (t : Action). apply t (bits_of s f i)) (read_does f i))
      (store_of d.sizes) (store_of_fitting d.sizes ok.narrow) (store_of_bit d.sizes)

-- ---- what a read depends on

-- two stores alike in the bits that a read reaches give it the same answer
pub same_answer : (d : Device) (a : Offset) (w : ℕ) (s t : List ℕ)
    → ((k i : ℕ) → Shown d.views k i → reaches_bit a w (view_in d.views k) i ≡ true
    → bits_of s (view_in d.views k).index i ≡ bits_of t (view_in d.views k).index i)
    → answer_from d (Read a w) (bits_of s) ≡ answer_from d (Read a w) (bits_of t)
same_answer d a w s t h =
    ap (answer_with (refusal d (Read a w)))
    (word_cong d a w (bits_of s) (bits_of t)
    (λ k i p e. h k i p (and_right (is_readable (view_in d.views k).field.values) (reaches_bit a w (view_in d.views k) i) e)))

-- ---- where a view is alone

-- where no number is written through two registers at once
pub alone_registers : (d : Device) (a : Offset) (w : ℕ)
    → ((j k : ℕ) → j < length d.views → k < length d.views → (view_in d.views j).index ≡ (view_in d.views k).index
    → is_writable (view_in d.views j).field.values ≡ true → is_writable (view_in d.views k).field.values ≡ true
    → reaches a w (view_in d.views j) ≡ true → reaches a w (view_in d.views k) ≡ true → j ≡ k)
    → Alone d a w
alone_registers d a w h =
    record {
      alone = λ j k i p q e u v. let c = view_in d.views j in let b = view_in d.views k in
          h j k p q.row e (and_left (is_writable c.field.values) (reaches_bit a w c i) u) (and_left (is_writable b.field.values) (reaches_bit a w b i) v)
          (reached c i u) (reached b i v);
    }
  where
    reached : (c : View) (i : ℕ) → writes_bit a w c i ≡ true → reaches a w c ≡ true
    reached c i u =
        let g = reaches a w c in
        let l = leb (part_low a c).0 (place_of c i).0 in
        let n = ltb (place_of c i).0 ((part_low a c).0 + w) in
        and_left g l (and_left (g && l) n (and_right (is_writable c.field.values) (g && l && n) u))

-- where each view has a number of its own, as before request 4
pub alone_own : (d : Device) (a : Offset) (w : ℕ) → ((k : ℕ) → k < length d.views → (view_in d.views k).index ≡ k) → Alone d a w
alone_own d a w h = record { alone = λ j k i p q e u v. sym (h j p) ∙ e ∙ h k q.row }
