-- Demand 3 of the store: after a list of accesses it is the starting one under the table of actions.
use mathlib.Core.Path.{◌≡◌, refl, sym, ap, ◌∙◌, subst, fun_ext}
use mathlib.Core.Bool.{Bool, true, false, ◌&&◌}
use mathlib.Core.List.{List, [], ◌∷◌, ◌++◌}
use Prim.Native.Nat.{ℕ, suc, ◌+◌, ◌^◌, ◌<◌, zero-le, suc-le-suc}
use lib.ListN.{length, get_or, set, drop}
use lib.Dec.{eqb, leb, ltb}
use Rattle.std.specs.Prelude.{if◌then◌else◌}
use Rattle.chars.proofs.Laws.{and_false}
use Rattle.bits.specs.Bits.{bit}
use Rattle.bits.proofs.BitLaws.{number_ext, number_bit}
use Rattle.actions.specs.declared.Action.{Action}
use Rattle.actions.specs.declared.Action.TheVariants.{Kept}
use Rattle.actions.specs.Actions.{apply, followed_by, write_action, read_action}
use Rattle.actions.proofs.ActionLaws.{kept_followed, followed_assoc}
use Rattle.model.specs.declared.View.{View}
use Rattle.model.specs.declared.Access.{Access}
use Rattle.model.specs.declared.Access.TheVariants.{Read, Write}
use Rattle.fields.specs.Fields.{is_writable}
use Rattle.model.specs.Model.{Device, size, fits, Words, Fitting, address_of, width_of, reaches, part_low, place_of, word_bit, bit_action, acted, view_after, stepped, answered, after, bits_of, view_in}
use Rattle.model.specs.Lists.{action_from, action, table_from, table, run, Stored}
use Rattle.model.specs.Suited.{SuitedView, Suited}
use Rattle.model.proofs.Fits.{fits_at_lem}
use Rattle.model.proofs.Under.{under, bit_under, fits_under, under_kept, under_under, under_past, words_under, only, set_under}

-- ---- one view

-- a view whose register is not reached keeps its bits
pub unreached : (x : Access) (c : View) (i : ℕ) → reaches (address_of x) (width_of x) c ≡ false → bit_action x c i ≡ Kept
unreached (Read a w) c i e =
    ap
    (λ (b : Bool). if b && leb (part_low a c).0 (place_of c i).0 && ltb (place_of c i).0 ((part_low a c).0 + w)
    then read_action c.field.values.onread else Kept)
    e
unreached (Write a w x) c i e =
    ap
    (λ (b : Bool). if is_writable c.field.values && (b && leb (part_low a c).0 (place_of c i).0 && ltb (place_of c i).0 ((part_low a c).0 + w))
    then write_action c.field.values.onwrite (word_bit a x c i) else Kept)
    e
    ∙ ap (λ (b : Bool). if b then write_action c.field.values.onwrite (word_bit a x c i) else Kept) (and_false (is_writable c.field.values))

number-acted : (x : Access) (c : View) (v : ℕ) → v < 2 ^ size c → (b : Bool) → reaches (address_of x) (width_of x) c ≡ b
    → (if b then acted (size c) (bit_action x c) v else v) ≡ acted (size c) (bit_action x c) v
number-acted x c v h true e = refl
number-acted x c v h false e =
    sym (number_bit (size c) v h)
    ∙ number_ext (size c) (bit v) (λ i. apply (bit_action x c i) (bit v i))
    (λ i k. ap (λ (t : Action). apply t (bit v i)) (sym (unreached x c i e)))

view_under : (m : List ℕ) (x : Access) (c : View) (s : List ℕ) → SuitedView m c → fits m s ≡ true
    → view_after x c s ≡ under m (only c.index (bit_action x c)) s
view_under m x c s p h =
    ap (set s c.index)
    (number-acted x c (get_or s c.index 0) (subst (λ (n : ℕ). get_or s c.index 0 < 2 ^ n) p.same (fits_at_lem m s h c.index p.row))
    (reaches (address_of x) (width_of x) c) refl
    ∙ ap (λ (n : ℕ). acted n (bit_action x c) (get_or s c.index 0)) (sym p.same))
    ∙ set_under m c.index (bit_action x c) s h p.row

-- ---- one access

pub followed_if : (b : Bool) (t u : Action) → followed_by t (if b then u else Kept) ≡ (if b then followed_by t u else t)
followed_if true t u = refl
followed_if false t u = refl

-- each of some views is one of a store with so many bits in each number
abbrev pub AllSuited : List ℕ → List View → Type 0
AllSuited m cs = (k : ℕ) → k < length cs → SuitedView m (view_in cs k)

-- "the registers act one after another": the views of a number act on it in their order
stepped_under : (m : List ℕ) (x : Access) (cs : List View) → AllSuited m cs → (u : ℕ → ℕ → Action) (s : List ℕ) → fits m s ≡ true
    → stepped x cs (under m u s) ≡ under m (λ f i. action_from x cs (u f i) f i) s
unfolding stepped action_from
stepped_under m x [] p u s h = refl
stepped_under m x (c ∷ cs) p u s h =
    ap (stepped x cs)
    (view_under m x c (under m u s) (p 0 (suc-le-suc zero-le)) (fits_under m u s h) ∙ under_under m u (only c.index (bit_action x c)) s)
    ∙ stepped_under m x cs (λ k q. p (suc k) (suc-le-suc q)) (λ f i. followed_by (u f i) (only c.index (bit_action x c) f i)) s h
    ∙ ap (λ (t : ℕ → ℕ → Action). under m t s)
    (fun_ext (λ f. fun_ext (λ i. ap (λ (t : Action). action_from x cs t f i) (followed_if (eqb c.index f) (u f i) (bit_action x c i)))))

chosen : (m : List ℕ) (s : List ℕ) → fits m s ≡ true → (b : Bool) (t : ℕ → ℕ → Action) (l : List ℕ) → l ≡ under m t s
    → (if b then l else s) ≡ under m (λ f i. if b then t f i else Kept) s
chosen m s h true t l e = e
chosen m s h false t l e = sym (under_kept m s h)

module _ (d : Device) (ok : Suited d) where
  -- one access leaves the store under its actions
  pub after_under : (x : Access) (s : List ℕ) → fits d.sizes s ≡ true → after d x s ≡ under d.sizes (action d x) s
  after_under x s h =
      chosen d.sizes s h (answered d x) (action_from x d.views Kept) (stepped x d.views s)
      (ap (stepped x d.views) (sym (under_kept d.sizes s h))
      ∙ stepped_under d.sizes x d.views ok.each (λ f i. Kept) s h)

  pub fits_after : (x : Access) (s : List ℕ) → fits d.sizes s ≡ true → fits d.sizes (after d x s) ≡ true
  fits_after x s h = subst (λ (l : List ℕ). fits d.sizes l ≡ true) (sym (after_under x s h)) (fits_under d.sizes (action d x) s h)

  pub fitting-after : (x : Access) (s : List ℕ) → Fitting d.sizes s → Fitting d.sizes (after d x s)
  fitting-after x s h =
      record {
        fitting = fits_after x s h.fitting;
        words = subst Words (sym (after_under x s h.fitting)) (words_under d.sizes (action d x) s ok.narrow h.words);
      }

  pub after-bit : (x : Access) (s : List ℕ) → fits d.sizes s ≡ true → (f i : ℕ) → Stored d.sizes f i
      → bits_of (after d x s) f i ≡ apply (action d x f i) (bits_of s f i)
  after-bit x s h f i p = ap (λ (l : List ℕ). bits_of l f i) (after_under x s h) ∙ bit_under d.sizes (action d x) s h f i p

-- ---- lists of accesses

module _ (d : Device) where
  table_from_lem : (xs : List Access) (t : Action) (f i : ℕ) → table_from d xs t f i ≡ followed_by t (table d xs f i)
  unfolding table_from
  table_from_lem [] t f i = refl
  table_from_lem (x ∷ xs) t f i =
      table_from_lem xs (followed_by t (action d x f i)) f i
      ∙ followed_assoc t (action d x f i) (table d xs f i)
      ∙ ap (followed_by t) (ap (λ (a : Action). followed_by a (table d xs f i)) (sym (kept_followed (action d x f i)))
      ∙ sym (table_from_lem xs (followed_by Kept (action d x f i)) f i))

  table_cons : (x : Access) (xs : List Access) (f i : ℕ) → table d (x ∷ xs) f i ≡ followed_by (action d x f i) (table d xs f i)
  unfolding table_from
  table_cons x xs f i =
      ap (λ (a : Action). table_from d xs a f i) (kept_followed (action d x f i)) ∙ table_from_lem xs (action d x f i) f i

  from_join : (xs ys : List Access) (t : Action) (f i : ℕ) → table_from d (xs ++ ys) t f i ≡ table_from d ys (table_from d xs t f i) f i
  unfolding table_from
  from_join [] ys t f i = refl
  from_join (x ∷ xs) ys t f i = from_join xs ys (followed_by t (action d x f i)) f i

  -- the table of two lists joined is the first's followed by the second's
  pub table_join : (xs ys : List Access) (f i : ℕ) → table d (xs ++ ys) f i ≡ followed_by (table d xs f i) (table d ys f i)
  table_join xs ys f i = from_join xs ys Kept f i ∙ table_from_lem ys (table d xs f i) f i

module _ (d : Device) (ok : Suited d) where
  -- the whole list: the store afterwards is the starting one under the table
  pub run_under : (xs : List Access) (s : List ℕ) → fits d.sizes s ≡ true → run d xs s ≡ under d.sizes (table d xs) s
  unfolding run table_from
  run_under [] s h = sym (under_kept d.sizes s h)
  run_under (x ∷ xs) s h =
      run_under xs (after d x s) (fits_after d ok x s h)
      ∙ ap (under d.sizes (table d xs)) (after_under d ok x s h)
      ∙ under_under d.sizes (action d x) (table d xs) s
      ∙ ap (λ (t : ℕ → ℕ → Action). under d.sizes t s) (fun_ext (λ f. fun_ext (λ i. sym (table_cons d x xs f i))))

  pub run_fits : (xs : List Access) (s : List ℕ) → fits d.sizes s ≡ true → fits d.sizes (run d xs s) ≡ true
  run_fits xs s h = subst (λ (l : List ℕ). fits d.sizes l ≡ true) (sym (run_under xs s h)) (fits_under d.sizes (table d xs) s h)

  pub run-fitting : (xs : List Access) (s : List ℕ) → Fitting d.sizes s → Fitting d.sizes (run d xs s)
  run-fitting xs s h =
      record {
        fitting = run_fits xs s h.fitting;
        words = subst Words (sym (run_under xs s h.fitting)) (words_under d.sizes (table d xs) s ok.narrow h.words);
      }

  -- each stored bit afterwards is the starting bit kept, cleared, set or inverted as the table says
  pub run-bit : (xs : List Access) (s : List ℕ) → fits d.sizes s ≡ true → (f i : ℕ) → Stored d.sizes f i
      → bits_of (run d xs s) f i ≡ apply (table d xs f i) (bits_of s f i)
  run-bit xs s h f i p =
      ap (λ (l : List ℕ). bits_of l f i) (run_under xs s h) ∙ bit_under d.sizes (table d xs) s h f i p

  -- numbers past the last stay
  pub run_past : (xs : List Access) (s : List ℕ) → fits d.sizes s ≡ true → drop (length d.sizes) (run d xs s) ≡ drop (length d.sizes) s
  run_past xs s h = ap (drop (length d.sizes)) (run_under xs s h) ∙ under_past d.sizes (table d xs) s
