-- Laws of fields and the bits that they close: a cover answers whether a field overlaps an earlier one unlawfully.
use mathlib.Core.Bool.{Bool, true, false, ◌||◌, not, or-false}
use mathlib.Core.Path.{◌≡◌, refl, sym, ap₂, ◌∙◌}
use mathlib.Core.List.{List, [], ◌∷◌, ◌++◌, append-nil}
use Prim.Native.Nat.{ℕ, ◌+◌, ◌<◌, ◌≤◌}
use native.Mathlib.Omega.{arith}
use borrow.Author.Tests.{not-false}
use Rattle.fields.specs.Fields.{breaks, is_overlap}
use Rattle.fields.specs.declared.BitPlace.{BitPlace}
use Rattle.fields.specs.declared.FieldAt.{FieldAt}
use Rattle.fields.specs.declared.Probe.TheVariants.{Overlap}
use Rattle.cover.specs.Covers.{is_narrow, meets_in, cover_with, nothing_covered}
use Rattle.cover.specs.declared.Cover.{Cover}
use Rattle.cover.proofs.Laws.{meets_nothing, meets_with}
use Rattle.basics.specs.Slices.{cell_of}
use Rattle.closing_rules.specs.Registers.{bit_above, with_placed, first_bit, some, overlaps}
use Rattle.cells.specs.Cells.{entry_places}
use Rattle.closing_rules.specs.Decoded.{placed_in, fields_between, overlaps_earlier, is_narrow_in, meets_placed, cover_with_placed}
use Rattle.closing_rules.proofs.Overlaps.{some-append}
use Rattle.closing_rules.proofs.Laws.{Passing, pass_start, fields_none, fields_last, overlap_here, overlap_on}
use Rattle.std.specs.Prelude.{Option, Some, None}

-- a cover stands for these fields: it answers for every narrow field what they answer
pub record Answers (c : Cover) (fs : List FieldAt) : Type 0 where
  pub same : (f : FieldAt) → is_narrow f ≡ true → meets_in c f ≡ some (Overlap f) fs

answers_none : Answers nothing_covered []
unfolding some
answers_none = record { same = λ f n. meets_nothing f }

answers_more : {c : Cover} {fs : List FieldAt} (g : FieldAt) → is_narrow g ≡ true → Answers c fs → Answers (cover_with c g) (fs ++ (g ∷ []))
unfolding some breaks
answers_more {c} {fs} g m s =
    record {
      same = λ f n. meets_with c f g n m ∙ ap₂ (λ (x y : Bool). x || y) (s.same f n) (sym (or-false (is_overlap f g))) ∙ sym (some-append (Overlap f) fs (g ∷ []));
    }

answers-placed : {c : Cover} {fs : List FieldAt} (p : Option FieldAt) → is_narrow_in p ≡ true → Answers c fs → Answers (cover_with_placed c p) (fs ++ with_placed p [])
answers-placed (Some g) m s = answers_more g m s
answers-placed {c} {fs} None m s = rw (append-nil fs) s

answers_met : {c : Cover} {fs : List FieldAt} (p : Option FieldAt) → is_narrow_in p ≡ true → Answers c fs → meets_placed c p ≡ overlaps_earlier p fs
answers_met (Some g) m s = s.same g m
answers_met None m s = refl

-- one placed instance, in the form that the proofs use
module _ (p : Option FieldAt) where
  pub narrow_told : {b : Bool} → b ≡ is_narrow_in p → not b ≡ false → is_narrow_in p ≡ true
  narrow_told {b} e h = sym e ∙ not-false b h

-- of the fields that are passed none overlaps another, and the cover stands for them
pub record Covering (text t : List ℕ) (from to i : ℕ) (next : BitPlace) (c : Cover) : Type 0 where
  pub passing : Passing text t from to i next
  pub answers : Answers c (fields_between text t from i)

module _ (text t : List ℕ) (from to : ℕ) where
  pub cover_start : {c : Cover} → to ≤ entry_places → c ≡ nothing_covered → Covering text t from to from first_bit c
  cover_start h e = record { passing = pass_start text t from to h; answers = rw (e, fields_none text t first_bit from from (omega arith)) answers_none }

  module _ {i : ℕ} {next : BitPlace} {c : Cover} (s : Covering text t from to i next c) {p : Option FieldAt} {n b : Bool}
      (h : i < to) (f : p ≡ placed_in text t next (cell_of t i)) (m : n ≡ is_narrow_in p) (k : not n ≡ false) (g : b ≡ meets_placed c p) where
    met : b ≡ overlaps_earlier p (fields_between text t from i)
    met = g ∙ answers_met p (narrow_told p m k) s.answers

    pub cover_here : b ≡ true → true ≡ overlaps (fields_between text t from to)
    cover_here y = overlap_here text t from to s.passing h f met y

    pub cover_on : {d : Cover} {above : BitPlace} → b ≡ false → d ≡ cover_with_placed c p → above ≡ bit_above p next → Covering text t from to (i + 1) above d
    cover_on y w z =
        record {
          passing = overlap_on text t from to s.passing h f met y z;
          answers = rw (w, fields_last text t from to s.passing h f met) (answers-placed p (narrow_told p m k) s.answers);
        }
