-- Some field overlaps a later one exactly where some field overlaps an earlier one.
use mathlib.Core.Bool.{Bool, true, false, ◌||◌, ◌&&◌, or_assoc, or_comm, and_comm}
use mathlib.Core.Path.{◌≡◌, refl, sym, ◌∙◌}
use mathlib.Core.List.{List, [], ◌∷◌, ◌++◌}
use Prim.Native.Nat.{ℕ}
use lib.Dec.{eqb, leb}
use Rattle.fields.specs.Codes.{access_code}
use Rattle.fields.specs.declared.AccessRight.TheVariants as access
use Rattle.fields.specs.Fields.{breaks, is_read_write_pair, is_overlap}
use Rattle.fields.specs.declared.FieldAt.{FieldAt}
use Rattle.fields.specs.declared.Probe.{Probe}
use Rattle.fields.specs.declared.Probe.TheVariants.{Overlap}
use Rattle.closing_rules.specs.Registers.{some, overlaps}

-- an overlap is one of both fields
swapped : (a b c d : Bool) → ((a && b) || (c && d)) ≡ ((d && c) || (b && a))
swapped a b c d = or_comm (a && b) (c && d) ∙ (rw (and_comm c d, and_comm a b))

pair_swapped : (a b : ℕ) → is_read_write_pair a b ≡ is_read_write_pair b a
unfolding is_read_write_pair
pair_swapped a b = swapped (eqb a (access_code access.R)) (eqb b (access_code access.W)) (eqb a (access_code access.W)) (eqb b (access_code access.R))

overlap_swapped : (f g : FieldAt) → is_overlap f g ≡ is_overlap g f
unfolding is_overlap
overlap_swapped f g = rw (and_comm (leb f.low.0 g.high.0) (leb g.low.0 f.high.0), pair_swapped f.values.sw g.values.sw)

breaks_swapped : (f g : FieldAt) → breaks (Overlap f) g ≡ breaks (Overlap g) f
unfolding breaks
breaks_swapped f g = overlap_swapped f g

-- what is asked of more fields
pub some-append : (p : Probe) (fs gs : List FieldAt) → some p (fs ++ gs) ≡ (some p fs || some p gs)
unfolding some
some-append p [] gs = refl
some-append p (f ∷ fs) gs = rw (some-append p fs gs) (sym (or_assoc (breaks p f) (some p fs) (some p gs)))

regrouped : (a b c d : Bool) → ((a || (b || false)) || (c || d)) ≡ ((a || c) || (b || d))
regrouped true b c d = refl
regrouped false true true d = refl
regrouped false true false d = refl
regrouped false false c d = refl

pub overlaps_last : (fs : List FieldAt) (f : FieldAt) → overlaps (fs ++ (f ∷ [])) ≡ (overlaps fs || some (Overlap f) fs)
unfolding overlaps some
overlaps_last [] f = refl
overlaps_last (g ∷ fs) f =
    rw (some-append (Overlap g) fs (f ∷ []), overlaps_last fs f, breaks_swapped f g) (regrouped (some (Overlap g) fs) (breaks (Overlap g) f) (overlaps fs) (some (Overlap f) fs))

or_kept : (a b : Bool) {c d : Bool} → (c ≡ true → d ≡ true) → (a || c) ≡ true → ((a || b) || d) ≡ true
or_kept true b h e = refl
or_kept false true h e = refl
or_kept false false h e = h e

pub overlaps_kept : (fs gs : List FieldAt) → overlaps fs ≡ true → overlaps (fs ++ gs) ≡ true
unfolding overlaps
overlaps_kept [] gs e = cc
overlaps_kept (f ∷ fs) gs e = rw (some-append (Overlap f) fs gs) (or_kept (some (Overlap f) fs) (some (Overlap f) gs) (overlaps_kept fs gs) e)
