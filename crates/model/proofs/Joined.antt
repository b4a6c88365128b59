-- Views joined: what loops over register rows and field rows need. Assumes nothing of the views.
use mathlib.Core.Path.{◌≡◌, refl, sym, ap, ◌∙◌, fun_ext}
use mathlib.Core.Bool.{Bool, true, false, ◌&&◌, ◌||◌}
use mathlib.Core.List.{List, [], ◌∷◌, ◌++◌}
use Prim.Native.Nat.{ℕ}
use lib.Bits.{bit_or}
use lib.ListN.{length, get_or, length-set}
use Rattle.fields.specs.declared.Offset.{Offset}
use Rattle.bits.specs.Bits.{number}
use Rattle.bits.proofs.BitLaws.{or_number}
use Rattle.model.specs.declared.View.{View}
use Rattle.model.specs.declared.Access.{Access}
use Rattle.model.specs.Model.{size, number_after, view_after, stepped, field_gives, gives}
use Rattle.model.specs.Repeats.{all_below, repeats_bit, repeats}

-- ---- the store

pub length-stepped : (x : Access) (cs : List View) (s : List ℕ) → length (stepped x cs s) ≡ length s
unfolding stepped
length-stepped x [] s = refl
length-stepped x (c ∷ cs) s = length-stepped x cs (view_after x c s) ∙ length-set s c.index (number_after x c (get_or s c.index 0))

-- the views of one register behind those of the registers before it
pub stepped_join : (x : Access) (cs es : List View) (s : List ℕ) → stepped x (cs ++ es) s ≡ stepped x es (stepped x cs s)
unfolding stepped
stepped_join x [] es s = refl
stepped_join x (c ∷ cs) es s = stepped_join x cs es (view_after x c s)

-- one view more, as a loop adds it: `store[index] = number_after(access, view, store[index])`
pub stepped_more : (x : Access) (cs : List View) (c : View) (s : List ℕ) → stepped x (cs ++ (c ∷ [])) s ≡ view_after x c (stepped x cs s)
unfolding stepped
stepped_more x cs c s = stepped_join x cs (c ∷ []) s

-- ---- the word

or_assoc : (p q r : Bool) → p || (q || r) ≡ (p || q) || r
or_assoc true q r = refl
or_assoc false q r = refl

gives_join : (cs es : List View) (a : Offset) (w : ℕ) (b : ℕ → ℕ → Bool) (j : ℕ) → gives (cs ++ es) a w b j ≡ gives cs a w b j || gives es a w b j
unfolding gives
gives_join [] es a w b j = refl
gives_join (c ∷ cs) es a w b j =
    ap (λ (r : Bool). field_gives a w c (b c.index) j || r) (gives_join cs es a w b j)
    ∙ or_assoc (field_gives a w c (b c.index) j) (gives cs a w b j) (gives es a w b j)

pub word_join : (cs es : List View) (a : Offset) (w : ℕ) (b : ℕ → ℕ → Bool)
    → bit_or (number w (gives cs a w b)) (number w (gives es a w b)) ≡ number w (gives (cs ++ es) a w b)
word_join cs es a w b =
    or_number w (gives cs a w b) (gives es a w b) ∙ ap (number w) (fun_ext (λ j. sym (gives_join cs es a w b j)))

or_none : (p : Bool) → p || false ≡ p
or_none true = refl
or_none false = refl

-- one view more
pub word_more : (cs : List View) (c : View) (a : Offset) (w : ℕ) (b : ℕ → ℕ → Bool)
    → bit_or (number w (gives cs a w b)) (number w (field_gives a w c (b c.index))) ≡ number w (gives (cs ++ (c ∷ [])) a w b)
unfolding gives
word_more cs c a w b =
    ap (λ (f : ℕ → Bool). bit_or (number w (gives cs a w b)) (number w f)) (fun_ext (λ j. sym (or_none (field_gives a w c (b c.index) j))))
    ∙ word_join cs (c ∷ []) a w b

-- ---- the criterion

and_assoc : (p q r : Bool) → p && (q && r) ≡ (p && q) && r
and_assoc true q r = refl
and_assoc false q r = refl

pub repeats_join : (x : Access) (cs es : List View) → repeats (cs ++ es) x ≡ repeats cs x && repeats es x
unfolding repeats
repeats_join x [] es = refl
repeats_join x (c ∷ cs) es =
    ap (λ (r : Bool). all_below (size c) (repeats_bit x c) && r) (repeats_join x cs es)
    ∙ and_assoc (all_below (size c) (repeats_bit x c)) (repeats cs x) (repeats es x)
