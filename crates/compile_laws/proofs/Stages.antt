-- What is known of a text that is accepted: its meaning keeps the rules 1 to 17, and its map 18 to 21.
use mathlib.Core.Path.{◌≡◌, refl}
use mathlib.Core.List.{List, []}
use Prim.Native.Nat.{ℕ}
use Rattle.basics.specs.Judged.{first_of, Judged, fault, fine, onward, found, Verdict, Accepted, Refused}
use Rattle.components.proofs.Laws.{first_sound, later_sound}
use Rattle.rules.specs.Judge.{Meaning}
use Rattle.rules.specs.Rules.{ruled}
use Rattle.rows.specs.Rows.{Map}
use Rattle.map_rules.specs.Whole.{map_visits, map_shapes, map_fault, too_many, too_close, misplaced, overlapping}
use Rattle.compile.specs.Compiled.{map_of, mapped, compiled}

pub record Accepting (text : List ℕ) (m : Map) : Type 0 where
  pub meaning : Meaning
  pub rules : ruled text ≡ fine meaning
  pub sound : map_fault meaning ≡ Accepted
  pub same : map_of text meaning ≡ m

found_by : (text : List ℕ) (m : Map) (n : Meaning) (f : Verdict) → ruled text ≡ fine n → map_fault n ≡ f → found f (fine (map_of text n)) ≡ fine m → Accepting text m
found_by text m n Accepted r s e = record { meaning = n; rules = r; sound = s; same = cc }
found_by text m n (Refused k p) r s e = cc

judged_by : (text : List ℕ) (m : Map) (j : Judged Meaning) → ruled text ≡ j → onward j (mapped text) ≡ fine m → Accepting text m
unfolding onward mapped
judged_by text m (fault n p) r e = cc
judged_by text m (fine n) r e = found_by text m n (map_fault n) r refl e

pub accepting : (text : List ℕ) (m : Map) → compiled text ≡ fine m → Accepting text m
unfolding compiled
accepting text m e = judged_by text m (ruled text) refl e

-- 18 and 20 are kept
module _ (m : Meaning) (e : map_fault m ≡ Accepted) where
  behind_many : first_of (too_close (map_visits m)) (first_of (misplaced m.table (map_shapes m) (map_visits m)) (overlapping m.table (map_shapes m) [] (map_visits m))) ≡ Accepted
  unfolding map_fault
  behind_many = later_sound (too_many m.table 0 0 (map_visits m)) _ e

  pub not_many : too_many m.table 0 0 (map_visits m) ≡ Accepted
  unfolding map_fault
  not_many = first_sound (too_many m.table 0 0 (map_visits m)) _ e

  pub not_misplaced : misplaced m.table (map_shapes m) (map_visits m) ≡ Accepted
  not_misplaced = first_sound (misplaced m.table (map_shapes m) (map_visits m)) _ (later_sound (too_close (map_visits m)) _ behind_many)
