-- Reading and writing (document 01): what a software read or write of a map answers, and what it does to the store. A map is here a device:
-- how many bits each number of the store has, and the field rows, each a view of one of these numbers. Document 01's rows show a number of
-- their own each (access/specs/Stored.antt); nothing here asks for that, so that several rows may show one number.
use Rattle.std.specs.Prelude.{◌≡◌, Bool, true, false, ◌&&◌, ◌||◌, List, [], ◌∷◌, ℕ, zero, suc, ◌+◌, ◌*◌, ◌-◌, ◌/◌, ◌%◌, ◌^◌, ◌<◌, eqb, leb, ltb, length, get_or, set, None}
use Rattle.std.specs.Prelude.{if◌then◌else◌}
use Rattle.fields.specs.Codes.{is_width}
use Rattle.fields.specs.declared.BitPlace.{BitPlace}
use Rattle.fields.specs.declared.Offset.{Offset}
use Rattle.fields.specs.declared.Register.{Register}
use Rattle.bits.specs.Bits.{bit, number}
use Rattle.actions.specs.declared.Action.{Action}
use Rattle.actions.specs.declared.Action.TheVariants.{Kept}
use Rattle.actions.specs.Actions.{apply, write_action, read_action}
use Rattle.model.specs.declared.View.{View}
use Rattle.model.specs.declared.Access.{Access}
use Rattle.model.specs.declared.Access.TheVariants.{Read, Write}
use Rattle.fields.specs.Fields.{is_readable, is_writable}
use Rattle.basics.specs.Judged.{Outcome, gave, barred}

pub record Device : Type 0 where
  -- how many bits each number of the store has
  pub sizes : List ℕ
  -- the field rows, in row order
  pub views : List View

-- "Stored bits lie below the field's width in its number"
abbrev pub size : View → ℕ
size c = c.field.high.0 + 1 - c.field.low.0

-- "A store fits if the number of each field row fits that field's width"; it has a number for each
unfoldable pub fits : List ℕ → List ℕ → Bool
fits [] s = true
fits (n ∷ m) [] = false
fits (n ∷ m) (v ∷ s) = ltb v (2 ^ n) && fits m s

-- a store is lent as a slice of 64-bit numbers
pub record Words (s : List ℕ) : Type 0 where
  pub each : (f : ℕ) → f < length s → get_or s f 0 < 2 ^ 64

-- "any fitting store"
pub record Fitting (m : List ℕ) (s : List ℕ) : Type 0 where
  pub fitting : fits m s ≡ true
  pub words : Words s

-- "An access has an address, a width and, for a write, a word"
abbrev pub address_of : Access → Offset
address_of (Read a w) = a
address_of (Write a w x) = a

abbrev pub width_of : Access → ℕ
width_of (Read a w) = w
width_of (Write a w x) = w

-- 23: "access width not 8, 16, 32, 64, or word too wide"
abbrev pub well_formed : Access → Bool
well_formed (Read a w) = is_width w
well_formed (Write a w x) = is_width w && ltb x (2 ^ w)

-- "It reaches a register whose access width is that width if the address is its base plus a whole number of access parts, inside it"
abbrev pub reaches_register : Offset → ℕ → Offset → Register → Bool
reaches_register a w base r =
    eqb r.access w && leb base.0 a.0 && ltb (a.0 - base.0) (r.width / 8) && eqb ((a.0 - base.0) % (w / 8)) 0

abbrev pub reaches : Offset → ℕ → View → Bool
reaches a w c = reaches_register a w c.base c.register

-- "Part k holds register bits from k times the width up": the lowest of the part at an address, 8 bits for each byte from the base
abbrev pub part_low : Offset → View → BitPlace
part_low a c = record { 0 = (a.0 - c.base.0) * 8 }

-- the place in its register of bit i of a field's number
abbrev pub place_of : View → ℕ → BitPlace
place_of c i = record { 0 = c.field.low.0 + i }

-- "the access reaches the field bits there"
abbrev pub reaches_bit : Offset → ℕ → View → ℕ → Bool
reaches_bit a w c i = reaches a w c && leb (part_low a c).0 (place_of c i).0 && ltb (place_of c i).0 ((part_low a c).0 + w)

-- "A write reaches writable fields"
abbrev pub writes_bit : Offset → ℕ → View → ℕ → Bool
writes_bit a w c i = is_writable c.field.values && reaches_bit a w c i

-- "word bit 0 its lowest": the word's bit for bit i of the field
abbrev pub word_bit : Offset → ℕ → View → ℕ → Bool
word_bit a x c i = bit x ((place_of c i).0 - (part_low a c).0)

-- what an answered access does to bit i of a view's number: "then `rclr` clears and `rset` sets the reached bits"; "per bit: plain copies" and
-- so on
abbrev pub bit_action : Access → View → ℕ → Action
bit_action (Read a w) c i = if reaches_bit a w c i then read_action c.field.values.onread else Kept
bit_action (Write a w x) c i = if writes_bit a w c i then write_action c.field.values.onwrite (word_bit a x c i) else Kept

-- a number of n bits with an action on each
abbrev pub acted : ℕ → (ℕ → Action) → ℕ → ℕ
acted n t v = number n (λ i. apply (t i) (bit v i))

-- a view's number after an access that is answered: one whose register is not reached stays
abbrev pub number_after : Access → View → ℕ → ℕ
number_after x c v = if reaches (address_of x) (width_of x) c then acted (size c) (bit_action x c) v else v

-- the store after one view has acted
abbrev pub view_after : Access → View → List ℕ → List ℕ
view_after x c s = set s c.index (number_after x c (get_or s c.index 0))

-- the store after an access that is answered: the views act one after another, in row order; where each shows a number of its own, the order
-- does not show
unfoldable pub stepped : Access → List View → List ℕ → List ℕ
stepped x [] s = s
stepped x (c ∷ cs) s = stepped x cs (view_after x c s)

-- 25: "no register reached"; each register has a field, so a view
unfoldable pub any_reached : List View → Offset → ℕ → Bool
any_reached [] a w = false
any_reached (c ∷ cs) a w = reaches a w c || any_reached cs a w

-- what an access of lawful rows and a fitting store is refused with; 0 for none
abbrev pub refusal : Device → Access → ℕ
refusal d x = if well_formed x then (if any_reached d.views (address_of x) (width_of x) then 0 else 25) else 23

abbrev pub answered : Device → Access → Bool
answered d x = eqb (refusal d x) 0

-- the store after one access: "Refused: .. nothing lent changes"
abbrev pub after : Device → Access → List ℕ → List ℕ
after d x s = if answered d x then stepped x d.views s else s

-- the place in its register of bit j of the word
abbrev pub word_place : Offset → View → ℕ → BitPlace
word_place a c j = record { 0 = (part_low a c).0 + j }

-- "A read answers the readable reached bits (joined by or), 0 elsewhere": bit j of the word, from a view of the bits b
abbrev pub field_gives : Offset → ℕ → View → (ℕ → Bool) → ℕ → Bool
field_gives a w c b j =
    is_readable c.field.values && reaches a w c && leb c.field.low.0 (word_place a c j).0 && leb (word_place a c j).0 c.field.high.0
    && b ((word_place a c j).0 - c.field.low.0)

-- and from all views of the bits `b f i`, bit i of number f, which are those before any effect: "then `rclr` clears"
unfoldable pub gives : List View → Offset → ℕ → (ℕ → ℕ → Bool) → ℕ → Bool
gives [] a w b j = false
gives (c ∷ cs) a w b j = field_gives a w c (b c.index) j || gives cs a w b j

-- the bits of a store
abbrev pub bits_of : List ℕ → ℕ → ℕ → Bool
bits_of s f i = bit (get_or s f 0) i

-- the word of an access that is answered, from the bits: 0 for a write
abbrev pub word_from : Device → Access → (ℕ → ℕ → Bool) → ℕ
word_from d (Read a w) b = number w (gives d.views a w b)
word_from d (Write a w x) b = 0

-- an answer of a refusal, or 0 for none, and a word
abbrev pub answer_with : ℕ → ℕ → Outcome ℕ
answer_with zero word = gave word
answer_with (suc n) word = barred (suc n)

-- what an access answers, from the bits of the store
abbrev pub answer_from : Device → Access → (ℕ → ℕ → Bool) → Outcome ℕ
answer_from d x b = answer_with (refusal d x) (word_from d x b)

-- an answer in document 01's numbers: the refusal or 0, its place, which is always 0, and the word, 0 where it is refused
abbrev pub access_numbers : Outcome ℕ → List ℕ
access_numbers (barred n) = n ∷ 0 ∷ 0 ∷ []
access_numbers (gave w) = 0 ∷ 0 ∷ w ∷ []

-- the same numbers of a refusal, or 0 for none, and a value: "Refused: counts and word are 0"
abbrev pub numbers_with : ℕ → ℕ → List ℕ
numbers_with zero value = 0 ∷ 0 ∷ value ∷ []
numbers_with (suc n) value = suc n ∷ 0 ∷ 0 ∷ []

abbrev pub word_in : Outcome ℕ → ℕ
word_in (barred n) = 0
word_in (gave w) = w

-- view k; past the last, one of no use
abbrev pub no_view : View
no_view =
    record {
      base = record { 0 = 0 };
      register = record { width = 0; access = 0 };
      field = record { low = record { 0 = 0 }; high = record { 0 = 0 }; values = record { sw = 0; hw = 0; onread = 0; onwrite = 0; reset = None } };
      index = 0;
    }

abbrev pub view_in : List View → ℕ → View
view_in cs k = get_or cs k no_view
