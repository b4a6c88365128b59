-- Accesses, reset and retry on rows and a store: what each call answers, and the store afterwards.
use Rattle.std.specs.Prelude.{◌≡◌, Bool, not, List, [], ◌∷◌, ◌++◌, ℕ, zero, suc, ltb, length, drop}
use Rattle.std.specs.Prelude.{if◌then◌else◌}
use Rattle.basics.specs.Given.{or_else}
use Rattle.rows.specs.Rows.{Tables}
use Rattle.rows.specs.Lawful.{lawful}
use Rattle.model.specs.declared.View.{View}
use Rattle.model.specs.declared.Access.{Access}
use Rattle.model.specs.Model as model
use Rattle.model.specs.Model.{fits, address_of, width_of, well_formed, any_reached, stepped, refusal, bits_of, word_from, answer_with}
use Rattle.model.specs.Repeats.{repeats}
use Rattle.access.specs.Stored.{stored_fields, device_in}
use Rattle.basics.specs.Judged.{Outcome, gave, barred}
use Rattle.access.specs.declared.Resend.{Resend}
use Rattle.access.specs.declared.Resend.TheVariants.{Safe, Unsafe}

-- 22: "store .. shorter than the .. numbers .. it must hold"
abbrev pub is_short : Tables → List ℕ → Bool
is_short t s = ltb (length s) (length (device_in t).sizes)

-- 25: "no register reached"
abbrev pub is_reached : Tables → Access → Bool
is_reached t x = any_reached (stored_fields t) (address_of x) (width_of x)

-- "An access checks 23; 24 for the rows; 22; 24 for the store; 25": the first refusal, or 0
unfoldable pub refusal_of : Tables → List ℕ → Access → ℕ
refusal_of t s x =
    if not (well_formed x) then 23 else
    if not (lawful t) then 24 else
    if is_short t s then 22 else
    if not (fits (device_in t).sizes s) then 24 else
    if not (is_reached t x) then 25 else
    0

-- "Refused: counts and word are 0"; else a read answers its word, and a write 0
unfoldable pub answer_of : Tables → List ℕ → Access → Outcome ℕ
answer_of t s x = answer_with (refusal_of t s x) (word_from (device_in t) x (bits_of s))

-- the store where nothing is refused, and where something is: "nothing lent changes"
abbrev pub unless_refused : ℕ → List ℕ → List ℕ → List ℕ
unless_refused zero after before = after
unless_refused (suc n) after before = before

-- the store afterwards
unfoldable pub store_after : Tables → List ℕ → Access → List ℕ
store_after t s x = unless_refused (refusal_of t s x) (stepped x (stored_fields t) s) s

-- "It starts as the reset, or 0"
unfoldable pub resets : List View → List ℕ
resets [] = []
resets (c ∷ m) = or_else 0 c.field.values.reset ∷ resets m

-- "Reset and listing check 24 for the rows, then 22"
unfoldable pub reset_refusal : Tables → List ℕ → ℕ
reset_refusal t s = if not (lawful t) then 24 else if is_short t s then 22 else 0

-- what reset answers: a refusal, or how many numbers it wrote
abbrev pub restored_with : ℕ → ℕ → Outcome ℕ
restored_with zero count = gave count
restored_with (suc n) count = barred (suc n)

unfoldable pub reset_answer : Tables → List ℕ → Outcome ℕ
reset_answer t s = restored_with (reset_refusal t s) (length (device_in t).sizes)

-- "the first .. numbers .. are written, the rest stay"
unfoldable pub store_reset : Tables → List ℕ → List ℕ
store_reset t s = unless_refused (reset_refusal t s) (resets (stored_fields t) ++ drop (length (device_in t).sizes) s) s

-- what reset answers in document 01's numbers: the refusal or 0, its place, which is always 0, and the count, 0 where it is refused
abbrev pub reset_numbers : Outcome ℕ → List ℕ
reset_numbers (barred n) = n ∷ 0 ∷ 0 ∷ []
reset_numbers (gave n) = 0 ∷ 0 ∷ n ∷ []

-- what retry is refused with: no store is lent, so 23, 24 for the rows, 25; 0 for none
unfoldable pub retry_refusal : Tables → Access → ℕ
retry_refusal t x =
    if not (well_formed x) then 23 else
    if not (lawful t) then 24 else
    if not (is_reached t x) then 25 else
    0

-- whether an access may be sent again, by the criterion `repeats`
abbrev pub retry_with : ℕ → Bool → Outcome Resend
retry_with zero again = if again then gave Safe else gave Unsafe
retry_with (suc n) again = barred (suc n)

-- what retry answers in document 01's numbers: the refusal or 0, its place, which is always 0, and 1 where the access may be sent again
abbrev pub retry_numbers : Outcome Resend → List ℕ
retry_numbers (barred n) = n ∷ 0 ∷ 0 ∷ []
retry_numbers (gave Safe) = 0 ∷ 0 ∷ 1 ∷ []
retry_numbers (gave Unsafe) = 0 ∷ 0 ∷ 0 ∷ []

unfoldable pub retry_of : Tables → Access → Outcome Resend
retry_of t x = retry_with (retry_refusal t x) (repeats (stored_fields t) x)

-- "any starting store that fits", lent as a slice of 64-bit numbers
abbrev pub Fitting : Tables → List ℕ → Type 0
Fitting t s = model.Fitting (device_in t).sizes s

-- an access that is answered
abbrev pub Answered : Tables → Access → Type 0
Answered t x = refusal (device_in t) x ≡ 0

-- a list of accesses: each gets the store that the last one left
unfoldable pub store_after_all : Tables → List Access → List ℕ → List ℕ
store_after_all t [] s = s
store_after_all t (x ∷ xs) s = store_after_all t xs (store_after t s x)

-- the answers of a list, one for each access
unfoldable pub answers_of : Tables → List Access → List ℕ → List (Outcome ℕ)
answers_of t [] s = []
answers_of t (x ∷ xs) s = answer_of t s x ∷ answers_of t xs (store_after t s x)
