-- What a rule finds: a fault's number and place, or what was judged. The code has the rule by its name; here is its number in document 01.
use Rattle.std.specs.Prelude.{Bool, true, false, ℕ, Result, Ok, Err}
use Rattle.basics.specs.declared.Rule.{Rule}
use Rattle.basics.specs.declared.Rule.TheVariants as rule
use Rattle.basics.specs.declared.Refusal.{Refusal}

pub data Judged (A : Type 0) : Type 0 where
  fault : ℕ → ℕ → Judged A
  fine : A → Judged A

unfoldable pub onward : {A B : Type 0} → Judged A → (A → Judged B) → Judged B
onward (fault n p) k = fault n p
onward (fine a) k = k a

-- a fault where the test holds
unfoldable pub unless : {A : Type 0} → Bool → ℕ → ℕ → Judged A → Judged A
unless true n p rest = fault n p
unless false n p rest = rest

-- accepted so far, or the refusal's number and place
pub data Verdict : Type 0 where
  Accepted : Verdict
  Refused : ℕ → ℕ → Verdict

-- the fault that stands first in the text
abbrev pub first_of : Verdict → Verdict → Verdict
first_of Accepted later = later
first_of (Refused number place) later = Refused number place

-- a fault that was found, or what follows
abbrev pub found : {A : Type 0} → Verdict → Judged A → Judged A
found Accepted rest = rest
found (Refused n p) rest = fault n p

-- an answer that stands at no place of a text, or the number of its refusal
pub data Outcome (A : Type 0) : Type 0 where
  gave : A → Outcome A
  barred : ℕ → Outcome A

-- "Refusal numbers": the number of each rule
abbrev pub rule_number : Rule → ℕ
rule_number rule.TextLength = 1
rule_number rule.BadWord = 2
rule_number rule.BadSentence = 3
rule_number rule.LeftOutKeyword = 4
rule_number rule.UnknownType = 5
rule_number rule.NameTaken = 6
rule_number rule.PropertyMisplaced = 7
rule_number rule.SetTwice = 8
rule_number rule.BadValue = 9
rule_number rule.Misplaced = 10
rule_number rule.SuffixMisplaced = 11
rule_number rule.UnusableEffect = 12
rule_number rule.WideReset = 13
rule_number rule.WideAccess = 14
rule_number rule.FieldOutside = 15
rule_number rule.FieldsOverlap = 16
rule_number rule.FieldSpansParts = 17
rule_number rule.TooMany = 18
rule_number rule.ShortStride = 19
rule_number rule.RegisterMisplaced = 20
rule_number rule.RegistersOverlap = 21
rule_number rule.NoRoom = 22
rule_number rule.BadAccess = 23
rule_number rule.BadRows = 24
rule_number rule.NothingReached = 25

-- what an answer of the code means, in document 01's numbers
abbrev pub judged : {A : Type 0} → Result A Refusal → Judged A
judged (Ok a) = fine a
judged (Err r) = fault (rule_number r.rule) r.at

abbrev pub verdict : Result Unit Refusal → Verdict
verdict (Ok u) = Accepted
verdict (Err r) = Refused (rule_number r.rule) r.at

abbrev pub outcome : {A : Type 0} → Result A Rule → Outcome A
outcome (Ok a) = gave a
outcome (Err r) = barred (rule_number r)

-- the number of a rule that is broken, and 0 where none is
abbrev pub broken_number : Result Unit Rule → ℕ
broken_number (Ok u) = 0
broken_number (Err r) = rule_number r
