-- What the readers of an instance hand on: a cursor with the token that stands there.
use Rattle.std.specs.Prelude.{Result, Ok, Err, Bool, ◌||◌, ◌≡◌, List, ℕ, Option, None}
use Rattle.basics.specs.Judged.{rule_number}
use Rattle.basics.specs.declared.Refusal.{Refusal}
use Rattle.lex.specs.Token.{token_at}
use Rattle.lex.specs.declared.Token.{Token}
use Rattle.lex.specs.declared.Word.{Word}
use Rattle.parts.specs.Reading.{Parsed, ok, stop}
use Rattle.parts.specs.Words.{is_mark}
use Rattle.parts.specs.Parts.{suffix_mark, instance_of, parted_at}
use Rattle.parts.specs.declared.Ahead.{Ahead}
use Rattle.parts.specs.declared.Name.{Name}
use Rattle.parts.specs.declared.Array.{Array}
use Rattle.parts.specs.declared.SuffixKind.TheVariants.{Reset, Address, Stride, Alignment}
use Rattle.parts.specs.declared.Instance.{Instance}
use Rattle.parts.specs.declared.ListItem.{ListItem}
use Rattle.expressions.specs.declared.Number.{Number}

unfoldable pub ahead_at : List ℕ → ℕ → Ahead
ahead_at text at = record { at = at; token = token_at text at }

-- the token is the one at its cursor
unfoldable pub Stands : List ℕ → Ahead → Type 0
Stands text a = a ≡ ahead_at text a.at

-- a reading, with the token behind what was read
pub data Looked (A : Type 0) : Type 0 where
  found : A → Ahead → Looked A
  refused : ℕ → ℕ → Looked A

-- what a reader answers that looks ahead
abbrev pub looked_as : {A : Type 0} → Result (A × Ahead) Refusal → Looked A
looked_as (Ok (a, ahead)) = found a ahead
looked_as (Err r) = refused (rule_number r.rule) r.at

unfoldable pub looked : {A : Type 0} → List ℕ → Parsed A → Looked A
looked text (ok a next) = found a (ahead_at text next)
looked text (stop number place) = refused number place

-- an instance that has no suffix yet behind its reset and address
abbrev pub placed : Name → Array → Option (ℕ × Number) → Option (ℕ × Number) → Instance
placed n a r d = instance_of n a r d None None

-- a word that begins a stride or an alignment, and one that begins any suffix: before any other word an instance ends
unfoldable pub starts_spacing : Word → Bool
starts_spacing w = is_mark (suffix_mark Stride) w || is_mark (suffix_mark Alignment) w

unfoldable pub starts_suffix : Word → Bool
starts_suffix w = is_mark (suffix_mark Reset) w || (is_mark (suffix_mark Address) w || starts_spacing w)

-- an instance of a list is this reading, wherever this token stands behind the instance
pub record PartedBy (i : Instance) (k : Token) (r : Parsed ListItem) : Type 0 where
  pub parted : (text : List ℕ) (at : ℕ) → k ≡ token_at text at → r ≡ parted_at i text at
