-- What a word may be in a sentence (document 01, "Sentences").
use Rattle.std.specs.Prelude.{Bool, true, false, ℕ, eqb, Option, Some, None, is_some}
use Rattle.lex.specs.declared.Word.{Word}
use Rattle.lex.specs.declared.Word.TheVariants as word
use Rattle.vocabulary.specs.declared.Keyword.{Keyword}
use Rattle.vocabulary.specs.declared.Keyword.TheVariants as keyword
use Rattle.vocabulary.specs.declared.Mark.{Mark}
use Rattle.vocabulary.specs.declared.Mark.TheVariants as mark
use Rattle.parts.specs.declared.Kind.TheVariants.{Addrmap, Regfile, Reg, Field}
use Rattle.parts.specs.declared.Role.{Role}
use Rattle.parts.specs.declared.Role.TheVariants as role
use Rattle.parts.specs.declared.Kind.{Kind}

-- the part that each kept keyword may play: a kind word; `default`; a property (`sw`, `hw`); a property or a value (the four short
-- forms); a value ("`true`, `false`, or one word of the access, effect or addressing lists")
abbrev pub role_of : Keyword → Role
role_of keyword.Addrmap = role.Kind Addrmap
role_of keyword.Regfile = role.Kind Regfile
role_of keyword.Reg = role.Kind Reg
role_of keyword.Field = role.Kind Field
role_of keyword.Default = role.Default
role_of keyword.Sw = role.Property
role_of keyword.Hw = role.Property
role_of keyword.Rclr = role.PropertyOrValue
role_of keyword.Rset = role.PropertyOrValue
role_of keyword.Woclr = role.PropertyOrValue
role_of keyword.Woset = role.PropertyOrValue
role_of keyword.True = role.Value
role_of keyword.False = role.Value
role_of keyword.Na = role.Value
role_of keyword.Rw = role.Value
role_of keyword.Wr = role.Value
role_of keyword.R = role.Value
role_of keyword.W = role.Value
role_of keyword.Wot = role.Value
role_of keyword.Wzs = role.Value
role_of keyword.Wzc = role.Value
role_of keyword.Wzt = role.Value
role_of keyword.Wclr = role.Value
role_of keyword.Wset = role.Value
role_of keyword.Compact = role.Value
role_of keyword.Regalign = role.Value
role_of keyword.Fullalign = role.Value

abbrev pub role_kind : Role → Option Kind
role_kind (role.Kind k) = Some k
role_kind role.Default = None
role_kind role.Property = None
role_kind role.PropertyOrValue = None
role_kind role.Value = None

abbrev pub role_default : Role → Bool
role_default (role.Kind k) = false
role_default role.Default = true
role_default role.Property = false
role_default role.PropertyOrValue = false
role_default role.Value = false

abbrev pub role_property : Role → Bool
role_property (role.Kind k) = false
role_property role.Default = false
role_property role.Property = true
role_property role.PropertyOrValue = true
role_property role.Value = false

abbrev pub role_value : Role → Bool
role_value (role.Kind k) = false
role_value role.Default = false
role_value role.Property = false
role_value role.PropertyOrValue = true
role_value role.Value = true

-- a test of a kept keyword's part, and the answers for a name and for any other word
abbrev pub by_role : {A : Type 0} → (Role → A) → A → A → Word → A
by_role keyword name other word.End = other
by_role keyword name other word.Name = name
by_role keyword name other (word.Keyword k) = keyword (role_of k)
by_role keyword name other (word.Number n) = other
by_role keyword name other word.String = other
by_role keyword name other (word.Mark m) = other
by_role keyword name other (word.Bad c) = other

-- "a kept keyword is never a name"
unfoldable pub is_name : Word → Bool
is_name = by_role (λ r. false) true false

-- "kind word"
unfoldable pub kind_of : Word → Option Kind
kind_of = by_role role_kind None None

unfoldable pub is_kind : Word → Bool
is_kind w = is_some (kind_of w)

unfoldable pub is_default : Word → Bool
is_default = by_role role_default false false

-- a property word: a name, or one of `sw hw rclr rset woclr woset`
unfoldable pub is_property : Word → Bool
is_property = by_role role_property true false

-- the marks in document 01's order
abbrev pub mark_number : Mark → ℕ
mark_number mark.OpenBrace = 0
mark_number mark.CloseBrace = 1
mark_number mark.OpenBracket = 2
mark_number mark.CloseBracket = 3
mark_number mark.Semicolon = 4
mark_number mark.Colon = 5
mark_number mark.Comma = 6
mark_number mark.Equals = 7
mark_number mark.At = 8
mark_number mark.PlusEquals = 9
mark_number mark.PercentEquals = 10
mark_number mark.OpenParen = 11
mark_number mark.CloseParen = 12
mark_number mark.Times = 13
mark_number mark.Slash = 14
mark_number mark.Percent = 15
mark_number mark.Plus = 16
mark_number mark.Minus = 17
mark_number mark.ShiftLeft = 18
mark_number mark.ShiftRight = 19
mark_number mark.Less = 20
mark_number mark.AtMost = 21
mark_number mark.More = 22
mark_number mark.AtLeast = 23
mark_number mark.Same = 24
mark_number mark.Unlike = 25
mark_number mark.Ampersand = 26
mark_number mark.Caret = 27
mark_number mark.Bar = 28

-- whether a word is that mark
unfoldable pub is_mark : Mark → Word → Bool
is_mark m word.End = false
is_mark m word.Name = false
is_mark m (word.Keyword k) = false
is_mark m (word.Number n) = false
is_mark m word.String = false
is_mark m (word.Mark a) = eqb (mark_number a) (mark_number m)
is_mark m (word.Bad c) = false

unfoldable pub is_end : Word → Bool
is_end word.End = true
is_end word.Name = false
is_end (word.Keyword k) = false
is_end (word.Number n) = false
is_end word.String = false
is_end (word.Mark m) = false
is_end (word.Bad c) = false
