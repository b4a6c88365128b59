-- The literal words of document 004 (document 01, "Words": keywords), the properties that the course takes, and the marks.
use Rattle.std.specs.Prelude.{List, [], ◌∷◌, ◌++◌, ℕ, Option, Some, None}
use Rattle.chars.specs.Ascii.{bytes}
use Rattle.std.specs.Prelude.{if◌then◌else◌}
use Rattle.chars.specs.Same.{same_bytes}
use Rattle.vocabulary.specs.declared.Keyword.{Keyword}
use Rattle.vocabulary.specs.declared.Keyword.TheVariants as keyword
use Rattle.vocabulary.specs.declared.Lookup.{Lookup}
use Rattle.vocabulary.specs.declared.Lookup.TheVariants.{Kept, LeftOut, NotKeyword}
use Rattle.vocabulary.specs.declared.Property.{Property}
use Rattle.vocabulary.specs.declared.Property.TheVariants as property
use Rattle.vocabulary.specs.declared.Mark.{Mark}
use Rattle.vocabulary.specs.declared.Mark.TheVariants as mark

-- the answer for a word with the bytes `s`, and for any other
unfoldable pub chosen : {B : Type 0} → List ℕ → List ℕ → B → B → B
chosen w s this other = if same_bytes w s then this else other

-- what is given for the item whose word is `w`, and `other` where no item has that word
unfoldable pub entry : {A B : Type 0} → (A → List ℕ) → (A → B) → B → List A → List ℕ → B
entry word give other [] w = other
entry word give other (a ∷ rest) w = chosen w (word a) (give a) (entry word give other rest w)

-- the word of each kept keyword
abbrev pub spelling : Keyword → List ℕ
spelling keyword.Addrmap = bytes "addrmap"
spelling keyword.Regfile = bytes "regfile"
spelling keyword.Reg = bytes "reg"
spelling keyword.Field = bytes "field"
spelling keyword.Default = bytes "default"
spelling keyword.Sw = bytes "sw"
spelling keyword.Hw = bytes "hw"
spelling keyword.Rclr = bytes "rclr"
spelling keyword.Rset = bytes "rset"
spelling keyword.Woclr = bytes "woclr"
spelling keyword.Woset = bytes "woset"
spelling keyword.True = bytes "true"
spelling keyword.False = bytes "false"
spelling keyword.Na = bytes "na"
spelling keyword.Rw = bytes "rw"
spelling keyword.Wr = bytes "wr"
spelling keyword.R = bytes "r"
spelling keyword.W = bytes "w"
spelling keyword.Wot = bytes "wot"
spelling keyword.Wzs = bytes "wzs"
spelling keyword.Wzc = bytes "wzc"
spelling keyword.Wzt = bytes "wzt"
spelling keyword.Wclr = bytes "wclr"
spelling keyword.Wset = bytes "wset"
spelling keyword.Compact = bytes "compact"
spelling keyword.Regalign = bytes "regalign"
spelling keyword.Fullalign = bytes "fullalign"

-- the kinds of component, and `default`
abbrev pub structure_keywords : List Keyword
structure_keywords = keyword.Addrmap ∷ keyword.Regfile ∷ keyword.Reg ∷ keyword.Field ∷ keyword.Default ∷ []

-- the properties that are keywords
abbrev pub property_keywords : List Keyword
property_keywords = keyword.Sw ∷ keyword.Hw ∷ keyword.Rclr ∷ keyword.Rset ∷ keyword.Woclr ∷ keyword.Woset ∷ []

-- truth values and the access list
abbrev pub access_keywords : List Keyword
access_keywords = keyword.True ∷ keyword.False ∷ keyword.Na ∷ keyword.Rw ∷ keyword.Wr ∷ keyword.R ∷ keyword.W ∷ []

-- the effects that are no properties
abbrev pub effect_keywords : List Keyword
effect_keywords = keyword.Wot ∷ keyword.Wzs ∷ keyword.Wzc ∷ keyword.Wzt ∷ keyword.Wclr ∷ keyword.Wset ∷ []

-- the addressing list
abbrev pub addressing_keywords : List Keyword
addressing_keywords = keyword.Compact ∷ keyword.Regalign ∷ keyword.Fullalign ∷ []

-- the keywords that the course takes
abbrev pub kept_keywords : List Keyword
kept_keywords = structure_keywords ++ (property_keywords ++ (access_keywords ++ (effect_keywords ++ addressing_keywords)))

-- the keywords left out: those that stand only in sentences that the course does not teach; first the three that later items of document 02
-- take
abbrev pub left_out_keywords : List (List ℕ)
left_out_keywords =
    bytes "alias" ∷ bytes "rw1" ∷ bytes "w1"
    ∷ bytes "abstract" ∷ bytes "accesstype" ∷ bytes "addressingtype" ∷ bytes "all" ∷ bytes "bit" ∷ bytes "boolean"
    ∷ bytes "bothedge" ∷ bytes "component" ∷ bytes "componentwidth" ∷ bytes "constraint" ∷ bytes "encode" ∷ bytes "enum"
    ∷ bytes "external" ∷ bytes "inside" ∷ bytes "internal" ∷ bytes "level" ∷ bytes "longint" ∷ bytes "mem"
    ∷ bytes "negedge" ∷ bytes "nonsticky" ∷ bytes "number" ∷ bytes "onreadtype" ∷ bytes "onwritetype" ∷ bytes "posedge"
    ∷ bytes "property" ∷ bytes "ref" ∷ bytes "ruser" ∷ bytes "signal" ∷ bytes "string" ∷ bytes "struct"
    ∷ bytes "this" ∷ bytes "type" ∷ bytes "unsigned" ∷ bytes "wuser" ∷ []

abbrev pub itself : List ℕ → List ℕ
itself w = w

abbrev pub leave : List ℕ → Lookup
leave w = LeftOut

-- whether a word is a keyword, and which
unfoldable pub keyword_of : List ℕ → Lookup
keyword_of w = entry spelling Kept (entry itself leave NotKeyword left_out_keywords w) kept_keywords w

-- the word of each property
abbrev pub property_name : Property → List ℕ
property_name property.Sw = bytes "sw"
property_name property.Hw = bytes "hw"
property_name property.Reset = bytes "reset"
property_name property.Onread = bytes "onread"
property_name property.Onwrite = bytes "onwrite"
property_name property.Rclr = bytes "rclr"
property_name property.Rset = bytes "rset"
property_name property.Woclr = bytes "woclr"
property_name property.Woset = bytes "woset"
property_name property.Regwidth = bytes "regwidth"
property_name property.Accesswidth = bytes "accesswidth"
property_name property.Alignment = bytes "alignment"
property_name property.Addressing = bytes "addressing"
property_name property.Name = bytes "name"
property_name property.Desc = bytes "desc"

-- access and reset, for fields
abbrev pub access_properties : List Property
access_properties = property.Sw ∷ property.Hw ∷ property.Reset ∷ []

-- effects, for fields
abbrev pub effect_properties : List Property
effect_properties = property.Onread ∷ property.Onwrite ∷ property.Rclr ∷ property.Rset ∷ property.Woclr ∷ property.Woset ∷ []

-- those of registers, of maps and regfiles, and of all
abbrev pub other_properties : List Property
other_properties = property.Regwidth ∷ property.Accesswidth ∷ property.Alignment ∷ property.Addressing ∷ property.Name ∷ property.Desc ∷ []

-- which property a word names
unfoldable pub property_of : List ℕ → Option Property
property_of w = entry property_name Some None (access_properties ++ (effect_properties ++ other_properties)) w

-- the bytes of each mark: `{ } [ ] ; : , = @ += %=`, and those of expressions, `( ) * / % + - << >> < <= > >= == != & ^ |`
abbrev pub mark_bytes : Mark → List ℕ
mark_bytes mark.OpenBrace = bytes "{"
mark_bytes mark.CloseBrace = bytes "}"
mark_bytes mark.OpenBracket = bytes "["
mark_bytes mark.CloseBracket = bytes "]"
mark_bytes mark.Semicolon = bytes ";"
mark_bytes mark.Colon = bytes ":"
mark_bytes mark.Comma = bytes ","
mark_bytes mark.Equals = bytes "="
mark_bytes mark.At = bytes "@"
mark_bytes mark.PlusEquals = bytes "+="
mark_bytes mark.PercentEquals = bytes "%="
mark_bytes mark.OpenParen = bytes "("
mark_bytes mark.CloseParen = bytes ")"
mark_bytes mark.Times = bytes "*"
mark_bytes mark.Slash = bytes "/"
mark_bytes mark.Percent = bytes "%"
mark_bytes mark.Plus = bytes "+"
mark_bytes mark.Minus = bytes "-"
mark_bytes mark.ShiftLeft = bytes "<<"
mark_bytes mark.ShiftRight = bytes ">>"
mark_bytes mark.Less = bytes "<"
mark_bytes mark.AtMost = bytes "<="
mark_bytes mark.More = bytes ">"
mark_bytes mark.AtLeast = bytes ">="
mark_bytes mark.Same = bytes "=="
mark_bytes mark.Unlike = bytes "!="
mark_bytes mark.Ampersand = bytes "&"
mark_bytes mark.Caret = bytes "^"
mark_bytes mark.Bar = bytes "|"

-- brackets
abbrev pub bracket_marks : List Mark
bracket_marks = mark.OpenBrace ∷ mark.CloseBrace ∷ mark.OpenBracket ∷ mark.CloseBracket ∷ []

-- what parts sentences
abbrev pub separator_marks : List Mark
separator_marks = mark.Semicolon ∷ mark.Colon ∷ mark.Comma ∷ []

-- what opens a value or a suffix
abbrev pub suffix_marks : List Mark
suffix_marks = mark.Equals ∷ mark.At ∷ mark.PlusEquals ∷ mark.PercentEquals ∷ []

-- what stands in expressions alone
abbrev pub expression_marks : List Mark
expression_marks = mark.OpenParen ∷ mark.CloseParen ∷ mark.Times ∷ mark.Slash ∷ mark.Percent ∷ mark.Plus ∷ mark.Minus ∷ mark.ShiftLeft ∷ mark.ShiftRight ∷ mark.Less ∷ mark.AtMost ∷ mark.More ∷ mark.AtLeast ∷ mark.Same ∷ mark.Unlike ∷ mark.Ampersand ∷ mark.Caret ∷ mark.Bar ∷ []

-- which mark some bytes are
unfoldable pub mark_of : List ℕ → Option Mark
mark_of w = entry mark_bytes Some None (bracket_marks ++ (separator_marks ++ (suffix_marks ++ expression_marks))) w
