-- The words of document 01's lists that a value may be, with the number of each.
use Rattle.vocabulary.specs.declared.Keyword.{Keyword}
use Rattle.vocabulary.specs.declared.Keyword.TheVariants as keyword
use Rattle.fields.specs.declared.AccessRight.TheVariants as access
use Rattle.fields.specs.declared.ReadEffect.TheVariants as onread
use Rattle.fields.specs.declared.WriteEffect.TheVariants as onwrite
use Rattle.fields.specs.declared.Mode.TheVariants as mode
use Rattle.property_values.specs.declared.WordList.TheVariants as list
use Rattle.property_values.specs.declared.Term.{Term}
use Rattle.property_values.specs.declared.Term.TheVariants.{Word, Other}
use Rattle.fields.specs.Codes.{access_code, read_code, write_code, mode_code}

-- the list that a kept keyword stands in as a value, and its number there: "`na rw wr r w`, `wr` being `rw`"; truth is 1 or 0
abbrev pub word_term : Keyword → Term
word_term keyword.Addrmap = Other
word_term keyword.Regfile = Other
word_term keyword.Reg = Other
word_term keyword.Field = Other
word_term keyword.Default = Other
word_term keyword.Sw = Other
word_term keyword.Hw = Other
word_term keyword.Rclr = Word list.Onread (read_code onread.Rclr)
word_term keyword.Rset = Word list.Onread (read_code onread.Rset)
word_term keyword.Woclr = Word list.Onwrite (write_code onwrite.Woclr)
word_term keyword.Woset = Word list.Onwrite (write_code onwrite.Woset)
word_term keyword.True = Word list.Truth 1
word_term keyword.False = Word list.Truth 0
word_term keyword.Na = Word list.Access (access_code access.Na)
word_term keyword.Rw = Word list.Access (access_code access.Rw)
word_term keyword.Wr = Word list.Access (access_code access.Rw)
word_term keyword.R = Word list.Access (access_code access.R)
word_term keyword.W = Word list.Access (access_code access.W)
word_term keyword.Wot = Word list.Onwrite (write_code onwrite.Wot)
word_term keyword.Wzs = Word list.Onwrite (write_code onwrite.Wzs)
word_term keyword.Wzc = Word list.Onwrite (write_code onwrite.Wzc)
word_term keyword.Wzt = Word list.Onwrite (write_code onwrite.Wzt)
word_term keyword.Wclr = Word list.Onwrite (write_code onwrite.Wclr)
word_term keyword.Wset = Word list.Onwrite (write_code onwrite.Wset)
word_term keyword.Compact = Word list.Addressing (mode_code mode.Compact)
word_term keyword.Regalign = Word list.Addressing (mode_code mode.Regalign)
word_term keyword.Fullalign = Word list.Addressing (mode_code mode.Fullalign)
