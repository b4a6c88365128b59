-- The words of document 01's lists, and the number that stands for each in settings and rows; the widths that a register may have.
use Rattle.std.specs.Prelude.{Bool, ◌||◌, ℕ, eqb}
use Rattle.fields.specs.declared.AccessRight.{AccessRight}
use Rattle.fields.specs.declared.AccessRight.TheVariants as access
use Rattle.fields.specs.declared.ReadEffect.{ReadEffect}
use Rattle.fields.specs.declared.ReadEffect.TheVariants as onread
use Rattle.fields.specs.declared.WriteEffect.{WriteEffect}
use Rattle.fields.specs.declared.WriteEffect.TheVariants as onwrite
use Rattle.fields.specs.declared.Mode.{Mode}
use Rattle.fields.specs.declared.Mode.TheVariants as mode

-- `sw`, `hw`: `na r w rw`
abbrev pub access_code : AccessRight → ℕ
access_code access.Na = 0
access_code access.R = 1
access_code access.W = 2
access_code access.Rw = 3

-- `onread`: no effect, `rclr rset`
abbrev pub read_code : ReadEffect → ℕ
read_code onread.Kept = 0
read_code onread.Rclr = 1
read_code onread.Rset = 2

-- `onwrite`: no effect, `woset woclr wot wzs wzc wzt wclr wset`
abbrev pub write_code : WriteEffect → ℕ
write_code onwrite.Plain = 0
write_code onwrite.Woset = 1
write_code onwrite.Woclr = 2
write_code onwrite.Wot = 3
write_code onwrite.Wzs = 4
write_code onwrite.Wzc = 5
write_code onwrite.Wzt = 6
write_code onwrite.Wclr = 7
write_code onwrite.Wset = 8

-- `addressing`: `compact regalign fullalign`
abbrev pub mode_code : Mode → ℕ
mode_code mode.Compact = 0
mode_code mode.Regalign = 1
mode_code mode.Fullalign = 2

-- "8, 16, 32, 64"
unfoldable pub is_width : ℕ → Bool
is_width n = eqb n 8 || (eqb n 16 || (eqb n 32 || eqb n 64))
