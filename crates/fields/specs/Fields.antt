-- Fields and registers by their values, and the tests of the rules 12 to 17.
use Rattle.std.specs.Prelude.{Bool, false, ◌||◌, ◌&&◌, not, ℕ, suc, ◌-◌, ◌/◌, ◌^◌, eqb, leb, ltb, Option, Some, None}
use Rattle.fields.specs.Codes.{access_code}
use Rattle.fields.specs.declared.AccessRight.TheVariants as access
use Rattle.fields.specs.declared.FieldType.{FieldType}
use Rattle.fields.specs.declared.FieldAt.{FieldAt}
use Rattle.fields.specs.declared.Register.{Register}
use Rattle.fields.specs.declared.Probe.{Probe}
use Rattle.fields.specs.declared.Probe.TheVariants.{Wide, Outside, Overlap, Span}

-- "A register without a width gets the standard's 32"
abbrev pub standard_width : ℕ
standard_width = 32

-- a register of which no width is set
abbrev pub standard_register : Register
standard_register = record { width = standard_width; access = standard_width }

-- "Readable: `sw` has an r"
unfoldable pub is_readable : FieldType → Bool
is_readable f = eqb f.sw (access_code access.R) || eqb f.sw (access_code access.Rw)

unfoldable pub is_writable : FieldType → Bool
is_writable f = eqb f.sw (access_code access.W) || eqb f.sw (access_code access.Rw)

-- "has any `onread` effect": 0 stands for none
abbrev pub has_read_effect : FieldType → Bool
has_read_effect f = ltb 0 f.onread

-- 12: "`onread` without reading, `onwrite` without writing"
unfoldable pub has_unusable_effect : FieldType → Bool
has_unusable_effect f = (has_read_effect f && not (is_readable f)) || (ltb 0 f.onwrite && not (is_writable f))

-- 13: "reset too wide"
abbrev pub is_wide : Option ℕ → ℕ → Bool
is_wide None width = false
is_wide (Some n) width = leb (2 ^ width) n

unfoldable pub is_reset_wide : FieldAt → Bool
is_reset_wide f = is_wide f.values.reset (suc f.high.0 - f.low.0)

-- 15: "field outside"
unfoldable pub is_outside : ℕ → FieldAt → Bool
is_outside width f = leb width f.high.0

-- "Overlap is lawful only between one read-only and one write-only: `sw` is `r`, respectively `w`"
unfoldable pub is_read_write_pair : ℕ → ℕ → Bool
is_read_write_pair a b = (eqb a (access_code access.R) && eqb b (access_code access.W)) || (eqb a (access_code access.W) && eqb b (access_code access.R))

-- 16: two fields that share a bit
unfoldable pub is_overlap : FieldAt → FieldAt → Bool
is_overlap f g = (leb f.low.0 g.high.0 && leb g.low.0 f.high.0) && not (is_read_write_pair f.values.sw g.values.sw)

-- "a field that is writable or has any `onread` effect" (document 02, item 2): software changes it, by a write or by a read
unfoldable pub is_changed_by_access : FieldType → Bool
is_changed_by_access f = is_writable f || has_read_effect f

-- 17: such a field "must lie within one part". Source 000, clause 10.6.1, f: "Any field that is software-writable or clear on read shall not
-- span multiple software accessible sub-words"; document 02: "`rset` is our addition"
unfoldable pub spans_parts : ℕ → FieldAt → Bool
spans_parts part f = is_changed_by_access f.values && not (eqb (f.low.0 / part) (f.high.0 / part))

-- what a field of a register may be asked
unfoldable pub breaks : Probe → FieldAt → Bool
breaks Wide f = is_reset_wide f
breaks (Outside width) f = is_outside width f
breaks (Overlap other) f = is_overlap other f
breaks (Span part) f = spans_parts part f
