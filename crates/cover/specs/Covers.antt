-- Which bits of a register are closed to a field, because earlier fields have them.
use Rattle.std.specs.Prelude.{Bool, false, ◌||◌, ◌&&◌, not, ℕ, zero, suc, eqb, leb, ltb}
use Rattle.std.specs.Prelude.{if◌then◌else◌}
use Rattle.fields.specs.Codes.{access_code}
use Rattle.fields.specs.declared.AccessRight.TheVariants as access
use Rattle.fields.specs.Fields.{is_read_write_pair}
use Rattle.fields.specs.declared.FieldAt.{FieldAt}
use Rattle.bits.specs.Bits.{bit, number}
use Rattle.cover.specs.declared.Cover.{Cover}

-- whether some number below n is one of these
unfoldable pub any_below : ℕ → (ℕ → Bool) → Bool
any_below zero f = false
any_below (suc n) f = f n || any_below n f

-- a field has its bits below bit 64, so that a word holds them
unfoldable pub is_narrow : FieldAt → Bool
is_narrow f = leb f.low.0 f.high.0 && ltb f.high.0 64

-- whether a field has a bit
unfoldable pub has_bit : FieldAt → ℕ → Bool
has_bit f i = leb f.low.0 i && leb i f.high.0

-- whether a field closes a bit to later ones of this access: "Overlap is lawful only between one read-only and one write-only"
unfoldable pub closes : ℕ → FieldAt → ℕ → Bool
closes a f i = not (is_read_write_pair a f.values.sw) && has_bit f i

-- the bits that are closed to a field of this access, as a word
unfoldable pub closed_to : ℕ → Cover → ℕ
closed_to a c =
    if eqb a (access_code access.R) then c.readers else
    if eqb a (access_code access.W) then c.writers else
    c.others

-- whether some bit of a field is closed to it
unfoldable pub meets_in : Cover → FieldAt → Bool
meets_in c f = any_below 64 (λ i. has_bit f i && bit (closed_to f.values.sw c) i)

-- a word with the bits that a field closes to later ones of this access
unfoldable pub closed_by : ℕ → FieldAt → ℕ → ℕ
closed_by a f word = number 64 (λ i. bit word i || closes a f i)

-- no bit is closed
abbrev pub nothing_covered : Cover
nothing_covered = record { readers = 0; writers = 0; others = 0 }

-- with the bits that one field more closes; `na` stands for every access but `r` and `w`, for it is in no lawful pair either
unfoldable pub cover_with : Cover → FieldAt → Cover
cover_with c f =
    record {
      readers = closed_by (access_code access.R) f c.readers;
      writers = closed_by (access_code access.W) f c.writers;
      others = closed_by (access_code access.Na) f c.others;
    }
