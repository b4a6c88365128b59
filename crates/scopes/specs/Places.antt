-- What may stand at a place of a text (document 01, "Names, properties, fields").
use Rattle.std.specs.Prelude.{Bool, true, false, ◌||◌, ◌&&◌, eqb, ltb, Option, Some, None, ℕ}
use Rattle.parts.specs.declared.Kind.{Kind}
use Rattle.parts.specs.declared.Kind.TheVariants as kind
use Rattle.parts.specs.declared.Header.{Header}
use Rattle.basics.specs.Given.{is_given}
use Rattle.cells.specs.Cells.{rank}
use Rattle.parts.specs.declared.Name.{Name}

-- "Definitions: anything smaller than the enclosing kind, in the order addrmap, regfile, reg, field; also regfile in regfile"
unfoldable pub may_define : Option Kind → Kind → Bool
may_define None k = true
may_define (Some b) k = ltb (rank b) (rank k) || (eqb (rank b) 1 && eqb (rank k) 1)

-- "Instances: regfile and reg in addrmap or regfile; field in reg"; "no root instances"
unfoldable pub may_hold : Option Kind → Kind → Bool
may_hold None k = false
may_hold (Some kind.Addrmap) k = eqb (rank k) 1 || eqb (rank k) 2
may_hold (Some kind.Regfile) k = eqb (rank k) 1 || eqb (rank k) 2
may_hold (Some kind.Reg) k = eqb (rank k) 3
may_hold (Some kind.Field) k = false

-- "Exactly one addrmap, at the root and named": an address map too many, or without a name
abbrev pub is_unnamed : Option Name → Bool
is_unnamed None = true
is_unnamed (Some n) = false

unfoldable pub is_bad_map : Option ℕ → Header → Bool
is_bad_map map h = eqb (rank h.kind) 0 && (is_given map || is_unnamed h.name)
