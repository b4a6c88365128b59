-- What holds of the names of an accepted text: each is a letter or underscore, then letters, digits and underscores, at most 31 bytes.
use Rattle.std.specs.Prelude.{List, ℕ, ◌<◌, length}
use Rattle.parts.specs.declared.Name.{Name}
use Rattle.identifiers.specs.Names.{bytes_of}
use Rattle.cells.specs.Definitions.{Child, definition_of}
use Rattle.rules.specs.Judge.{Meaning}
use Rattle.basics.specs.All.{All}
use Rattle.row_laws.specs.Sound.{SoundName}

abbrev pub IsNamed : List ℕ → Name → Type 0
IsNamed text n = SoundName (bytes_of text n.start n.end)

abbrev pub ChildNamed : List ℕ → Child → Type 0
ChildNamed text c = IsNamed text c.instance.name

pub record NamedMeaning (text : List ℕ) (m : Meaning) : Type 0 where
  pub each : (d : ℕ) → d < length m.table → All (ChildNamed text) (definition_of m.table d).instances
  pub title : IsNamed text (definition_of m.table m.map).name
