-- What the stages of the compiler hand on.
use Rattle.std.specs.Prelude.{◌≡◌, Bool, ◌&&◌, List, ℕ, ◌*◌, ◌≤◌, leb, length}
use Rattle.parts.specs.Reading.{ok}
use Rattle.syntax.specs.Tree.{Body}
use Rattle.syntax.specs.Grammar.{file_at}
use Rattle.cells.specs.Relation.{Holds}
use Rattle.rules.specs.Judge.{Meaning}
use Rattle.rules.specs.Rules.{definitions_in}
use Rattle.definition_laws.specs.Sensible.{SensibleMeaning}
use Rattle.basics.specs.Judged.{fault, fine, Judged}
use Rattle.cells.specs.Cells.{instance_room, component_in}
use Rattle.layout.specs.Layout.{mode_of}
use Rattle.basics.specs.Limits.{definition_limit, register_limit, field_limit, register_row_width, field_row_width, path_row_width, name_width}
use Rattle.sizes.specs.declared.Extent.{Extent}
use Rattle.sizes.specs.Ready.{known}
use Rattle.map_rules.specs.Whole.{fields_among}
use Rattle.map_walk.specs.declared.Counts.{Counts}
use Rattle.map_walk.specs.Walks.{elements_of, registers_of}
use Rattle.overlaps.specs.Charted.{Charted}
use Rattle.compile.specs.Compiled.{map_of, mapped}

-- what the cells say that a text means
abbrev pub meaning_in : List ℕ → List ℕ → ℕ → ℕ → Meaning
meaning_in text t row closed = record { table = definitions_in text t 0 closed; map = row }

-- cells that hold the definitions of a text which keeps the grammar and the rules
pub record Filed (text t : List ℕ) (row closed : ℕ) : Type 0 where
  pub few : closed ≤ definition_limit
  pub holds : Holds text t closed instance_room (definitions_in text t 0 closed)
  pub sensible : SensibleMeaning (meaning_in text t row closed)
  pub tree : Body
  pub end : ℕ
  pub parsed : file_at text ≡ ok tree end

-- the same, with the map's mode
pub record FiledIn (text t : List ℕ) (e : Extent) : Type 0 where
  pub filed : Filed text t e.map e.rows
  pub mode : e.mode ≡ mode_of (component_in t e.map)

-- the first fault of the whole map, or its registers in the log
pub data Charts (text t s log : List ℕ) (e : Extent) : Judged Counts → Type 0 where
  charts_fault : {n p : ℕ} → mapped text (meaning_in text t e.map e.rows) ≡ fault n p → Charts text t s log e (fault n p)
  charts_fine : {counts : Counts} → mapped text (meaning_in text t e.map e.rows) ≡ fine (map_of text (meaning_in text t e.map e.rows)) → Charted text t s log e e.map
      → counts.registers ≡ length (registers_of text t e e.map) → counts.registers ≤ register_limit
      → counts.fields ≡ fields_among (known text t e) (elements_of text t e e.map) → counts.fields ≤ field_limit
      → Charts text t s log e (fine counts)

-- tables of these lengths hold so many register rows and field rows
unfoldable pub has_room : ℕ → ℕ → ℕ → ℕ → Counts → Bool
has_room registers paths fields labels counts =
    (leb (counts.registers * register_row_width) registers && leb (counts.registers * path_row_width) paths)
    && (leb (counts.fields * field_row_width) fields && leb (counts.fields * name_width) labels)
