-- The elements of a map: each is of a definition, and its path has names and indices of document 01.
use mathlib.Core.Bool.{true}
use mathlib.Core.Path.{◌≡◌, refl}
use mathlib.Core.List.{List, [], ◌∷◌}
use Prim.Native.Nat.{ℕ, suc, ◌<◌, ◌≤◌}
use native.Mathlib.Omega.{arith}
use lib.ListN.{length}
use Rattle.parts.specs.declared.Array.{Array}
use Rattle.parts.specs.declared.Array.TheVariants as array
use Rattle.components.specs.Components.{kind_of}
use Rattle.components.specs.declared.Component.{Component}
use Rattle.components.specs.declared.Component.TheVariants as component
use Rattle.cells.specs.Definitions.{Child, Definition, definition_of}
use Rattle.definition_laws.specs.Sensible.{Sensible, ChildrenFit, children_none, children_more}
use Rattle.layout.specs.Layout.{elements, bottom}
use Rattle.layout.specs.declared.Shape.{Shape}
use Rattle.layout.proofs.Laws.{sound-elements}
use Rattle.sizes.specs.Shapes.{GroupOf, of_regfile, of_map}
use Rattle.sizes.proofs.Rows.{RowFits, row_fits, held_addressed}
use Rattle.rows.specs.Rows.{Step}
use Rattle.basics.specs.All.{All, all_none, all_more}
use Rattle.row_laws.specs.Sound.{SoundIndex, no_index, index, SoundStep}
use Rattle.compile_laws.specs.Named.{ChildNamed}
use Rattle.basics.specs.Limits.{nest_limit, array_limit}
use Rattle.map_rules.proofs.Elements.{Stepped, Seen, visits_seen}
use Rattle.map_rules.specs.Visits.{PathStep, index_in, is_group, visits_in}
use Rattle.row_writer.specs.Entries.{bytes_in, steps_of}
use Rattle.basics.proofs.All.{all_map}
use Rattle.std.specs.Prelude.{Option}

-- the names of all instances are sound
abbrev pub Names : List ℕ → List Definition → Type 0
Names text table = (d : ℕ) → d < length table → All (ChildNamed text) (definition_of table d).instances

-- an instance in the body of a regfile or a map
pub record BodyChild (text : List ℕ) (table : List Definition) (row : ℕ) (c : Child) : Type 0 where
  pub before : c.type < row
  pub named : ChildNamed text c
  pub some : 1 ≤ elements c.instance.array
  pub few : elements c.instance.array ≤ array_limit

held_by_lem : (text : List ℕ) (table before : List Definition) (row : ℕ) (h : Component) {a : Option ℕ} {cs : List Child} → GroupOf h a → length before ≡ row
    → ChildrenFit before h cs → All (ChildNamed text) cs → All (BodyChild text table row) cs
held_by_lem text table before row h g l children_none all_none = all_none
held_by_lem text table before row h g l (children_more {c = c} x xs) (all_more n ns) =
    let k = kind_of (definition_of before c.type).component in
    let e = sound-elements k c.instance (held_addressed g k x.held) x.sound in
    all_more {x = c} (record { before = omega (arith, l, x.before); named = n; some = e.0; few = e.1 }) (held_by_lem text table before row h g l xs ns)

pub held_all : (text : List ℕ) (table : List Definition) (row : ℕ) {a : Option ℕ} → Sensible table → Names text table → row < length table
    → GroupOf (definition_of table row).component a → All (BodyChild text table row) (definition_of table row).instances
held_all text table row s names low g =
    let f : RowFits 0 table row = row_fits 0 s row low in
    held_by_lem text table f.before row (definition_of table row).component g f.count f.fits.children (names row low)

-- a step of a path
abbrev pub step_in : List ℕ → PathStep → Step
step_in text s = record { name = bytes_in text s.name; index = s.index }

abbrev pub StepFits : List ℕ → PathStep → Type 0
StepFits text s = SoundStep (step_in text s)

index_fits : (a : Array) (k : ℕ) → k < array_limit → SoundIndex (index_in a k)
index_fits array.Missing k h = no_index
index_fits (array.Size mark n) k h = index h
index_fits (array.Range mark left right) k h = no_index

pub path_sound : (text : List ℕ) {path : List PathStep} → All (StepFits text) path → All SoundStep (steps_of text path)
unfolding steps_of
path_sound text all_none = all_none
path_sound text (all_more p a) = all_more p (path_sound text a)

pub path_length : (text : List ℕ) (path : List PathStep) → length (steps_of text path) ≡ length path
unfolding steps_of
path_length text [] = refl
path_length text (s ∷ path) = omega (arith, path_length text path)

-- an instance in a body gives its elements their steps
held_stepped : {text : List ℕ} {table : List Definition} {row : ℕ} (c : Child) → row < length table → BodyChild text table row c → Stepped (length table) (StepFits text) c
held_stepped c low h =
    record {
      below = omega (arith, h.before, low);
      step = λ k l. record { name = h.named; index = index_fits c.instance.array k (omega (arith, l, h.few)) };
    }

group_held : (text : List ℕ) (table : List Definition) (row : ℕ) → Sensible table → Names text table → row < length table → (c : Component) → (definition_of table row).component ≡ c
    → is_group c ≡ true → All (BodyChild text table row) (definition_of table row).instances
group_held text table row s names low (component.Field f) k y = cc
group_held text table row s names low (component.Register r) k y = cc
group_held text table row s names low (component.Regfile a) k y = held_all text table row {a = a} s names low (rw k of_regfile)
group_held text table row s names low (component.Addrmap a m) k y = held_all text table row {a = a} s names low (rw k of_map)

-- the elements of a map, whose paths have names and indices of document 01
pub map_seen : (text : List ℕ) (table : List Definition) (shapes : List Shape) (mode row : ℕ) → Sensible table → Names text table → row < length table
    → All (Seen (length table) (StepFits text) 0) (visits_in (suc nest_limit) mode table shapes row bottom [])
map_seen text table shapes mode row s names low =
    visits_seen (length table) (StepFits text) table shapes mode
    (λ d l g. all_map (λ c h. held_stepped c l h) (group_held text table d s names l (definition_of table d).component refl g)) (suc nest_limit) row bottom [] low all_none
