-- What the functions of the walk are asked for, and what they answer.
use Rattle.std.specs.Prelude.{◌≡◌, false, ◌&&◌, ◌||◌, not, List, [], ◌∷◌, ◌++◌, ℕ, suc, ◌+◌, ◌*◌, ◌%◌, ◌<◌, ◌≤◌, eqb, ltb, length, get_or, Option}
use Rattle.std.specs.Prelude.{if◌then◌else◌}
use Rattle.parts.specs.declared.Instance.{Instance}
use Rattle.basics.specs.Judged.{first_of, fault, fine, Verdict, Accepted, Refused, Judged}
use Rattle.suffixes.specs.Suffixes.{is_array}
use Rattle.fields.specs.declared.Offset.{Offset}
use Rattle.components.specs.declared.Component.{Component}
use Rattle.components.specs.declared.Component.TheVariants as component
use Rattle.fields.specs.declared.Register.{Register}
use Rattle.basics.specs.Slices.{cell_of}
use Rattle.register_log.specs.Log.{log_width, head_of}
use Rattle.cells.specs.Cells.{component_in}
use Rattle.cells.specs.Definitions.{Child, Definition, definition_of}
use Rattle.capped.specs.Offsets.{cap, cut, factor_bound}
use Rattle.layout.specs.declared.Shape.{Shape}
use Rattle.layout.specs.declared.Laid.{Laid}
use Rattle.layout.specs.Layout.{bottom, shape_at, elements, laid_from, cut_offset}
use Rattle.sizes.specs.declared.Extent.{Extent}
use Rattle.sizes.specs.Ready.{known, Ready}
use Rattle.sizes.specs.Shapes.{ShapesIn, all_shapes}
use Rattle.recall.specs.Shelves.{Shelved}
use Rattle.basics.specs.Limits.{nest_limit, register_limit, field_limit, address_end}
use Rattle.map_rules.specs.Visits.{PathStep, Visit, element_visits, child_visits, visits_in}
use Rattle.map_walk.specs.declared.Trail.{Trail}
use Rattle.map_walk.specs.declared.Site.{Site}
use Rattle.map_walk.specs.declared.Kid.{Kid}
use Rattle.map_walk.specs.declared.Element.{Element}
use Rattle.map_rules.specs.Whole.{too_many, too_close, misplaced, registers_among, fields_among}
use Rattle.rows.specs.Rows.{padded, index_code}
use Rattle.map_walk.specs.Runs.{Total, nothing_tallied, step_numbers, run, logged}
use Rattle.map_walk.specs.declared.Counts.{Counts}

-- cells that hold definitions, with their shapes, and with long instances on the shelves
pub record Shaped (text t s : List ℕ) (e : Extent) : Type 0 where
  pub ready : Ready text t e
  pub shapes : ShapesIn s e.rows (all_shapes text t e)
  pub kept : Shelved text s

-- a body whose definition the cells hold, at a place where the walk may go on
pub record SiteFits (e : Extent) (site : Site) : Type 0 where
  pub row : site.row < e.rows
  pub address : site.address.0 ≤ cap
  pub depth : site.trail.depth ≤ nest_limit

-- counts that the limits keep
pub record Small (t : Total) : Type 0 where
  pub registers : t.registers ≤ register_limit
  pub fields : t.fields ≤ field_limit

-- a trail holds a path
pub record Trails (trail : Trail) (path : List PathStep) : Type 0 where
  pub depth : trail.depth ≡ length path
  pub steps : trail.steps ≡ padded nest_limit (step_numbers path)

-- the answer and the log after these elements: 18 at one of them, or the counts
pub record Walks (table : List Definition) (shapes : List Shape) (before after : List ℕ) (t : Total) (vs : List Visit) (r : Judged Total) : Type 0 where
  pub runs : run table shapes t vs ≡ r
  pub logs : after ≡ logged table shapes before t vs

-- a row of a register
pub data IsRegisterOf : Component → Type 0 where
  of_register : {r : Register} → IsRegisterOf (component.Register r)

abbrev pub IsRegisterRow : List ℕ → ℕ → Type 0
IsRegisterRow t row = IsRegisterOf (component_in t row)

-- 19 and 20 of an element, from its numbers cut at the cap
unfoldable pub close_fault : Element → Verdict
close_fault x = if x.short then Refused 19 x.name.start else Accepted

unfoldable pub place_fault : Element → Shape → Verdict
place_fault x s = if not (eqb (x.address.0 % s.access) 0) || ltb address_end (x.address.0 + s.size) then Refused 20 x.name.start else Accepted

-- what `visit_group` answers
abbrev pub GroupVisited : Total → Element → Judged Total → Type 0
GroupVisited t x r = r ≡ fine (record { registers = t.registers; fields = t.fields; close = first_of t.close (close_fault x); misplaced = t.misplaced })

-- an element without its content
abbrev pub visit_of : Element → List PathStep → Option ℕ → Offset → Visit
visit_of x path index address =
    record { path = path ++ (record { name = x.name; index = index } ∷ []); name = x.name; type = x.row; address = address; short = x.short }

-- what `visit` does, for each path and address that it is asked for; its trail has the element's own step
pub record VisitWalks (text t before after : List ℕ) (e : Extent) (x : Element) (trail : Trail) (tally : Total) (r : Judged Total) : Type 0 where
  pub small : (u : Total) → r ≡ fine u → Small u
  pub each : (path : List PathStep) (index : Option ℕ) (address : Offset) → Trails trail (path ++ (record { name = x.name; index = index } ∷ [])) → x.address ≡ cut_offset address
      → Walks (known text t e) (all_shapes text t e) before after tally (visit_of x path index address ∷ []) r

-- what `walk_content` does: the content of a definition at an address
pub record ContentWalks (text t before after : List ℕ) (e : Extent) (levels row : ℕ) (base : Offset) (trail : Trail) (tally : Total) (r : Judged Total) : Type 0 where
  pub small : (u : Total) → r ≡ fine u → Small u
  pub each : (path : List PathStep) (address : Offset) → Trails trail path → base ≡ cut_offset address
      → Walks (known text t e) (all_shapes text t e) before after tally (visits_in levels e.mode (known text t e) (all_shapes text t e) row address path) r

-- what `walk_element` does: an element, and its content
pub record ElementWalks (text t before after : List ℕ) (e : Extent) (levels : ℕ) (x : Element) (trail : Trail) (tally : Total) (r : Judged Total) : Type 0 where
  pub small : (u : Total) → r ≡ fine u → Small u
  pub each : (path : List PathStep) (index : Option ℕ) (address : Offset) → Trails trail path → x.index ≡ index_code index → x.address ≡ cut_offset address
      → Walks (known text t e) (all_shapes text t e) before after tally
      (visit_of x path index address ∷ visits_in levels e.mode (known text t e) (all_shapes text t e) x.row address (path ++ (record { name = x.name; index = index } ∷ []))) r

-- an instance that is laid in a body at an address
pub record KidOf (kid : Kid) (c : Child) (s : Shape) (l : Laid) (base : Offset) : Type 0 where
  pub row : kid.row ≡ c.type
  pub instance : kid.instance ≡ c.instance
  pub address : kid.address.0 ≡ cut (base.0 + l.start.0)
  pub stride : kid.stride ≡ cut l.stride
  pub short : kid.short ≡ (is_array c.instance.array && ltb l.stride s.size)

-- what `kid_of` answers
pub record KidMade (type : ℕ) (i : Instance) (s : Shape) (l : Laid) (base : Offset) (kid : Kid) : Type 0 where
  pub row : kid.row ≡ type
  pub instance : kid.instance ≡ i
  pub address : kid.address.0 ≡ cut (base.0 + l.start.0)
  pub low : kid.address.0 ≤ cap
  pub stride : kid.stride ≡ l.stride
  pub short : kid.short ≡ (is_array i.array && ltb l.stride s.size)

-- what `walk_array` is asked for, and what it does: the elements of an instance
pub record KidFits (e : Extent) (kid : Kid) : Type 0 where
  pub row : kid.row < e.rows
  pub address : kid.address.0 ≤ cap
  pub stride : kid.stride ≤ cap
  pub count : elements kid.instance.array ≤ factor_bound

pub record ArrayWalks (text t before after : List ℕ) (e : Extent) (levels : ℕ) (kid : Kid) (trail : Trail) (tally : Total) (r : Judged Total) : Type 0 where
  pub small : (u : Total) → r ≡ fine u → Small u
  pub each : (path : List PathStep) (c : Child) (l : Laid) (address : Offset) → Trails trail path → KidOf kid c (shape_at (all_shapes text t e) c.type) l address
      → Walks (known text t e) (all_shapes text t e) before after tally
      (element_visits (visits_in levels e.mode (known text t e) (all_shapes text t e) c.type) path c address (shape_at (all_shapes text t e) c.type) l 0 (elements c.instance.array)) r

-- what `walk_children` does: the instances of a row's body, laid one after another
pub record ChildrenWalk (text t before after : List ℕ) (e : Extent) (levels row : ℕ) (alignment : Option ℕ) (base : Offset) (trail : Trail) (tally : Total) (r : Judged Total) : Type 0 where
  pub small : (u : Total) → r ≡ fine u → Small u
  pub each : (path : List PathStep) (address : Offset) → Trails trail path → base ≡ cut_offset address
      → Walks (known text t e) (all_shapes text t e) before after tally
      (child_visits (visits_in levels e.mode (known text t e) (all_shapes text t e)) (all_shapes text t e) path address (definition_of (known text t e) row).instances
      (laid_from e.mode alignment (all_shapes text t e) bottom (definition_of (known text t e) row).instances)) r

-- the elements of the map whose definition is in a row
abbrev pub elements_of : List ℕ → List ℕ → Extent → ℕ → List Visit
elements_of text t e row = visits_in (suc nest_limit) e.mode (known text t e) (all_shapes text t e) row bottom []

-- what `walk_map` does
pub record MapWalks (text t before after : List ℕ) (e : Extent) (row : ℕ) (r : Judged Total) : Type 0 where
  pub walks : Walks (known text t e) (all_shapes text t e) before after nothing_tallied
      (elements_of text t e row) r

-- a register in a row of the log
pub record LogRow (log : List ℕ) (i : ℕ) (v : Visit) : Type 0 where
  pub head : cell_of log (i * log_width) ≡ head_of (cut v.address.0) v.type (length v.path)
  pub steps : (k : ℕ) → k < nest_limit → cell_of log (i * log_width + 1 + k) ≡ cell_of (padded nest_limit (step_numbers v.path)) k

abbrev pub no_visit : Visit
no_visit = record { path = []; name = record { start = 0; end = 0 }; type = 0; address = bottom; short = false }

abbrev pub visit_at : List Visit → ℕ → Visit
visit_at vs i = get_or vs i no_visit

-- the log has these registers, one a row
pub record Logs (log : List ℕ) (vs : List Visit) : Type 0 where
  pub each : (i : ℕ) → i < length vs → LogRow log i (visit_at vs i)

-- the registers of the map whose definition is in a row
abbrev pub registers_of : List ℕ → List ℕ → Extent → ℕ → List Visit
registers_of text t e row = registers_among (known text t e) (elements_of text t e row)

-- the first fault by 18, then 19, then 20
abbrev pub survey_fault : List Definition → List Shape → List Visit → Verdict
survey_fault table shapes vs = first_of (too_many table 0 0 vs) (first_of (too_close vs) (misplaced table shapes vs))

-- what `survey` answers: this fault, or how many registers and fields there are
abbrev pub survey_answer : Verdict → ℕ → ℕ → Judged Counts
survey_answer (Refused n p) registers fields = fault n p
survey_answer Accepted registers fields = fine (record { registers = registers; fields = fields })

abbrev pub survey_of : List ℕ → List ℕ → Extent → ℕ → Judged Counts
survey_of text t e row =
    let vs = elements_of text t e row in
    survey_answer (survey_fault (known text t e) (all_shapes text t e) vs) (length (registers_of text t e row)) (fields_among (known text t e) vs)

-- and its log afterwards
abbrev pub logged_in : List ℕ → List ℕ → List ℕ → Extent → ℕ → List ℕ
logged_in text t log e row = logged (known text t e) (all_shapes text t e) log nothing_tallied (elements_of text t e row)
