-- What the code knows at a place of a text, and what it stands for.
use Rattle.std.specs.Prelude.{◌≡◌, Bool, false, not, ◌||◌, List, [], ◌∷◌, ℕ, suc, ◌+◌, ◌*◌, ◌<◌, ◌≤◌, leb, length, Option}
use Rattle.parts.specs.Reading.{ok}
use Rattle.parts.specs.Parts.{instance_at, is_named}
use Rattle.parts.specs.declared.Name.{Name}
use Rattle.parts.specs.declared.Kind.{Kind}
use Rattle.parts.specs.declared.Header.{Header}
use Rattle.parts.specs.declared.Instance.{Instance}
use Rattle.suffixes.specs.Suffixes.{instance_fault}
use Rattle.syntax.specs.Tree.{Elem, Body}
use Rattle.syntax.specs.Grammar.{instances_at, tail_at, file_at}
use Rattle.basics.specs.Judged.{Judged, fault, fine, unless, onward, found, Verdict, Accepted, Refused}
use Rattle.components.specs.Components.{kind_of}
use Rattle.basics.specs.Slices.{cell_of}
use Rattle.cells.specs.Cells.{entries_at, size, instance_room, name_in, below_in, definition_width}
use Rattle.cells.specs.Definitions.{Child, Definition, definition_of, name_or, VisibleType}
use Rattle.cells.specs.Relation.{Block, Holds, Chain}
use Rattle.name_tree.specs.Tree.{Linked}
use Rattle.basics.specs.Limits.{definition_limit, text_limit}
use Rattle.rules.specs.Judge.{State, Made, type_twice, name_place, last_of, with_held, closed, Meaning, judge, judge_instances, judge_elem, judge_body}
use Rattle.scopes.specs.Places.{may_define, may_hold, is_bad_map}
use Rattle.scopes.specs.declared.Progress.{Progress}
use Rattle.scopes.specs.declared.Scope.{Scope}

-- The numbers that the code keeps fit: an instance takes two bytes at least, so the cells hold all of them.
pub record FitsText (long : ℕ) (scope : Scope) (w : Progress) : Type 0 where
  pub short : long ≤ text_limit
  pub inside : w.at ≤ long
  pub room : 2 * (w.filed + w.held) ≤ w.at
  pub first : scope.first ≤ w.held
  pub base : scope.base ≤ w.head
  pub head : w.head ≤ w.closed
  pub closed : w.closed ≤ w.opened
  pub opened : w.opened ≤ definition_limit

-- the cells of so many rows, of so many instances of closed definitions and of so many of open bodies are as before
pub record Kept (t u : List ℕ) (n f h : ℕ) : Type 0 where
  pub long : length u ≡ length t
  pub rows : (j : ℕ) → j < n * definition_width → cell_of u j ≡ cell_of t j
  pub filed : (j : ℕ) → size ≤ f + j → j < size → cell_of u j ≡ cell_of t j
  pub opens : (j : ℕ) → entries_at ≤ j → j < entries_at + h → cell_of u j ≡ cell_of t j

-- the types of instances are definitions, and their suffixes are sound
pub data Sounds (table : List Definition) : List Child → Type 0 where
  sounds_end : Sounds table []
  sounds_on : {c : Child} {cs : List Child} → c.type < length table → instance_fault (kind_of (definition_of table c.type).component) c.instance ≡ Accepted
      → Sounds table cs → Sounds table (c ∷ cs)

-- what the code knows at a place of a body, and the state that it stands for
pub record Standing (text t : List ℕ) (scope : Scope) (w : Progress) (s : State) : Type 0 where
  pub long : size ≤ length t
  pub assigned : w.assigned ≡ s.assigned
  pub map : w.map ≡ s.known.map
  pub opened : w.opened ≡ s.known.opened
  pub rows : Holds text t w.closed w.filed s.known.table
  pub types : Chain t scope.base w.head s.known.here
  pub held : Block text t (entries_at + scope.first) s.held
  pub count : w.held ≡ scope.first + length s.held
  pub linked : Linked text t (entries_at + scope.first) (length s.held)
  pub sound : Sounds s.known.table s.held

-- what an answer says of what is judged
pub data Matches (text u : List ℕ) (scope : Scope) (n : ℕ) : Judged State → Judged Progress → Type 0 where
  matches_fault : {number place : ℕ} → Matches text u scope n (fault number place) (fault number place)
  matches_on : {s : State} {w : Progress} → w.at ≡ n → Standing text u scope w s → Matches text u scope n (fine s) (fine w)

-- how the numbers move over an element
pub record Moved (long : ℕ) (scope : Scope) (w v : Progress) : Type 0 where
  pub fits : FitsText long scope v
  pub past : w.at < v.at
  pub closed : w.closed ≤ v.closed
  pub filed : w.filed ≤ v.filed
  pub held : w.held ≤ v.held
  pub gap : v.closed + w.opened ≡ w.closed + v.opened

pub data Moves (long : ℕ) (scope : Scope) (w : Progress) : Judged Progress → Type 0 where
  moves_fault : {number place : ℕ} → Moves long scope w (fault number place)
  moves_on : {v : Progress} → Moved long scope w v → Moves long scope w (fine v)

-- what a step over an element does: `reads` says what the element is
pub record Steps (text t u : List ℕ) (scope : Scope) (w : Progress) (reads : Elem → ℕ → Type 0) (r : Judged Progress) : Type 0 where
  pub kept : Kept t u w.closed w.filed scope.first
  pub moves : Moves (length text) scope w r
  pub each : (e : Elem) (n : ℕ) (env : List VisibleType) (s : State) → reads e n → Standing text t scope w s → Chain t 0 scope.base env
      → Matches text u scope n (judge_elem e text scope.enclosing env scope.defaults s) r

-- what `instance_rules` answers
pub record InstanceRules (taken : Bool) (enclosing : Option Kind) (kind : Kind) (i : Instance) (answer : Verdict) : Type 0 where
  pub new : answer ≡ Accepted → taken ≡ false
  pub sound : answer ≡ Accepted → instance_fault kind i ≡ Accepted
  pub each : (rest : Judged (List Child))
      → found answer rest ≡ unless taken 6 i.name.start (unless (not (may_hold enclosing kind)) 10 i.name.start (found (instance_fault kind i) rest))

-- a body's instances, in the cells of open bodies
pub record HeldList (text t : List ℕ) (first : ℕ) (table : List Definition) (held : ℕ) (cs : List Child) : Type 0 where
  pub long : size ≤ length t
  pub block : Block text t (entries_at + first) cs
  pub count : held ≡ first + length cs
  pub linked : Linked text t (entries_at + first) (length cs)
  pub sound : Sounds table cs

-- a definition that instances may have for their type
pub record Typed (table : List Definition) (row : ℕ) (kind : Kind) : Type 0 where
  pub low : row < length table
  pub kind_is : kind_of (definition_of table row).component ≡ kind

-- what `add_instance` does
pub data Added (text u : List ℕ) (scope : Scope) (row : ℕ) (kind : Kind) (held : ℕ) (i : Instance) (table : List Definition) (cs : List Child) : Verdict → Type 0 where
  added_not : {n p : ℕ} → ((is : List Instance) → judge_instances text scope.enclosing kind row (i ∷ is) cs ≡ fault n p) → Added text u scope row kind held i table cs (Refused n p)
  added_one : {ds : List Child} → HeldList text u scope.first table (suc held) ds
      → ((is : List Instance) → judge_instances text scope.enclosing kind row (i ∷ is) cs ≡ judge_instances text scope.enclosing kind row is ds)
      → Added text u scope row kind held i table cs Accepted

pub record Adds (text t u : List ℕ) (scope : Scope) (row : ℕ) (kind : Kind) (held : ℕ) (i : Instance) (answer : Verdict) : Type 0 where
  pub long : length u ≡ length t
  pub kept : (n f : ℕ) → n ≤ definition_limit → f + held < instance_room → Kept t u n f scope.first
  pub each : (at m : ℕ) (table : List Definition) (cs : List Child) → instance_at text at ≡ ok i m → Typed table row kind → HeldList text t scope.first table held cs
      → Added text u scope row kind held i table cs answer

-- a list of instances, behind those that a body holds
pub data ListMatches (text u : List ℕ) (first n : ℕ) (table : List Definition) : Judged (List Child) → Judged (ℕ × ℕ) → Type 0 where
  list_fault : {number place : ℕ} → ListMatches text u first n table (fault number place) (fault number place)
  list_done : {cs : List Child} {held : ℕ} → HeldList text u first table held cs → ListMatches text u first n table (fine cs) (fine (held, n))

pub data ListMoves (long start before : ℕ) : Judged (ℕ × ℕ) → Type 0 where
  list_stops : {number place : ℕ} → ListMoves long start before (fault number place)
  list_moves : {held at : ℕ} → before < held → at ≤ long → 2 * held + start ≤ 2 * before + at → ListMoves long start before (fine (held, at))

pub record Lists (text t u : List ℕ) (scope : Scope) (row : ℕ) (kind : Kind) (start before : ℕ) (r : Judged (ℕ × ℕ)) : Type 0 where
  pub kept : (n f : ℕ) → n ≤ definition_limit → 2 * (f + before) ≤ start → Kept t u n f scope.first
  pub moves : ListMoves (length text) start before r
  pub each : (is : List Instance) (n : ℕ) (table : List Definition) (cs : List Child) → instances_at text start ≡ ok is n → Typed table row kind
      → HeldList text t scope.first table before cs → ListMatches text u scope.first n table (judge_instances text scope.enclosing kind row is cs) r

-- a body that is closed: its row is the last, with its name and the type declared before it
pub record Closed (text u : List ℕ) (header : Header) (scope : Scope) (n : ℕ) (m : Made) (v : Progress) : Type 0 where
  pub at : v.at ≡ n
  pub long : size ≤ length u
  pub opened : v.opened ≡ m.opened
  pub rows : Holds text u v.closed v.filed m.table
  pub named : (d : ℕ) → suc d ≡ v.closed → name_in u d ≡ name_or header.name
  pub below : (d : ℕ) → suc d ≡ v.closed → below_in u d ≡ scope.base
  pub kind_is : (d : ℕ) → suc d ≡ v.closed → kind_of (definition_of m.table d).component ≡ header.kind

pub data BodyMatches (text u : List ℕ) (header : Header) (scope : Scope) (n : ℕ) : Judged Made → Judged Progress → Type 0 where
  body_fault : {number place : ℕ} → BodyMatches text u header scope n (fault number place) (fault number place)
  body_on : {m : Made} {v : Progress} → Closed text u header scope n m v → BodyMatches text u header scope n (fine m) (fine v)

-- how the numbers move over a body
pub record BodyMoved (long : ℕ) (scope : Scope) (w v : Progress) : Type 0 where
  pub inside : v.at ≤ long
  pub past : w.at < v.at
  pub room : 2 * (v.filed + v.held) ≤ v.at
  pub closed : suc w.closed ≤ v.closed
  pub filed : w.filed ≤ v.filed
  pub held : v.held ≡ scope.first
  pub gap : v.closed + w.opened ≡ suc (w.closed + v.opened)
  pub opened : v.opened ≤ definition_limit

pub data BodyMoves (long : ℕ) (scope : Scope) (w : Progress) : Judged Progress → Type 0 where
  body_stops : {number place : ℕ} → BodyMoves long scope w (fault number place)
  body_moves : {v : Progress} → BodyMoved long scope w v → BodyMoves long scope w (fine v)

-- what `close_body` does
pub record Closing (text t u : List ℕ) (header : Header) (scope : Scope) (w : Progress) (brace next : ℕ) (r : Judged Progress) : Type 0 where
  pub kept : Kept t u w.closed w.filed scope.first
  pub moves : BodyMoves (length text) scope w r
  pub each : (s : State) → Standing text t scope w s → BodyMatches text u header scope next (closed header scope.defaults s brace) r

-- what `header_fault` answers
pub record HeaderFault (text t : List ℕ) (scope : Scope) (w : Progress) (h : Header) (answer : Verdict) : Type 0 where
  pub low : answer ≡ Accepted → w.opened < definition_limit
  pub each : (s : State) → Standing text t scope w s → (rest : Judged State)
      → found answer rest ≡ unless (not (may_define scope.enclosing h.kind) || is_bad_map s.known.map h) 10 h.place
      (unless (leb definition_limit s.known.opened) 18 h.place (unless (type_twice text s.known.here h.name) 6 (name_place h.name) rest))

pub record NameFault (text t : List ℕ) (base head : ℕ) (name : Option Name) (answer : Verdict) : Type 0 where
  pub each : (here : List VisibleType) → Chain t base head here → (rest : Judged State) → found answer rest ≡ unless (type_twice text here name) 6 (name_place name) rest

-- what `judge_tail` does
pub record Tails (text t u : List ℕ) (scope : Scope) (h : Header) (w : Progress) (r : Judged Progress) : Type 0 where
  pub kept : Kept t u w.closed w.filed scope.first
  pub moves : Moves (length text) scope w r
  pub each : (is : List Instance) (n : ℕ) (s : State) → tail_at (is_named h.name) text w.at ≡ ok is n → Standing text t scope w s
      → Typed s.known.table (last_of s.known.table) h.kind
      → Matches text u scope n (onward (judge_instances text scope.enclosing h.kind (last_of s.known.table) is s.held) (λ held. fine (with_held s held))) r

pub record BodySteps (text t u : List ℕ) (header : Header) (scope : Scope) (w : Progress) (reads : Body → ℕ → Type 0) (r : Judged Progress) : Type 0 where
  pub kept : Kept t u w.closed w.filed scope.first
  pub moves : BodyMoves (length text) scope w r
  pub each : (b : Body) (n : ℕ) (env : List VisibleType) (s : State) → reads b n → Standing text t scope w s → Chain t 0 scope.base env
      → BodyMatches text u header scope n (judge_body b text header env scope.defaults s) r

-- what a file is judged as
pub data FileMatches (text u : List ℕ) : Judged Meaning → Judged (ℕ × ℕ) → Type 0 where
  file_fault : {number place : ℕ} → FileMatches text u (fault number place) (fault number place)
  file_map : {m : Meaning} {closed filed : ℕ} → Holds text u closed filed m.table → closed ≤ definition_limit → filed ≤ instance_room → FileMatches text u (fine m) (fine (m.map, closed))

pub record Rules (text t u : List ℕ) (r : Judged (ℕ × ℕ)) : Type 0 where
  pub long : length u ≡ length t
  pub each : (b : Body) (n : ℕ) → size ≤ length t → file_at text ≡ ok b n → FileMatches text u (judge text b) r
