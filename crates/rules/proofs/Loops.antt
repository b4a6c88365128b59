-- The elements of a body, and the definitions of a file, one after another.
use mathlib.Core.Path.{◌≡◌, refl, sym, ap, ◌∙◌, subst}
use mathlib.Core.Bool.{Bool, true, false}
use mathlib.Core.List.{List, []}
use Prim.Native.Nat.{ℕ, suc, ◌+◌, ◌-◌, ◌<◌, ◌≤◌}
use native.Mathlib.Omega.{arith}
use lib.ListN.{length}
use Rattle.lex.specs.Token.{token_at}
use Rattle.lex.specs.declared.Token.{Token}
use Rattle.vocabulary.specs.declared.Mark.TheVariants as mark
use Rattle.parts.specs.Reading.{ok}
use Rattle.parts.specs.Words.{is_kind, is_mark, is_end}
use Rattle.parts.specs.declared.Header.{Header}
use Rattle.parts.proofs.Ends.{mark_past}
use Rattle.basics.specs.Limits.{body_limit, text_limit}
use Rattle.syntax.specs.Tree.{Elem, Body}
use Rattle.syntax.specs.Grammar.{statement_at, element_at, definition_at, body_at, file_at}
use Rattle.syntax.proofs.Derive.{Reads, reads_close, reads_more, elements_read, Files, files_end, files_more, file_files}
use Rattle.basics.specs.Judged.{Judged, fault, fine, onward}
use Rattle.properties.specs.Assigned.{no_settings}
use Rattle.cells.specs.Cells.{size}
use Rattle.cells.specs.Definitions.{VisibleType}
use Rattle.cells.specs.Relation.{block_end, Chain, chain_stop}
use Rattle.scopes.specs.Walks.{root_scope, root_walk, ruling_of}
use Rattle.scopes.specs.declared.Progress.{Progress}
use Rattle.scopes.specs.declared.Scope.{Scope}
use Rattle.rules.specs.Judge.{State, Made, opening, Meaning, meaning_of, judge_elem, judge_body, judge_file, judge}
use Rattle.rules.specs.Standing.{FitsText, Kept, sounds_end, Standing, Matches, matches_fault, matches_on, Moved, Moves, moves_on, Steps, BodyMatches, body_fault, BodyMoves, body_stops, body_moves, Closing, BodySteps, FileMatches, file_fault, file_map, Rules}
use Rattle.rules.proofs.Frames.{kept_same, kept_then, chain_kept}
use Rattle.name_tree.proofs.Growing.{linked_nothing}
use Rattle.std.specs.Prelude.{Option, Some, None}
use Rattle.parts.specs.declared.Kind.{Kind}

-- what an answer of a step says
record Went (text u : List ℕ) (scope : Scope) (n : ℕ) (j : Judged State) (v : Progress) : Type 0 where
  pub state : State
  pub same : j ≡ fine state
  pub at : v.at ≡ n
  pub stands : Standing text u scope v state

module _ {text u : List ℕ} {scope : Scope} {n : ℕ} where
  step_faulted : {j : Judged State} {m p : ℕ} → Matches text u scope n j (fault m p) → j ≡ fault m p
  step_faulted matches_fault = refl

  step_went : {j : Judged State} {v : Progress} → Matches text u scope n j (fine v) → Went text u scope n j v
  step_went (matches_on {s = s} a st) = record { state = s; same = refl; at = a; stands = st }

step_moved : {long : ℕ} {scope : Scope} {w v : Progress} → Moves long scope w (fine v) → Moved long scope w v
step_moved (moves_on m) = m

-- an element is a definition or a statement
module _ (text t : List ℕ) (scope : Scope) (w : Progress) (bodies : ℕ) {u : List ℕ} {r : Judged Progress} {k : Token} {b : Bool} (e : k ≡ token_at text w.at) (f : b ≡ is_kind k.word) where
  pub step_definition : b ≡ true → Steps text t u scope w (λ a n. definition_at bodies text w.at ≡ ok a n) r → Steps text t u scope w (λ a n. element_at (definition_at bodies text) text w.at ≡ ok a n) r
  unfolding element_at
  step_definition y v =
      let z : is_kind (token_at text w.at).word ≡ true = rw (← e) (sym f ∙ y) in
      record { kept = v.kept; moves = v.moves; each = λ a n env s q st c. v.each a n env s (rw z at q) st c }

  pub step_statement : b ≡ false → Steps text t u scope w (λ a n. statement_at text w.at ≡ ok a n) r → Steps text t u scope w (λ a n. element_at (definition_at bodies text) text w.at ≡ ok a n) r
  unfolding element_at
  step_statement y v =
      let z : is_kind (token_at text w.at).word ≡ false = rw (← e) (sym f ∙ y) in
      record { kept = v.kept; moves = v.moves; each = λ a n env s q st c. v.each a n env s (rw z at q) st c }

-- what is left of a body
pub record BodyRest (text t : List ℕ) (header : Header) (scope : Scope) (bodies : ℕ) (w : Progress) (n : ℕ) (env : List VisibleType) (answer : Judged Made) : Type 0 where
  pub tree : Body
  pub state : State
  pub reads : Reads text (definition_at bodies text) w.at tree n
  pub stands : Standing text t scope w state
  pub types : Chain t 0 scope.base env
  pub same : judge_body tree text header env scope.defaults state ≡ answer

pub record BodyGoing (text t₀ t : List ℕ) (header : Header) (scope : Scope) (bodies : ℕ) (start w : Progress) : Type 0 where
  pub fits : FitsText (length text) scope w
  pub inner : w.closed < w.opened
  pub kept : Kept t₀ t start.closed start.filed scope.first
  pub at : start.at ≤ w.at
  pub closed : start.closed ≤ w.closed
  pub filed : start.filed ≤ w.filed
  pub gap : w.closed + start.opened ≡ start.closed + w.opened
  pub each : (b : Body) (n : ℕ) (env : List VisibleType) (s : State) → body_at bodies text start.at ≡ ok b n → Standing text t₀ scope start s → Chain t₀ 0 scope.base env
      → BodyRest text t header scope bodies w n env (judge_body b text header env scope.defaults s)

module _ (text t₀ : List ℕ) (header : Header) (scope : Scope) (bodies : ℕ) (start : Progress) where
  pub body_start : FitsText (length text) scope start → start.closed < start.opened → BodyGoing text t₀ t₀ header scope bodies start start
  unfolding body_at
  body_start f o =
      record {
        fits = f;
        inner = o;
        kept = kept_same;
        at = omega arith;
        closed = omega arith;
        filed = omega arith;
        gap = omega arith;
        each = λ b n env s q st c.
            record { tree = b; state = s; reads = elements_read text (definition_at bodies text) (suc (length text)) start.at b n q; stands = st; types = c; same = refl };
      }

  module _ {t : List ℕ} {w : Progress} (g : BodyGoing text t₀ t header scope bodies start w) {k : Token} {b : Bool} (e : k ≡ token_at text w.at) (f : b ≡ is_mark mark.CloseBrace k.word) where
    is_close_lem : is_mark mark.CloseBrace (token_at text w.at).word ≡ b
    is_close_lem = rw (← e) (sym f)

    pub close_past : b ≡ true → (suc w.at ≤ k.end) × (k.end ≤ length text)
    close_past y = rw e (mark_past text mark.CloseBrace w.at (is_close_lem ∙ y))

    closing_moves : {r : Judged Progress} → BodyMoves (length text) scope w r → BodyMoves (length text) scope start r
    closing_moves body_stops = body_stops
    closing_moves (body_moves {v = v} m) =
        body_moves {v = v}
        (record {
          inside = m.inside;
          past = omega (arith, m.past, g.at);
          room = m.room;
          closed = omega (arith, m.closed, g.closed);
          filed = omega (arith, m.filed, g.filed);
          held = m.held;
          gap = omega (arith, m.gap, g.gap);
          opened = m.opened;
        })

    pub body_closes : {u : List ℕ} {r : Judged Progress} → b ≡ true → Closing text t u header scope w k.start k.end r → BodySteps text t₀ u header scope start (λ b n. body_at bodies text start.at ≡ ok b n) r
    unfolding judge_body
    body_closes {u} {r} y v =
        record {
          kept = kept_then g.kept v.kept g.closed g.filed (omega arith);
          moves = closing_moves v.moves;
          each = λ b n env s q st c. let l = g.each b n env s q st c in ended env l.reads l.stands l.same;
        }
      where
        ended : {tree : Body} {n : ℕ} (env : List VisibleType) {state : State} {answer : Judged Made} → Reads text (definition_at bodies text) w.at tree n → Standing text t scope w state
            → judge_body tree text header env scope.defaults state ≡ answer → BodyMatches text u header scope n answer r
        ended env {state} (reads_close h) st z = rw (← z) (rw e at (v.each state st))
        ended env (reads_more h q x) st z = absurd (let o : true ≡ false = sym (is_close_lem ∙ y) ∙ h in cc)

    module _ (n : b ≡ false) (p : scope.enclosing ≡ Some header.kind) {u : List ℕ} where
      pub body_faults : {m q : ℕ} → Steps text t u scope w (λ a n. element_at (definition_at bodies text) text w.at ≡ ok a n) (fault m q)
          → BodySteps text t₀ u header scope start (λ b n. body_at bodies text start.at ≡ ok b n) (fault m q)
      unfolding judge_body onward
      body_faults {m} {q} v =
          record {
            kept = kept_then g.kept v.kept g.closed g.filed (omega arith);
            moves = body_stops;
            each = λ b n env s o st c. let l = g.each b n env s o st c in faulted env l.reads l.stands l.types l.same;
          }
        where
          faulted : {tree : Body} {n : ℕ} (env : List VisibleType) {state : State} {answer : Judged Made} → Reads text (definition_at bodies text) w.at tree n → Standing text t scope w state → Chain t 0 scope.base env
              → judge_body tree text header env scope.defaults state ≡ answer → BodyMatches text u header scope n answer (fault m q)
          faulted env (reads_close h) st c z = absurd (let o : true ≡ false = sym h ∙ is_close_lem ∙ n in cc)
          faulted env {state} {answer} (reads_more {n = i} {e = a} h o x) st c z =
              let j : judge_elem a text scope.enclosing env scope.defaults state ≡ fault m q = step_faulted (v.each a i env state o st c) in
              let k : judge_elem a text (Some header.kind) env scope.defaults state ≡ fault m q = rw p at j in
              let w : fault m q ≡ answer = rw k at z in
              rw (← w) body_fault

      pub body_goes : {x : Progress} → Steps text t u scope w (λ a n. element_at (definition_at bodies text) text w.at ≡ ok a n) (fine x) → BodyGoing text t₀ u header scope bodies start x
      unfolding judge_body onward
      body_goes {x} v =
          let m : Moved (length text) scope w x = step_moved v.moves in
          record {
            fits = m.fits;
            inner = omega (arith, m.gap, g.inner);
            kept = kept_then g.kept v.kept g.closed g.filed (omega arith);
            at = omega (arith, m.past, g.at);
            closed = omega (arith, m.closed, g.closed);
            filed = omega (arith, m.filed, g.filed);
            gap = omega (arith, m.gap, g.gap);
            each = λ b n env s o st c. let l = g.each b n env s o st c in went env l.reads l.stands l.types l.same;
          }
        where
          went : {tree : Body} {n : ℕ} (env : List VisibleType) {state : State} {answer : Judged Made} → Reads text (definition_at bodies text) w.at tree n → Standing text t scope w state → Chain t 0 scope.base env
              → judge_body tree text header env scope.defaults state ≡ answer → BodyRest text u header scope bodies x n env answer
          went env (reads_close h) st c z = absurd (let o : true ≡ false = sym h ∙ is_close_lem ∙ n in cc)
          went env {state} {answer} (reads_more {n = i} {e = a} {b = rest} h o d) st c z =
              let j = step_went (v.each a i env state o st c) in
              let k : judge_elem a text (Some header.kind) env scope.defaults state ≡ fine j.state =
              ap (λ (x : Option Kind). judge_elem a text x env scope.defaults state) (sym p) ∙ j.same in
              record {
                tree = rest;
                state = j.state;
                reads = rw j.at d;
                stands = j.stands;
                types = chain_kept v.kept (omega (arith, g.fits.base, g.fits.head)) c;
                same = rw k at z;
              }

-- a step goes on
pub step_falls : {text t u : List ℕ} {scope : Scope} {w x : Progress} {reads : Elem → ℕ → Type 0} → Steps text t u scope w reads (fine x) → length text - x.at < length text - w.at
step_falls {text} {scope = scope} {w} {x} v = let m : Moved (length text) scope w x = step_moved v.moves in omega (arith, m.past, m.fits.inside)

-- what is left of a file
pub record FileRest (text t : List ℕ) (w : Progress) (n : ℕ) (answer : Judged Meaning) : Type 0 where
  pub tree : Body
  pub state : State
  pub reads : Files text w.at tree n
  pub stands : Standing text t root_scope w state
  pub same : judge_file tree text state ≡ answer

pub record FileGoing (text t₀ t : List ℕ) (w : Progress) : Type 0 where
  pub fits : FitsText (length text) root_scope w
  pub long : length t ≡ length t₀
  pub each : (b : Body) (n : ℕ) → size ≤ length t₀ → file_at text ≡ ok b n → FileRest text t w n (judge text b)

module _ (text t₀ : List ℕ) where
  pub file_start : length text ≤ text_limit → FileGoing text t₀ t₀ root_walk
  unfolding judge
  file_start h =
      record {
        fits =
            record {
              short = h;
              inside = omega arith;
              room = omega arith;
              first = omega arith;
              base = omega arith;
              head = omega arith;
              closed = omega arith;
              opened = omega arith;
            };
        long = refl;
        each = λ b n l q.
            record {
              tree = b;
              state = opening [] None 0;
              reads = file_files text q;
              stands =
                  record {
                    long = l;
                    assigned = refl;
                    map = refl;
                    opened = refl;
                    rows = record { count = refl; each = λ r m. absurd (omega (arith, m)) };
                    types = chain_stop;
                    held = block_end;
                    count = refl;
                    linked = linked_nothing;
                    sound = sounds_end;
                  };
              same = refl;
            };
      }

  module _ {t : List ℕ} {w : Progress} (g : FileGoing text t₀ t w) {k : Token} {b : Bool} (e : k ≡ token_at text w.at) (f : b ≡ is_end k.word) where
    is_end_lem : is_end (token_at text w.at).word ≡ b
    is_end_lem = rw (← e) (sym f)

    pub file_ends : {r : Judged (ℕ × ℕ)} → b ≡ true → r ≡ ruling_of w k.start w.map → Rules text t₀ t r
    unfolding judge_file
    file_ends {r} y x = record { long = g.long; each = λ b n l q. let a = g.each b n l q in ended a.reads a.stands a.same }
      where
        ruled : {state : State} (m : Option ℕ) → Standing text t root_scope w state → FileMatches text t (meaning_of state.known m k.start) (ruling_of w k.start m)
        ruled None st = file_fault
        ruled (Some d) st = file_map {closed = w.closed} {filed = w.filed} st.rows (omega (arith, g.fits.closed, g.fits.opened)) (omega (arith, g.fits.room, g.fits.inside, g.fits.short))

        ended : {tree : Body} {n : ℕ} {state : State} {answer : Judged Meaning} → Files text w.at tree n → Standing text t root_scope w state → judge_file tree text state ≡ answer → FileMatches text t answer r
        ended {state = state} (files_end h) st z =
            let a : FileMatches text t (meaning_of state.known state.known.map k.start) (ruling_of w k.start w.map) =
            subst (λ (m : Option ℕ). FileMatches text t (meaning_of state.known m k.start) (ruling_of w k.start w.map)) st.map (ruled w.map st) in
            rw (← z, x, ← e) a
        ended (files_more h q o) st z = absurd (let o : true ≡ false = sym (is_end_lem ∙ y) ∙ h in cc)

    module _ (n : b ≡ false) {u : List ℕ} where
      pub file_faults : {m q : ℕ} → Steps text t u root_scope w (λ a n. definition_at body_limit text w.at ≡ ok a n) (fault m q) → Rules text t₀ u (fault m q)
      unfolding judge_file onward
      file_faults {m} {q} v = record { long = v.kept.long ∙ g.long; each = λ b n l o. let a = g.each b n l o in faulted a.reads a.stands a.same }
        where
          faulted : {tree : Body} {n : ℕ} {state : State} {answer : Judged Meaning} → Files text w.at tree n → Standing text t root_scope w state → judge_file tree text state ≡ answer → FileMatches text u answer (fault m q)
          faulted (files_end h) st z = absurd (let o : true ≡ false = sym h ∙ is_end_lem ∙ n in cc)
          faulted {state = state} {answer} (files_more {n = i} {e = a} h o x) st z =
              let j : judge_elem a text None [] no_settings state ≡ fault m q = step_faulted (v.each a i [] state o st chain_stop) in
              let w : fault m q ≡ answer = rw j at z in
              rw (← w) file_fault

      pub file_goes : {x : Progress} → Steps text t u root_scope w (λ a n. definition_at body_limit text w.at ≡ ok a n) (fine x) → FileGoing text t₀ u x
      unfolding judge_file onward
      file_goes {x} v =
          let m : Moved (length text) root_scope w x = step_moved v.moves in
          record { fits = m.fits; long = v.kept.long ∙ g.long; each = λ b n l o. let a = g.each b n l o in went a.reads a.stands a.same }
        where
          went : {tree : Body} {n : ℕ} {state : State} {answer : Judged Meaning} → Files text w.at tree n → Standing text t root_scope w state → judge_file tree text state ≡ answer → FileRest text u x n answer
          went (files_end h) st z = absurd (let o : true ≡ false = sym h ∙ is_end_lem ∙ n in cc)
          went {state = state} {answer} (files_more {n = i} {e = a} {b = rest} h o d) st z =
              let j = step_went (v.each a i [] state o st chain_stop) in
              record { tree = rest; state = j.state; reads = rw j.at d; stands = j.stands; same = rw j.same at z }
