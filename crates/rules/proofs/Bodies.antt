-- Bodies and definitions: what the walk over one comes to.
use mathlib.Core.Path.{◌≡◌, refl, sym, ap, ◌∙◌}
use mathlib.Core.Bool.{Bool, true, false, ◌&&◌}
use mathlib.Core.List.{List, [], ◌++◌}
use Prim.Native.Nat.{ℕ, zero, suc, ◌+◌, ◌-◌, ◌<◌, ◌≤◌}
use native.Mathlib.Omega.{arith}
use lib.Dec.{eqb}
use lib.ListN.{length}
use Rattle.std.specs.Prelude.{if◌then◌else◌, Option, Some, None}
use Rattle.chars.proofs.Laws.{and_right}
use Rattle.lex.specs.Token.{token_at}
use Rattle.lex.specs.declared.Token.{Token}
use Rattle.vocabulary.specs.declared.Mark.TheVariants as mark
use Rattle.parts.specs.Reading.{Parsed, ok, stop, and_then, mapped}
use Rattle.parts.specs.Words.{is_mark}
use Rattle.parts.specs.Parts.{header_at, is_named}
use Rattle.parts.specs.declared.Instance.{Instance}
use Rattle.parts.specs.declared.Header.{Header}
use Rattle.parts.proofs.Ends.{ends_of, mark_past, header_ends}
use Rattle.syntax.specs.Tree.{Elem, definition, Body}
use Rattle.syntax.specs.Grammar.{instances_at, tail_at, definition_with, definition_at, body_at}
use Rattle.syntax.proofs.Turns.{definition_more}
use Rattle.syntax.proofs.Derive.{then_steps, mapped_piece}
use Rattle.basics.specs.Judged.{Judged, fault, fine, onward, found, Verdict, Accepted, Refused}
use Rattle.properties.specs.Assigned.{nearest}
use Rattle.cells.specs.Cells.{entries_at, rank, name_in, below_in}
use Rattle.cells.specs.Definitions.{VisibleType}
use Rattle.cells.specs.Relation.{block_end, Chain, chain_stop, chain_on}
use Rattle.scopes.specs.Walks.{listed_walk, after_listing, opening_walk, inner_scope, head_after, map_after, after_body}
use Rattle.scopes.specs.declared.Progress.{Progress}
use Rattle.scopes.specs.declared.Scope.{Scope}
use Rattle.basics.specs.Limits.{definition_limit}
use Rattle.rules.specs.Judge.{State, Made, opening, with_held, types_with, last_of, declared, judge_instances, judge_definition, judge_elem, judge_body}
use Rattle.rules.specs.Standing.{FitsText, Kept, sounds_end, Standing, matches_fault, matches_on, Moves, moves_fault, moves_on, Steps, Typed, Lists, Closed, BodyMatches, body_fault, body_on, BodyMoved, BodyMoves, body_moves, HeaderFault, Tails, BodySteps}
use Rattle.rules.proofs.Frames.{kept_less, kept_same, kept_then, block_kept, chain_kept, chain_join, sounds_kept}
use Rattle.name_tree.proofs.Growing.{linked_nothing, linked_kept}
use Rattle.rules.proofs.Statements.{standing_listed, standing_held, listing_moves, listing_matches}
use Rattle.parts.specs.declared.Name.{Name}

never : {X A : Type 0} {n p m : ℕ} {a : A} → stop n p ≡ ok a m → X
never e = absurd cc

-- behind a body: nothing, or instances
module _ (text t : List ℕ) (scope : Scope) (h : Header) (w : Progress) (f : FitsText (length text) scope w) {k : Token} {b : Bool} (e : k ≡ token_at text w.at) (g : b ≡ (is_named h.name && is_mark mark.Semicolon k.word)) where
  pub tail_bare : b ≡ true → Tails text t t scope h w (fine (listed_walk w w.held k.end))
  unfolding tail_at judge_instances onward
  tail_bare y =
      let m : (is_named h.name && is_mark mark.Semicolon (token_at text w.at).word) ≡ true = rw (← e) (sym g ∙ y) in
      let p = mark_past text mark.Semicolon w.at (and_right (is_named h.name) (is_mark mark.Semicolon (token_at text w.at).word) m) in
      rw e
      (record {
        kept = kept_same;
        moves =
            moves_on {v = listed_walk w w.held (token_at text w.at).end}
            (record {
              fits =
                  record {
                    short = f.short;
                    inside = p.1;
                    room = omega (arith, f.room, p);
                    first = f.first;
                    base = f.base;
                    head = f.head;
                    closed = f.closed;
                    opened = f.opened;
                  };
              past = p.0;
              closed = omega arith;
              filed = omega arith;
              held = omega arith;
              gap = omega arith;
            });
        each = λ is n s q st typed.
            let o : ok [] (token_at text w.at).end ≡ ok is n = rw m at q in
            let i : [] ≡ is = cc in
            let j : (token_at text w.at).end ≡ n = cc in
            rw (← i) (matches_on {w = listed_walk w w.held (token_at text w.at).end} j (standing_held {h = 0} st f.head kept_same (standing_listed st)));
      })

  pub tail_listing : {u : List ℕ} {l : Judged (ℕ × ℕ)} → b ≡ false → Lists text t u scope (w.closed - 1) h.kind w.at w.held l → Tails text t u scope h w (after_listing w l)
  unfolding tail_at
  tail_listing y x =
      let m : (is_named h.name && is_mark mark.Semicolon (token_at text w.at).word) ≡ false = rw (← e) (sym g ∙ y) in
      let kept = x.kept w.closed w.filed (omega (arith, f.closed, f.opened)) f.room in
      record {
        kept = kept;
        moves = listing_moves f (omega arith) x.moves;
        each = λ is n s q st typed.
            let o : instances_at text w.at ≡ ok is n = rw m at q in
            let i : w.closed - 1 ≡ last_of s.known.table = rw st.rows.count refl in
            rw (← i) (listing_matches st f.head kept (x.each is n s.known.table s.held o (rw i typed) (standing_listed st)));
      }

-- where a body opens
module _ (text t : List ℕ) (scope : Scope) (w : Progress) (h : Header) (inside : ℕ) (f : FitsText (length text) scope w) (past : w.at < inside) (in-text : inside ≤ length text) (few : w.opened < definition_limit) where
  pub opening-fits : FitsText (length text) (inner_scope scope w h.kind) (opening_walk w inside)
  opening-fits =
      record {
        short = f.short;
        inside = in-text;
        room = omega (arith, f.room, past);
        first = omega arith;
        base = omega arith;
        head = f.head;
        closed = omega (arith, f.closed);
        opened = omega (arith, few);
      }

  pub opening_stands : (s : State) → Standing text t scope w s → Standing text t (inner_scope scope w h.kind) (opening_walk w inside) (opening s.known.table s.known.map (s.known.opened + 1))
  opening_stands s st =
      record {
        long = st.long;
        assigned = refl;
        map = st.map;
        opened = ap (λ n. n + 1) st.opened;
        rows = st.rows;
        types = chain_stop;
        held = block_end;
        count = omega arith;
        linked = linked_nothing;
        sound = sounds_end;
      }

  -- behind a definition's body
  module _ {v : Progress} (m : BodyMoved (length text) (inner_scope scope w h.kind) (opening_walk w inside) v) where
    pub after-fits : FitsText (length text) scope (after_body w h v)
    after-fits =
        record {
          short = f.short;
          inside = m.inside;
          room = m.room;
          first = omega (arith, f.first, m.held);
          base = above h.name;
          head = below h.name;
          closed = omega (arith, m.gap, f.closed);
          opened = m.opened;
        }
      where
        above : (n : Option Name) → scope.base ≤ head_after n w.head v.closed
        above None = f.base
        above (Some n) = omega (arith, f.base, f.head, m.closed)

        below : (n : Option Name) → head_after n w.head v.closed ≤ v.closed
        below None = omega (arith, f.head, m.closed)
        below (Some n) = omega arith

    pub after-some : 1 ≤ v.closed
    after-some = omega (arith, m.closed)

    module _ {u : List ℕ} (k : Kept t u w.closed w.filed w.held) {behind : ℕ} {made : Made} (c : Closed text u h (inner_scope scope w h.kind) behind made v) (s : State) (st : Standing text t scope w s) where
      last_low : suc (last_of made.table) ≡ v.closed
      last_low = omega (arith, c.rows.count, m.closed)

      after_types : (n : Option Name) → n ≡ h.name → Chain u scope.base (head_after n w.head v.closed) (types_with n (last_of made.table) s.known.here)
      after_types None e = chain_kept k f.head st.types
      after_types (Some n) e =
          let d : ℕ = last_of made.table in
          let q : name_in u d ≡ n = c.named d last_low ∙ (rw (← e)) in
          let b : below_in u d ≡ w.head = c.below d last_low in
          rw (← last_low)
          (chain_on {e = record { name = n; row = d }} {es = s.known.here} (omega (arith, last_low, f.base, f.head, m.closed)) q (rw b f.base) (rw b (chain_kept k f.head st.types)))

      after_map : map_after h.kind w.map v.closed ≡ (if eqb (rank h.kind) 0 then Some (last_of made.table) else s.known.map)
      after_map =
          let z : v.closed - 1 ≡ last_of made.table = omega (arith, last_low) in
          rw (z, st.map)

      pub after_stands : Standing text u scope (after_body w h v) (declared s h made)
      unfolding declared
      after_stands =
          record {
            long = c.long;
            assigned = st.assigned;
            map = after_map;
            opened = c.opened;
            rows = c.rows;
            types = after_types h.name refl;
            held = block_kept (λ j a b. k.opens j (omega (arith, a)) (omega (arith, b, st.count))) st.held;
            count = omega (arith, st.count, m.held);
            linked = linked_kept (λ j a. k.opens (entries_at + scope.first + j) (omega arith) (omega (arith, a, st.count))) st.linked;
            sound = sounds_kept k st.rows c.rows (omega (arith, m.closed)) st.sound;
          }

      pub after_typed : Typed made.table (last_of made.table) h.kind
      after_typed = record { low = omega (arith, last_low, c.rows.count); kind_is = c.kind_is (last_of made.table) last_low }

-- the parts of a definition whose head is known
pub record Parts (text : List ℕ) (body : ℕ → Parsed Body) (h : Header) (inside : ℕ) (e : Elem) (n : ℕ) : Type 0 where
  pub tree : Body
  pub behind : ℕ
  pub list : List Instance
  pub reads_body : body inside ≡ ok tree behind
  pub reads_tail : tail_at (is_named h.name) text behind ≡ ok list n
  pub made : definition h tree list ≡ e

with_parts : (text : List ℕ) (at : ℕ) (body : Header → ℕ → Parsed Body) (h : Header) (inside : ℕ) {e : Elem} {n : ℕ} → header_at text at ≡ ok h inside → definition_with body text at ≡ ok e n
    → Parts text (body h) h inside e n
unfolding definition_with and_then
with_parts text at body h inside {e} {n} q r =
    let o : and_then (body h inside) (λ b next. mapped (definition h b) (tail_at (is_named h.name) text next)) ≡ ok e n = rw q at r in
    let s = then_steps (body h inside) _ o in
    let p = mapped_piece (definition h s.piece) (tail_at (is_named h.name) text s.next) s.second in
    record { tree = s.piece; behind = s.next; list = p.piece; reads_body = s.first; reads_tail = p.read; made = p.made }

-- a body, where so many bodies may still be opened
abbrev pub body_in : ℕ → List ℕ → Header → ℕ → Parsed Body
body_in zero text h i = stop 18 h.brace
body_in (suc bodies) text h i = body_at bodies text i

body_in_lem : (bodies : ℕ) (text : List ℕ) (h : Header) (i : ℕ) → (bodies ≡ 0 → ⊥) → body_in bodies text h i ≡ body_at (bodies - 1) text i
body_in_lem zero text h i z = absurd (z refl)
body_in_lem (suc bodies) text h i z = let o : suc bodies - 1 ≡ bodies = omega arith in rw o

pub definition_read : (text : List ℕ) (at bodies : ℕ) (h : Header) (inside : ℕ) {e : Elem} {n : ℕ} → header_at text at ≡ ok h inside → definition_at bodies text at ≡ ok e n
    → Parts text (body_in bodies text h) h inside e n
unfolding definition_at
definition_read text at zero h inside q r = with_parts text at (λ h inside. stop 18 h.brace) h inside q r
definition_read text at (suc bodies) h inside q r = with_parts text at (λ h inside. body_at bodies text inside) h inside q (sym (definition_more bodies text at) ∙ r)

-- what an answer of a body's walk says
record Ended (text u : List ℕ) (h : Header) (scope : Scope) (n : ℕ) (j : Judged Made) (v : Progress) : Type 0 where
  pub made : Made
  pub same : j ≡ fine made
  pub ended : Closed text u h scope n made v

module _ {text u : List ℕ} {h : Header} {scope : Scope} {n : ℕ} where
  body_faulted : {j : Judged Made} {m p : ℕ} → BodyMatches text u h scope n j (fault m p) → j ≡ fault m p
  body_faulted body_fault = refl

  body_ended : {j : Judged Made} {v : Progress} → BodyMatches text u h scope n j (fine v) → Ended text u h scope n j v
  body_ended (body_on {m = m} c) = record { made = m; same = refl; ended = c }

body_moved : {long : ℕ} {scope : Scope} {w v : Progress} → BodyMoves long scope w (fine v) → BodyMoved long scope w v
body_moved (body_moves m) = m

-- the ways through a definition
module _ (text : List ℕ) (w : Progress) (bodies : ℕ) where
  abbrev Reading : Elem → ℕ → Type 0
  Reading e n = definition_at bodies text w.at ≡ ok e n

refused : {X : Type 0} (text : List ℕ) (at : ℕ) {m p : ℕ} {a : Elem} {n : ℕ} (b : ℕ) → header_at text at ≡ stop m p → definition_at b text at ≡ ok a n → X
unfolding definition_at definition_with and_then
refused text at zero f q = never (rw f at q)
refused text at (suc b) f q = never (rw f at q)

module _ (text t : List ℕ) (scope : Scope) (w : Progress) (bodies : ℕ) where
  pub def_stop : {m p : ℕ} → stop m p ≡ header_at text w.at → Steps text t t scope w (Reading text w bodies) (fault m p)
  def_stop e = record { kept = kept_same; moves = moves_fault; each = λ a n env s q st c. refused text w.at bodies (sym e) q }

  module _ {h : Header} {inside : ℕ} (e : ok h inside ≡ header_at text w.at) where
    def_past : (suc w.at ≤ inside) × (inside ≤ length text)
    def_past = ends_of (header_ends text w.at) (sym e)

    parts : {a : Elem} {n : ℕ} → definition_at bodies text w.at ≡ ok a n → Parts text (body_in bodies text h) h inside a n
    parts = definition_read text w.at bodies h inside (sym e)

    -- what a definition is judged as behind its head
    abbrev judged : List VisibleType → State → Body → List Instance → Judged State
    judged env s tree list =
        onward (judge_body tree text h (s.known.here ++ env) (nearest s.assigned.defaults scope.defaults) (opening s.known.table s.known.map (s.known.opened + 1))) (λ m.
        onward (judge_instances text scope.enclosing h.kind (last_of m.table) list s.held) (λ held. fine (with_held (declared s h m) held)))

    judged_as_lem : {r : Verdict} → HeaderFault text t scope w h r → (env : List VisibleType) (s : State) → Standing text t scope w s → (tree : Body) (list : List Instance)
        → judge_elem (definition h tree list) text scope.enclosing env scope.defaults s ≡ found r (judged env s tree list)
    unfolding judge_elem judge_definition
    judged_as_lem hf env s st tree list = sym (hf.each s st (judged env s tree list))

    pub def_broken : {m p : ℕ} → HeaderFault text t scope w h (Refused m p) → Steps text t t scope w (Reading text w bodies) (fault m p)
    def_broken hf =
        record {
          kept = kept_same;
          moves = moves_fault;
          each = λ a n env s q st c.
              let d = parts q in
              rw (← d.made, judged_as_lem hf env s st d.tree d.list) matches_fault;
        }

    pub def_deep : {m p : ℕ} → bodies ≡ 0 → Steps text t t scope w (Reading text w bodies) (fault m p)
    def_deep y = record { kept = kept_same; moves = moves_fault; each = λ a n env s q st c. deep bodies y (parts q).reads_body }
      where
        deep : {X : Type 0} {tree : Body} {n : ℕ} (b : ℕ) → b ≡ 0 → body_in b text h inside ≡ ok tree n → X
        deep zero y q = never q
        deep (suc b) y q = absurd (omega (arith, y))

    module _ (hf : HeaderFault text t scope w h Accepted) (g : FitsText (length text) scope w) where
      pub def_few : w.opened < definition_limit
      def_few = hf.low refl

      -- what the body's walk asks
      pub def_opens : {inner : Scope} {first : Progress} → inner ≡ inner_scope scope w h.kind → first ≡ opening_walk w inside
          → FitsText (length text) inner first × (first.closed < first.opened) × (inner.enclosing ≡ Some h.kind)
      def_opens p q = rw (p, q) (opening-fits text t scope w h inside g def_past.0 def_past.1 def_few, omega (arith, g.closed), refl)

      module _ (nz : bodies ≡ 0 → ⊥) {inner : Scope} {first : Progress} (i : inner ≡ inner_scope scope w h.kind) (j : first ≡ opening_walk w inside) {u : List ℕ} where
        -- the body, where it opens
        opened : {y : Judged Progress} → BodySteps text t u h inner first (λ tree n. body_at (bodies - 1) text first.at ≡ ok tree n) y
            → BodySteps text t u h (inner_scope scope w h.kind) (opening_walk w inside) (λ tree n. body_at (bodies - 1) text inside ≡ ok tree n) y
        opened b = rw (i, j) at b

        body_judged : {y : Judged Progress} (b : BodySteps text t u h inner first (λ tree n. body_at (bodies - 1) text first.at ≡ ok tree n) y)
            {a : Elem} {n : ℕ} (env : List VisibleType) (s : State) (q : definition_at bodies text w.at ≡ ok a n) → Standing text t scope w s → Chain t 0 scope.base env
            → BodyMatches text u h (inner_scope scope w h.kind) (parts q).behind
            (judge_body (parts q).tree text h (s.known.here ++ env) (nearest s.assigned.defaults scope.defaults) (opening s.known.table s.known.map (s.known.opened + 1))) y
        body_judged b env s q st c =
            rw (← st.assigned)
            ((opened b).each (parts q).tree (parts q).behind (s.known.here ++ env) (opening s.known.table s.known.map (s.known.opened + 1))
            (sym (body_in_lem bodies text h inside nz) ∙ (parts q).reads_body)
            (opening_stands text t scope w h inside g def_past.0 def_past.1 def_few s st) (chain_join st.types c))

        pub def_body : {m p : ℕ} → BodySteps text t u h inner first (λ tree n. body_at (bodies - 1) text first.at ≡ ok tree n) (fault m p) → Steps text t u scope w (Reading text w bodies) (fault m p)
        unfolding onward
        def_body b =
            record {
              kept = kept_less (opened b).kept g.first;
              moves = moves_fault;
              each = λ a n env s q st c.
                  let d = parts q in
                  let j = body_faulted (body_judged b env s q st c) in
                  rw (← d.made, judged_as_lem hf env s st d.tree d.list, j) matches_fault;
            }

        module _ {v : Progress} (b : BodySteps text t u h inner first (λ tree n. body_at (bodies - 1) text first.at ≡ ok tree n) (fine v)) where
          def_moved : BodyMoved (length text) (inner_scope scope w h.kind) (opening_walk w inside) v
          def_moved = body_moved (opened b).moves

          pub def_some : 1 ≤ v.closed
          def_some = after-some text t scope w h inside g def_past.0 def_past.1 def_few def_moved

          pub def_after : {behind : Progress} → behind ≡ after_body w h v → FitsText (length text) scope behind × (1 ≤ behind.closed)
          def_after q = rw q (after-fits text t scope w h inside g def_past.0 def_past.1 def_few def_moved, def_some)

          tail_moves : {r : Judged Progress} → Moves (length text) scope (after_body w h v) r → Moves (length text) scope w r
          tail_moves moves_fault = moves_fault
          tail_moves (moves_on m) =
              let k = def_moved in
              moves_on
              (record {
                fits = m.fits;
                past = omega (arith, m.past, k.past, def_past);
                closed = omega (arith, m.closed, k.closed);
                filed = omega (arith, m.filed, k.filed);
                held = omega (arith, m.held, k.held);
                gap = omega (arith, m.gap, k.gap);
              })

          tailed : {v' : List ℕ} {o : Judged Progress} → Tails text u v' scope h (after_body w h v) o → Steps text t v' scope w (Reading text w bodies) o
          unfolding onward declared
          tailed l =
              let k = def_moved in
              let kept : Kept t u w.closed w.filed w.held = (opened b).kept in
              record {
                kept = kept_then (kept_less kept g.first) l.kept (omega (arith, k.closed)) k.filed (omega arith);
                moves = tail_moves l.moves;
                each = λ a n env s q st c.
                    let d = parts q in
                    let j = body_ended (body_judged b env s q st c) in
                    let sd = after_stands text t scope w h inside g def_past.0 def_past.1 def_few def_moved kept j.ended s st in
                    let ty = after_typed text t scope w h inside g def_past.0 def_past.1 def_few def_moved kept j.ended s st in
                    let at : v.at ≡ d.behind = j.ended.at in
                    rw (← d.made, judged_as_lem hf env s st d.tree d.list, j.same)
                    (l.each d.list n (declared s h j.made) (rw at d.reads_tail) sd ty);
              }

          pub def_tail : {v' : List ℕ} {behind : Progress} {o : Judged Progress} → behind ≡ after_body w h v → Tails text u v' scope h behind o → Steps text t v' scope w (Reading text w bodies) o
          def_tail q m = tailed (rw q at m)
