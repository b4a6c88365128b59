-- Statements: instances of a type that is visible, and property settings.
use mathlib.Core.Path.{◌≡◌, refl, sym, ap, ◌∙◌, subst}
use mathlib.Core.Bool.{Bool, true, false}
use mathlib.Core.List.{List, ◌++◌}
use Prim.Native.Nat.{ℕ, suc, ◌*◌, ◌<◌, ◌≤◌}
use native.Mathlib.Omega.{arith}
use lib.ListN.{length}
use Rattle.basics.specs.Limits.{definition_limit}
use Rattle.parts.specs.Reading.{Parsed, ok, stop, and_then, mapped}
use Rattle.parts.specs.Parts.{name_at, property_at, starts_instances}
use Rattle.parts.specs.declared.Kind.{Kind}
use Rattle.parts.specs.declared.Name.{Name}
use Rattle.parts.specs.declared.Instance.{Instance}
use Rattle.parts.specs.declared.Assignment.{Assignment}
use Rattle.parts.proofs.Ends.{ends_of, name_ends, property_ends}
use Rattle.syntax.specs.Tree.{Elem, instances, property}
use Rattle.syntax.specs.Grammar.{instances_at, instance_statement_at, statement_at}
use Rattle.syntax.proofs.Derive.{then_steps, mapped_piece}
use Rattle.basics.specs.Judged.{Judged, fault, fine, onward}
use Rattle.properties.specs.Properties.{judge_property}
use Rattle.properties.specs.declared.Assigned.{Assigned}
use Rattle.components.specs.Components.{kind_of}
use Rattle.cells.specs.Cells.{component_in}
use Rattle.cells.specs.Definitions.{Child, definition_of, VisibleType, lookup}
use Rattle.cells.specs.Decoded.{types_in}
use Rattle.cells.specs.Relation.{Chain}
use Rattle.cells.proofs.Laws.{chain_types, type_low}
use Rattle.scopes.specs.Walks.{listed_walk, after_listing, assigned_walk, after_setting, setting_step}
use Rattle.scopes.specs.declared.Progress.{Progress}
use Rattle.scopes.specs.declared.Scope.{Scope}
use Rattle.rules.specs.Judge.{State, with_held, with_assigned, judge_use, judge_setting, judge_elem}
use Rattle.rules.specs.Standing.{FitsText, Kept, Standing, Matches, matches_fault, matches_on, Moved, Moves, moves_fault, moves_on, Steps, HeldList, Typed, ListMatches, list_fault, list_done, ListMoves, list_stops, list_moves, Lists}
use Rattle.rules.proofs.Frames.{kept_same, holds_kept, chain_kept, chain_join}
use Rattle.std.specs.Prelude.{Option, Some, None}

never : {X A : Type 0} {n p m : ℕ} {a : A} → stop n p ≡ ok a m → X
never e = absurd cc

-- the instances of a body, where it stands
pub standing_listed : {text t : List ℕ} {scope : Scope} {w : Progress} {s : State} → Standing text t scope w s → HeldList text t scope.first s.known.table w.held s.held
standing_listed st = record { long = st.long; block = st.held; count = st.count; linked = st.linked; sound = st.sound }

-- what is known behind a list of instances
pub standing_held : {text t u : List ℕ} {scope : Scope} {w : Progress} {s : State} {h : ℕ} {held n : ℕ} {cs : List Child} → Standing text t scope w s → w.head ≤ w.closed → Kept t u w.closed w.filed h
    → HeldList text u scope.first s.known.table held cs → Standing text u scope (listed_walk w held n) (with_held s cs)
standing_held st l k c =
    record {
      long = c.long;
      assigned = st.assigned;
      map = st.map;
      opened = st.opened;
      rows = holds_kept k st.rows;
      types = chain_kept k l st.types;
      held = c.block;
      count = c.count;
      linked = c.linked;
      sound = c.sound;
    }

pub listing_moves : {long : ℕ} {scope : Scope} {w : Progress} {start : ℕ} {l : Judged (ℕ × ℕ)} → FitsText long scope w → w.at ≤ start → ListMoves long start w.held l → Moves long scope w (after_listing w l)
listing_moves f p list_stops = moves_fault
listing_moves {long} {scope} {w} {start} f p (list_moves {held = held} {at = at} x y z) =
    moves_on {v = listed_walk w held at}
    (record {
      fits =
          record {
            short = f.short;
            inside = y;
            room = omega (arith, f.room, z, p);
            first = omega (arith, f.first, x);
            base = f.base;
            head = f.head;
            closed = f.closed;
            opened = f.opened;
          };
      past = omega (arith, z, x, p);
      closed = omega arith;
      filed = omega arith;
      held = omega (arith, x);
      gap = omega arith;
    })

-- a list of instances, as a step
pub listing_matches : {text t u : List ℕ} {scope : Scope} {w : Progress} {s : State} {n h : ℕ} {j : Judged (List Child)} {l : Judged (ℕ × ℕ)} → Standing text t scope w s → w.head ≤ w.closed → Kept t u w.closed w.filed h
    → ListMatches text u scope.first n s.known.table j l → Matches text u scope n (onward j (λ held. fine (with_held s held))) (after_listing w l)
unfolding onward
listing_matches st l k list_fault = matches_fault
listing_matches {n = n} st l k (list_done {cs = cs} {held = held} c) = matches_on refl (standing_held {n = n} st l k c)

-- an instance statement
module _ (text t : List ℕ) (scope : Scope) (w : Progress) where
  pub use_stop : {m p : ℕ} → stop m p ≡ name_at text w.at → Steps text t t scope w (λ e n. instance_statement_at text w.at ≡ ok e n) (fault m p)
  unfolding instance_statement_at
  use_stop e =
      record {
        kept = kept_same;
        moves = moves_fault;
        each = λ x n env s q st c. let b = then_steps (name_at text w.at) _ q in never (e ∙ b.first);
      }

  module _ {name : Name} {next : ℕ} (named : ok name next ≡ name_at text w.at) where
    -- what the name means is judged
    use_judged : {u : List ℕ} {meaning : Option ℕ} {r : Judged Progress} → meaning ≡ lookup text name (types_in t 0 w.head) → Kept t u w.closed w.filed scope.first → Moves (length text) scope w r
        → ((is : List Instance) (n : ℕ) (s : State) → instances_at text next ≡ ok is n → Standing text t scope w s → Matches text u scope n (judge_use text scope.enclosing name is s meaning) r)
        → Steps text t u scope w (λ e n. instance_statement_at text w.at ≡ ok e n) r
    unfolding instance_statement_at and_then judge_elem
    use_judged {u} {meaning} {r} h kept moves instances_match = record { kept = kept; moves = moves; each = each }
      where
        each : (e : Elem) (n : ℕ) (env : List VisibleType) (s : State) → instance_statement_at text w.at ≡ ok e n → Standing text t scope w s → Chain t 0 scope.base env
            → Matches text u scope n (judge_elem e text scope.enclosing env scope.defaults s) r
        each e n env s q st c =
            let o : mapped (instances name) (instances_at text next) ≡ ok e n = rw (← named) at q in
            let p = mapped_piece (instances name) (instances_at text next) o in
            let m : meaning ≡ lookup text name (s.known.here ++ env) = h ∙ ap (lookup text name) (chain_types w.head (omega arith) (chain_join st.types c)) in
            let k : Matches text u scope n (judge_use text scope.enclosing name p.piece s (lookup text name (s.known.here ++ env))) r =
            subst (λ (g : Option ℕ). Matches text u scope n (judge_use text scope.enclosing name p.piece s g) r) m (instances_match p.piece n s p.read st) in
            rw (← p.made) k

    pub use_unknown : None ≡ lookup text name (types_in t 0 w.head) → Steps text t t scope w (λ e n. instance_statement_at text w.at ≡ ok e n) (fault 5 name.start)
    unfolding judge_use
    use_unknown h = use_judged h kept_same moves_fault (λ is n s q st. matches_fault)

    module _ (f : FitsText (length text) scope w) where
      pub use_room : (w.at < next) × (2 * w.held ≤ next)
      use_room = let b = ends_of (name_ends text w.at) (sym named) in (omega arith, omega (arith, b, f.room))

      module _ {d : ℕ} (h : Some d ≡ lookup text name (types_in t 0 w.head)) where
        use_closed : d < w.closed
        use_closed = omega (arith, type_low w.head text t 0 w.head name (sym h), f.head)

        pub use_low : d < definition_limit
        use_low = omega (arith, use_closed, f.closed, f.opened)

        pub use_listing : {u : List ℕ} {kind : Kind} {l : Judged (ℕ × ℕ)} → kind ≡ kind_of (component_in t d) → Lists text t u scope d kind next w.held l
            → Steps text t u scope w (λ e n. instance_statement_at text w.at ≡ ok e n) (after_listing w l)
        unfolding judge_use
        use_listing {u} {kind} {l} k x =
            let kept : Kept t u w.closed w.filed scope.first = x.kept w.closed w.filed (omega (arith, f.closed, f.opened)) (omega (arith, f.room, use_room)) in
            use_judged h kept (listing_moves f (omega (arith, use_room)) x.moves)
            (λ is n s q st.
            let c : kind_of (definition_of s.known.table d).component ≡ kind = sym (k ∙ ap kind_of (st.rows.each d use_closed).component) in
            let typed : Typed s.known.table d kind = record { low = omega (arith, use_closed, st.rows.count); kind_is = c } in
            rw c (listing_matches st f.head kept (x.each is n s.known.table s.held q typed (standing_listed st))))

module _ (text t : List ℕ) (scope : Scope) (w : Progress) where
  -- a property statement
  pub setting_steps : {kind : Kind} {r : Judged Progress} → FitsText (length text) scope w → scope.enclosing ≡ Some kind → r ≡ setting_step text kind w (property_at text w.at)
      → Steps text t t scope w (λ e n. mapped property (property_at text w.at) ≡ ok e n) r
  unfolding mapped judge_elem judge_setting onward
  setting_steps {kind} {r} g i y = rw y (read (property_at text w.at) refl)
    where
      moved : (n : ℕ) (a : Assigned) → suc w.at ≤ n → n ≤ length text → Moved (length text) scope w (assigned_walk w n a)
      moved n a p q =
          record {
            fits =
                record {
                  short = g.short;
                  inside = q;
                  room = omega (arith, g.room, p);
                  first = g.first;
                  base = g.base;
                  head = g.head;
                  closed = g.closed;
                  opened = g.opened;
                };
            past = omega (arith, p);
            closed = omega arith;
            filed = omega arith;
            held = omega arith;
            gap = omega arith;
          }

      standing : {s : State} (n : ℕ) (a : Assigned) → Standing text t scope w s → Standing text t scope (assigned_walk w n a) (with_assigned s a)
      standing n a st =
          record {
            long = st.long;
            assigned = refl;
            map = st.map;
            opened = st.opened;
            rows = st.rows;
            types = st.types;
            held = st.held;
            count = st.count;
            linked = st.linked;
            sound = st.sound;
          }

      judged : (p : Assignment) (n : ℕ) → suc w.at ≤ n → n ≤ length text → (j : Judged Assigned) → judge_property text kind w.assigned p ≡ j
          → Steps text t t scope w (λ e m. ok (property p) n ≡ ok e m) (after_setting w n j)
      judged p n a b (fault m' q) z =
          record {
            kept = kept_same;
            moves = moves_fault;
            each = λ e m env s o st c.
                let x : property p ≡ e = cc in
                let k : judge_elem (property p) text scope.enclosing env scope.defaults s ≡ fault m' q = rw (i, ← st.assigned, z) in
                rw (← x, k) matches_fault;
          }
      judged p n a b (fine x) z =
          record {
            kept = kept_same;
            moves = moves_on (moved n x a b);
            each = λ e m env s o st c.
                let y : property p ≡ e = cc in
                let k : n ≡ m = cc in
                let l : judge_elem (property p) text scope.enclosing env scope.defaults s ≡ fine (with_assigned s x) = rw (i, ← st.assigned, z) in
                rw (← y, l) (matches_on {w = assigned_walk w n x} k (standing n x st));
          }

      read : (x : Parsed Assignment) → property_at text w.at ≡ x → Steps text t t scope w (λ e n. mapped property x ≡ ok e n) (setting_step text kind w x)
      read (stop m q) z = record { kept = kept_same; moves = moves_fault; each = λ e n env s o st c. never o }
      read (ok p n) z = let b = ends_of (property_ends text w.at) z in judged p n b.0 b.1 (judge_property text kind w.assigned p) refl

  -- a statement is an instance statement or a property statement
  pub statement_use : {u : List ℕ} {r : Judged Progress} {b : Bool} → b ≡ starts_instances text w.at → b ≡ true → Steps text t u scope w (λ e n. instance_statement_at text w.at ≡ ok e n) r
      → Steps text t u scope w (λ e n. statement_at text w.at ≡ ok e n) r
  unfolding statement_at
  statement_use e f v = record { kept = v.kept; moves = v.moves; each = λ x n env s q st c. v.each x n env s (rw (sym e ∙ f) at q) st c }

  pub statement_set : {u : List ℕ} {r : Judged Progress} {b : Bool} → b ≡ starts_instances text w.at → b ≡ false → Steps text t u scope w (λ e n. mapped property (property_at text w.at) ≡ ok e n) r
      → Steps text t u scope w (λ e n. statement_at text w.at ≡ ok e n) r
  unfolding statement_at
  statement_set e f v = record { kept = v.kept; moves = v.moves; each = λ x n env s q st c. v.each x n env s (rw (sym e ∙ f) at q) st c }
