-- A list of instances, one after another.
use mathlib.Core.Path.{◌≡◌, refl, sym, ap, ◌∙◌}
use mathlib.Core.Bool.{Bool, true, false}
use mathlib.Core.List.{List, [], ◌∷◌}
use Prim.Native.Nat.{ℕ, suc, ◌+◌, ◌-◌, ◌*◌, ◌<◌, ◌≤◌}
use native.Mathlib.Omega.{arith}
use lib.ListN.{length}
use Rattle.basics.specs.Limits.{text_limit, definition_limit}
use Rattle.std.specs.Prelude.{if◌then◌else◌}
use Rattle.lex.specs.Token.{token_at}
use Rattle.vocabulary.specs.declared.Mark.TheVariants as mark
use Rattle.parts.specs.Reading.{ok, stop}
use Rattle.parts.specs.Words.{is_mark}
use Rattle.parts.specs.Parts.{instance_at, parted_at, listed_at}
use Rattle.parts.specs.declared.Kind.{Kind}
use Rattle.parts.specs.declared.Instance.{Instance}
use Rattle.parts.specs.declared.ListItem.{ListItem}
use Rattle.parts.proofs.Ends.{ends_of, instance_ends, mark_past}
use Rattle.syntax.specs.Grammar.{instances_at}
use Rattle.syntax.proofs.Derive.{then_steps, Lists as Derived, lists_last, lists_more, instances_lists}
use Rattle.basics.specs.Judged.{Judged, fault, fine, Verdict, Accepted, Refused}
use Rattle.cells.specs.Cells.{instance_room, entry_places}
use Rattle.cells.specs.Definitions.{Child, Definition}
use Rattle.parts.proofs.InstanceName.{instance_named, begins_inside}
use Rattle.scopes.specs.declared.Scope.{Scope}
use Rattle.rules.specs.Judge.{judge_instances}
use Rattle.rules.specs.Standing.{Kept, HeldList, Typed, Added, added_not, added_one, Adds, ListMatches, list_fault, list_done, list_stops, list_moves, Lists}
use Rattle.rules.proofs.Frames.{kept_same, kept_then}

never : {X A : Type 0} {n p m : ℕ} {a : A} → stop n p ≡ ok a m → X
never e = absurd cc

module _ (t : List ℕ) where
  -- what stands behind an instance is a mark
  parted : (i : Instance) (at : ℕ) {l : ListItem} {n : ℕ} → parted_at i t at ≡ ok l n → (l.instance ≡ i) × (suc at ≤ n) × (n ≤ length t)
  unfolding parted_at
  parted i at {l} {n} = by (is_mark mark.Semicolon (token_at t at).word) (is_mark mark.Comma (token_at t at).word) refl refl
    where
      by : (x y : Bool) → is_mark mark.Semicolon (token_at t at).word ≡ x → is_mark mark.Comma (token_at t at).word ≡ y
          → (if x then ok (record { instance = i; last = true }) (token_at t at).end else if y then ok (record { instance = i; last = false }) (token_at t at).end else stop 3 (token_at t at).start) ≡ ok l n
          → (l.instance ≡ i) × (suc at ≤ n) × (n ≤ length t)
      by true y e f q = let z : (token_at t at).end ≡ n = cc in let w = mark_past t mark.Semicolon at e in (cc, omega arith, omega arith)
      by false true e f q = let z : (token_at t at).end ≡ n = cc in let w = mark_past t mark.Comma at f in (cc, omega arith, omega arith)
      by false false e f q = never q

  -- an instance of a list takes two bytes at least
  pub record Read (at : ℕ) (l : ListItem) (n : ℕ) : Type 0 where
    pub behind : ℕ
    pub reads_instance : instance_at t at ≡ ok l.instance behind
    pub past : at + 2 ≤ n
    pub inside : n ≤ length t

  pub listed_read_lem : (at : ℕ) {l : ListItem} {n : ℕ} → listed_at t at ≡ ok l n → Read at l n
  unfolding listed_at
  listed_read_lem at {l} {n} q =
      let s = then_steps (instance_at t at) _ q in
      let p = parted s.piece s.next s.second in
      let e = ends_of (instance_ends t at) s.first in
      record { behind = s.next; reads_instance = s.first ∙ ap (λ (x : Instance). ok x s.next) (sym p.0); past = omega (arith, e, p.1); inside = p.2 }

-- what is left of a list, with the instances that the body holds by then
pub record Rest (text t : List ℕ) (scope : Scope) (row : ℕ) (kind : Kind) (at held n : ℕ) (table : List Definition) (answer : Judged (List Child)) : Type 0 where
  pub left : List Instance
  pub children : List Child
  pub reads : Derived text at left n
  pub listed : HeldList text t scope.first table held children
  pub same : judge_instances text scope.enclosing kind row left children ≡ answer

pub record Going (text t₀ t : List ℕ) (scope : Scope) (row : ℕ) (kind : Kind) (start before at held : ℕ) : Type 0 where
  pub low : before ≤ held
  pub room : 2 * held + start ≤ 2 * before + at
  pub long : length t ≡ length t₀
  pub kept : (n f : ℕ) → n ≤ definition_limit → 2 * (f + before) ≤ start → Kept t₀ t n f scope.first
  pub each : (is : List Instance) (n : ℕ) (table : List Definition) (cs : List Child) → instances_at text start ≡ ok is n → Typed table row kind
      → HeldList text t₀ scope.first table before cs → Rest text t scope row kind at held n table (judge_instances text scope.enclosing kind row is cs)

pub going_start : (text t₀ : List ℕ) (scope : Scope) (row : ℕ) (kind : Kind) (start before : ℕ) → Going text t₀ t₀ scope row kind start before start before
going_start text t₀ scope row kind start before =
    record {
      low = omega arith;
      room = omega arith;
      long = refl;
      kept = λ n f a b. kept_same;
      each = λ is n table cs q typed l. record { left = is; children = cs; reads = instances_lists text start q; listed = l; same = refl };
    }

module _ {text t₀ t : List ℕ} {scope : Scope} {row : ℕ} {kind : Kind} {start before at held : ℕ} (g : Going text t₀ t scope row kind start before at held) where
  pub going_stop : {m p : ℕ} → stop m p ≡ listed_at text at → Lists text t₀ t scope row kind start before (fault m p)
  going_stop w =
      record {
        kept = g.kept;
        moves = list_stops;
        each = λ is n table cs q typed l. refused (g.each is n table cs q typed l).reads;
      }
    where
      refused : {X : Type 0} {is : List Instance} {n : ℕ} → Derived text at is n → X
      refused (lists_last q h) = never (w ∙ q)
      refused (lists_more q h r) = never (w ∙ q)

  module _ {l : ListItem} {next : ℕ} (item : ok l next ≡ listed_at text at) where
    item_read : Read text at l next
    item_read = listed_read_lem text at (sym item)

    -- so the cells of open bodies hold it
    pub item_room : length text ≤ text_limit → 2 * before ≤ start → held < instance_room
    item_room p q = omega (arith, p, q, g.room, item_read.past, item_read.inside)

    pub item_falls : length text - next < length text - at
    item_falls = omega (arith, item_read.past, item_read.inside)

    pub item_low : length text ≤ text_limit → l.instance.name.start < entry_places
    item_low p = let b = begins_inside text at (instance_named text at item_read.reads_instance) in omega (arith, p, b)

    -- the list starts with this instance
    record Head (is : List Instance) (n : ℕ) : Type 0 where
      pub others : List Instance
      pub whole : is ≡ l.instance ∷ others
      pub none : l.last ≡ true → (others ≡ []) × (n ≡ next)
      pub more : l.last ≡ false → Derived text next others n

    head : {is : List Instance} {n : ℕ} → Derived text at is n → Head is n
    head {n = n} (lists_last {l = k} q h) =
        let w : ok k n ≡ ok l next = sym q ∙ sym item in
        let z : k ≡ l = cc in
        record { others = []; whole = rw z; none = λ y. (refl, cc); more = λ y. absurd (let o : true ≡ false = sym h ∙ (rw z y) in cc) }
    head (lists_more {n = m} {l = k} {is = is} q h r) =
        let w : ok k m ≡ ok l next = sym q ∙ sym item in
        let z : k ≡ l = cc in
        let y : m ≡ next = cc in
        record { others = is; whole = rw z; none = λ y. absurd (let o : true ≡ false = (sym y ∙ (rw (← z) h)) in cc); more = λ _. rw (← y) r }

    -- the instances behind this one, or none where it broke a rule
    data Next (u : List ℕ) (n : ℕ) (table : List Definition) (answer : Judged (List Child)) : Verdict → Type 0 where
      next_not : {m p : ℕ} → fault m p ≡ answer → Next u n table answer (Refused m p)
      next_one : {others : List Instance} {ds : List Child} → (l.last ≡ true → (others ≡ []) × (n ≡ next)) → (l.last ≡ false → Derived text next others n)
          → HeldList text u scope.first table (suc held) ds → judge_instances text scope.enclosing kind row others ds ≡ answer → Next u n table answer Accepted

    module _ {u : List ℕ} {r : Verdict} (a : Adds text t u scope row kind held l.instance r) where
      keeps : length text ≤ text_limit → (n f : ℕ) → n ≤ definition_limit → 2 * (f + before) ≤ start → Kept t₀ u n f scope.first
      keeps s n f p q =
          kept_then (g.kept n f p q) (a.kept n f p (omega (arith, s, q, g.room, item_read.past, item_read.inside))) (omega arith) (omega arith) (omega arith)

      step : (is : List Instance) (n : ℕ) (table : List Definition) (cs : List Child) → instances_at text start ≡ ok is n → Typed table row kind
          → HeldList text t₀ scope.first table before cs → Next u n table (judge_instances text scope.enclosing kind row is cs) r
      step is n table cs q typed b =
          let w = g.each is n table cs q typed b in
          let h = head w.reads in
          by h (rw h.whole at w.same) (a.each at item_read.behind table w.children item_read.reads_instance typed w.listed)
        where
          by : {is' : List Instance} {ds : List Child} {r : Verdict} (h : Head is' n) → judge_instances text scope.enclosing kind row (l.instance ∷ h.others) ds ≡ judge_instances text scope.enclosing kind row is cs
              → Added text u scope row kind held l.instance table ds r → Next u n table (judge_instances text scope.enclosing kind row is cs) r
          by h e (added_not d) = next_not (sym (d h.others) ∙ e)
          by h e (added_one {ds = ds} c d) = next_one {others = h.others} {ds = ds} h.none h.more c (sym (d h.others) ∙ e)

    pub going_broken : {u : List ℕ} {m p : ℕ} → Adds text t u scope row kind held l.instance (Refused m p) → length text ≤ text_limit → Lists text t₀ u scope row kind start before (fault m p)
    going_broken {u} {m} {p} a s =
        record {
          kept = keeps a s;
          moves = list_stops;
          each = λ is n table cs q typed b. by (step a is n table cs q typed b);
        }
      where
        by : {n : ℕ} {table : List Definition} {answer : Judged (List Child)} → Next u n table answer (Refused m p) → ListMatches text u scope.first n table answer (fault m p)
        by (next_not z) = rw (← z) list_fault

    module _ {u : List ℕ} (a : Adds text t u scope row kind held l.instance Accepted) (s : length text ≤ text_limit) where
      pub going_last : l.last ≡ true → Lists text t₀ u scope row kind start before (fine ((held + 1), next))
      unfolding judge_instances
      going_last z =
          record {
            kept = keeps a s;
            moves = list_moves {held = held + 1} {at = next} (omega (arith, g.low)) item_read.inside (omega (arith, g.room, item_read.past));
            each = λ is n table cs q typed b. by (step a is n table cs q typed b);
          }
        where
          by : {n : ℕ} {table : List Definition} {answer : Judged (List Child)} → Next u n table answer Accepted → ListMatches text u scope.first n table answer (fine ((held + 1), next))
          by (next_one {ds = ds} p q c d) =
              let o = p z in
              let s : suc held ≡ held + 1 = omega arith in
              rw (← rw o.0 at d, ← o.1, ← s) (list_done c)

      pub going_more : l.last ≡ false → Going text t₀ u scope row kind start before next (held + 1)
      going_more z =
          record {
            low = omega (arith, g.low);
            room = omega (arith, g.room, item_read.past);
            long = a.long ∙ g.long;
            kept = keeps a s;
            each = λ is n table cs q typed b. by (step a is n table cs q typed b);
          }
        where
          by : {n : ℕ} {table : List Definition} {answer : Judged (List Child)} → Next u n table answer Accepted → Rest text u scope row kind next (held + 1) n table answer
          by (next_one {others = others} {ds = ds} p q c d) =
              let s : suc held ≡ held + 1 = omega arith in
              record { left = others; children = ds; reads = q z; listed = rw (← s) c; same = d }
