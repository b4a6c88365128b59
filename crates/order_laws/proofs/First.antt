-- The judge's answer is the first failing check.
use mathlib.Core.Bool.{Bool, true, false, ◌||◌, ◌&&◌, not}
use mathlib.Core.Path.{◌≡◌, refl, sym, ap, ◌∙◌}
use mathlib.Core.List.{List, [], ◌∷◌, ◌++◌, map, append_assoc, append-nil}
use Prim.Native.Nat.{ℕ, zero, suc, ◌+◌}
use native.Mathlib.Omega.{arith}
use lib.Dec.{leb, ltb}
use borrow.Author.Tests.{lt-ltb}
use Rattle.std.specs.Prelude.{if◌then◌else◌, Option, Some, None}
use Rattle.vocabulary.specs.Vocabulary.{property_of}
use Rattle.vocabulary.specs.declared.Property.{Property}
use Rattle.expressions.specs.declared.Number.{Number}
use Rattle.parts.specs.declared.Name.{Name}
use Rattle.parts.specs.declared.Kind.{Kind}
use Rattle.parts.specs.declared.Array.{Array}
use Rattle.parts.specs.declared.Array.TheVariants as array
use Rattle.parts.specs.declared.SuffixKind.{SuffixKind}
use Rattle.parts.specs.declared.SuffixKind.TheVariants.{Reset, Address, Stride, Alignment}
use Rattle.parts.specs.declared.Instance.{Instance}
use Rattle.parts.specs.declared.Header.{Header}
use Rattle.parts.specs.declared.Value.{Value}
use Rattle.parts.specs.declared.Value.TheVariants as value
use Rattle.parts.specs.declared.Assignment.{Assignment}
use Rattle.property_values.specs.Settings.{is_field, is_allowed, slot_of, term_of, wanted_of, setting_as, setting_of, value_place, value_refusal, wanted_refusal, refusal_in}
use Rattle.property_values.specs.declared.Wanted.{Wanted}
use Rattle.property_values.specs.declared.Wanted.TheVariants as wanted
use Rattle.property_values.specs.declared.Slot.{Slot}
use Rattle.basics.specs.Judged.{first_of, Judged, fault, fine, onward, unless, found, Verdict, Accepted, Refused}
use Rattle.suffixes.specs.Suffixes.{ranged, settled_fault, is_size, is_range, suffix_range, is_barred, range_fault, array_fault, suffix_fault, instance_fault}
use Rattle.syntax.specs.Tree.{Elem, definition, instances, property, Body, close, more}
use Rattle.identifiers.specs.Names.{bytes_of, is_among}
use Rattle.basics.specs.Given.{is_given}
use Rattle.properties.specs.Assigned.{given_in, settings_of, nearest, no_settings}
use Rattle.properties.specs.Properties.{judge_value, judge_settled, judge_known, judge_property}
use Rattle.properties.specs.declared.Settings.{Settings}
use Rattle.properties.specs.declared.Assigned.{Assigned}
use Rattle.components.specs.Components.{component_of, kind_of}
use Rattle.fields.specs.Fields.{has_unusable_effect}
use Rattle.components.specs.declared.Component.{Component}
use Rattle.components.specs.declared.Component.TheVariants as component
use Rattle.fields.specs.declared.Probe.TheVariants.{Wide, Outside, Span}
use Rattle.cells.specs.Definitions.{Child, Definition, definition_of, names_of, VisibleType, lookup}
use Rattle.closing_rules.specs.Registers.{fields_of, some, overlaps, is_empty, register_fault, closing_fault}
use Rattle.scopes.specs.Places.{may_define, may_hold, is_bad_map}
use Rattle.basics.specs.Limits.{definition_limit}
use Rattle.rules.specs.Judge.{State, Known as Facts, opening, with_assigned, with_held, judge_instances, judge_use, judge_setting, type_twice, name_place, Made, last_of, closed, declared, judge_definition, judge_elem, judge_body, meaning_of, judge_file, judge}
use Rattle.order_laws.specs.Order.{Check, check, operator_checks, is_nowhere, number_checks, array_checks, suffix_checks, instance_checks, list_checks, held_after, Checked, walked, walk_use, is_wrong, assigned_by, value_checks, walk_property, walk_setting, close_checks, walk_close, name_checks, header_checks, walk_definition, walk_elem, walk_body, map_check, file_checks, checks_of, first_failing, fault_of}

-- what was judged is what was walked: no check fails and the results are the same, or the fault is the first check that fails
pub data WalkAgrees {A : Type 0} (w : Checked A) : Judged A → Type 0 where
  agrees_fine : {a : A} → first_failing w.checks ≡ Accepted → w.result ≡ a → WalkAgrees w (fine a)
  agrees_fault : {n p : ℕ} → first_failing w.checks ≡ Refused n p → WalkAgrees w (fault n p)

pub first_append : (xs ys : List Check) → first_failing (xs ++ ys) ≡ first_of (first_failing xs) (first_failing ys)
unfolding first_failing
first_append [] ys = refl
first_append (c ∷ xs) ys = by c.fails (first_append xs ys)
  where
    by : (b : Bool) → first_failing (xs ++ ys) ≡ first_of (first_failing xs) (first_failing ys)
        → (if b then Refused c.number c.place else first_failing (xs ++ ys)) ≡ first_of (if b then Refused c.number c.place else first_failing xs) (first_failing ys)
    by true e = refl
    by false e = e

module _ {A : Type 0} where
  -- a check at the front
  agrees_unless : (b : Bool) (n p : ℕ) (w : Checked A) {j : Judged A} → WalkAgrees w j → WalkAgrees (walked (check n p b ∷ w.checks) w.result) (unless b n p j)
  unfolding first_failing unless
  agrees_unless true n p w h = agrees_fault refl
  agrees_unless false n p w (agrees_fine e f) = agrees_fine e f
  agrees_unless false n p w (agrees_fault e) = agrees_fault e

  -- some checks at the front
  agrees_found : (f : Verdict) (cs : List Check) (w : Checked A) {j : Judged A} → first_failing cs ≡ f → WalkAgrees w j → WalkAgrees (walked (cs ++ w.checks) w.result) (found f j)
  agrees_found Accepted cs w e (agrees_fine g h) = agrees_fine (first_append cs w.checks ∙ (rw (e, g))) h
  agrees_found Accepted cs w e (agrees_fault {n = n} {p = p} g) = agrees_fault {n = n} {p = p} (first_append cs w.checks ∙ (rw (e, g)))
  agrees_found (Refused n p) cs w e h = agrees_fault {n = n} {p = p} (first_append cs w.checks ∙ (rw e))

-- one part behind another
agrees_onward : {A B : Type 0} (w : Checked A) (v : Checked B) {j : Judged A} (k : A → Judged B) → WalkAgrees w j → WalkAgrees v (k w.result) → WalkAgrees (walked (w.checks ++ v.checks) v.result) (onward j k)
unfolding onward
agrees_onward w v k (agrees_fine e f) h = agrees_found Accepted w.checks v e (rw f at h)
agrees_onward w v k (agrees_fault {n = n} {p = p} e) h = agrees_fault {n = n} {p = p} (first_append w.checks v.checks ∙ (rw e))

-- what becomes of a result
agrees_then : {A B : Type 0} (w : Checked A) {j : Judged A} (f : A → B) → WalkAgrees w j → WalkAgrees (walked w.checks (f w.result)) (onward j (λ a. fine (f a)))
unfolding onward
agrees_then w f (agrees_fine e g) = agrees_fine e (ap f g)
agrees_then w f (agrees_fault e) = agrees_fault e

-- the suffixes of an instance
number_first : (inside : Bool) (n : Number) → first_failing (number_checks inside n) ≡ settled_fault n.refusal (ranged inside n.place)
unfolding first_failing settled_fault ranged
number_first inside n = by n.refusal inside
  where
    by : (r : Option ℕ) (b : Bool) → first_failing (check 9 n.place (is_nowhere r && not b) ∷ operator_checks r) ≡ settled_fault r (ranged b n.place)
    by None true = refl
    by None false = refl
    by (Some p) b = refl

range_first : (mark : ℕ) (left right : Number) → first_failing (array_checks true (array.Range mark left right)) ≡ range_fault left right
unfolding first_failing settled_fault ranged
range_first mark left right = by left.refusal right.refusal (is_range left.value right.value)
  where
    by : (l r : Option ℕ) (b : Bool) → first_failing (check 9 left.place ((is_nowhere l && is_nowhere r) && not b) ∷ (operator_checks l ++ operator_checks r))
        ≡ settled_fault l (settled_fault r (ranged b left.place))
    by None None true = refl
    by None None false = refl
    by None (Some q) b = refl
    by (Some p) r b = refl

array_first : (field : Bool) (a : Array) → first_failing (array_checks field a) ≡ array_fault field a
unfolding first_failing
array_first field array.Missing = refl
array_first field (array.Size mark n) = number_first (is_size field n.value) n
array_first true (array.Range mark left right) = range_first mark left right
array_first false (array.Range mark left right) = refl

suffix_first : (barred : Bool) (s : SuffixKind) (x : Option (ℕ × Number)) → first_failing (suffix_checks barred s x) ≡ suffix_fault barred s x
unfolding first_failing
suffix_first barred s None = refl
suffix_first true s (Some (mark, n)) = refl
suffix_first false s (Some (mark, n)) = number_first (suffix_range s n.value) n

instance_first : (k : Kind) (i : Instance) → first_failing (instance_checks k i) ≡ instance_fault k i
unfolding instance_checks instance_fault
instance_first k i =
    let f = is_field k in
    joined (array_checks f i.array) _ (array_first f i.array)
    (joined (suffix_checks (is_barred Reset f i) Reset i.reset) _ (suffix_first (is_barred Reset f i) Reset i.reset)
    (joined (suffix_checks (is_barred Address f i) Address i.address) _ (suffix_first (is_barred Address f i) Address i.address)
    (joined (suffix_checks (is_barred Stride f i) Stride i.stride) _ (suffix_first (is_barred Stride f i) Stride i.stride)
    (suffix_first (is_barred Alignment f i) Alignment i.alignment))))
  where
    joined : (xs ys : List Check) {f g : Verdict} → first_failing xs ≡ f → first_failing ys ≡ g → first_failing (xs ++ ys) ≡ first_of f g
    joined xs ys e h = first_append xs ys ∙ (rw (e, h))

-- a list of instances
list_agrees : (text : List ℕ) (b : Option Kind) (k : Kind) (n : ℕ) (is : List Instance) (held : List Child)
    → WalkAgrees (walked (list_checks text b k n is held) (held_after n is held)) (judge_instances text b k n is held)
unfolding list_checks judge_instances first_failing
list_agrees text b k n [] held = agrees_fine refl (append-nil held)
list_agrees text b k n (i ∷ is) held =
    let c : Child = record { instance = i; type = n } in
    let rest : List Check = list_checks text b k n is (held ++ (c ∷ [])) in
    let v = held_after n is (held ++ (c ∷ [])) in
    let e : v ≡ held_after n (i ∷ is) held = append_assoc held (c ∷ []) (map (λ i. record { instance = i; type = n }) is) in
    rw (← e)
    (agrees_unless (is_among text i.name (names_of held)) 6 i.name.start (walked (check 10 i.name.start (not (may_hold b k)) ∷ (instance_checks k i ++ rest)) v)
    (agrees_unless (not (may_hold b k)) 10 i.name.start (walked (instance_checks k i ++ rest) v)
    (agrees_found (instance_fault k i) (instance_checks k i) (walked rest v) (instance_first k i) (list_agrees text b k n is (held ++ (c ∷ []))))))

-- statements
use_agrees : (text : List ℕ) (b : Option Kind) (n : Name) (is : List Instance) (s : State) (g : Option ℕ) → WalkAgrees (walk_use text b n is s g) (judge_use text b n is s g)
unfolding walk_use judge_use first_failing
use_agrees text b n is s None = agrees_fault refl
use_agrees text b n is s (Some d) =
    let k = kind_of (definition_of s.known.table d).component in
    agrees_then (walked (list_checks text b k d is s.held) (held_after d is s.held)) (λ (cs : List Child). with_held s cs) (list_agrees text b k d is s.held)

-- a value that is set has the refusal of its number; one that is refused where a number is wanted is that number
set-refusal : (w : Wanted) (v : Value) {n : ℕ} → setting_as w (term_of v) ≡ Some n → wanted_refusal w (value_refusal v) ≡ value_refusal v
unfolding setting_as
set-refusal (wanted.Listed l) value.Missing e = refl
set-refusal (wanted.Listed l) (value.Number x) e = absurd cc
set-refusal (wanted.Listed l) (value.String p) e = refl
set-refusal (wanted.Listed l) (value.Word k p) e = refl
set-refusal (wanted.Short c) value.Missing e = refl
set-refusal (wanted.Short c) (value.Number x) e = absurd cc
set-refusal (wanted.Short c) (value.String p) e = refl
set-refusal (wanted.Short c) (value.Word k p) e = refl
set-refusal wanted.AnyNumber v e = refl
set-refusal wanted.Width v e = refl
set-refusal wanted.Alignment v e = refl
set-refusal wanted.String value.Missing e = refl
set-refusal wanted.String (value.Number x) e = absurd cc
set-refusal wanted.String (value.String p) e = refl
set-refusal wanted.String (value.Word k p) e = refl

wanted_refused : (w : Wanted) (r : Option ℕ) {place : ℕ} → wanted_refusal w r ≡ Some place → r ≡ Some place
wanted_refused (wanted.Listed l) r e = absurd cc
wanted_refused (wanted.Short c) r e = absurd cc
wanted_refused wanted.AnyNumber r e = e
wanted_refused wanted.Width r e = e
wanted_refused wanted.Alignment r e = e
wanted_refused wanted.String r e = absurd cc

settled_agrees : (a : Assigned) (p : Assignment) (l : Slot) (q : Property)
    → WalkAgrees (walked (value_checks q p) (assigned_by (setting_of q p.value) p.defaulted a l)) (judge_settled a p l (refusal_in q p.value) (setting_of q p.value))
unfolding judge_value first_failing setting_of refusal_in
settled_agrees a p l q =
    by (refusal_in q p.value) (value_refusal p.value) (setting_of q p.value) (λ n e. set-refusal (wanted_of q) p.value e) (λ place e. wanted_refused (wanted_of q) (value_refusal p.value) e)
  where
    by : (r o : Option ℕ) (x : Option ℕ) → ((n : ℕ) → x ≡ Some n → r ≡ o) → ((place : ℕ) → r ≡ Some place → o ≡ Some place)
        → WalkAgrees (walked (check 9 (value_place p.start p.value) (is_nowhere r && is_wrong x) ∷ operator_checks o) (assigned_by x p.defaulted a l)) (judge_settled a p l r x)
    by None o (Some n) f g = let e : None ≡ o = f n refl in rw (← e) (agrees_fine refl refl)
    by None o None f g = agrees_fault refl
    by (Some place) o x f g = rw (g place refl) (agrees_fault refl)

known_agrees : (k : Kind) (s : State) (p : Assignment) (x : Option Property) → WalkAgrees (walk_property k s p x) (onward (judge_known k s.assigned p x) (λ a. fine (with_assigned s a)))
unfolding walk_property judge_known onward first_failing
known_agrees k s p None = agrees_fault refl
known_agrees k s p (Some q) =
    let v = assigned_by (setting_of q p.value) p.defaulted s.assigned (slot_of q) in
    let cs : List Check = value_checks q p in
    let g = is_given (given_in (settings_of p.defaulted s.assigned) (slot_of q)) in
    agrees_then (walked (check 7 p.start (not (is_allowed p.defaulted q k)) ∷ check 8 p.start g ∷ cs) v) (λ (a : Assigned). with_assigned s a)
    (agrees_unless (not (is_allowed p.defaulted q k)) 7 p.start (walked (check 8 p.start g ∷ cs) v)
    (agrees_unless g 8 p.start (walked cs v) (settled_agrees s.assigned p (slot_of q) q)))

setting_agrees : (text : List ℕ) (b : Option Kind) (s : State) (p : Assignment) → WalkAgrees (walk_setting text b s p) (judge_setting text b s p)
unfolding walk_setting judge_setting judge_property first_failing
setting_agrees text None s p = agrees_fault refl
setting_agrees text (Some k) s p = known_agrees k s p (property_of (bytes_of text p.start p.end))

-- a closing brace: the number 0 means none
abbrev numbered : ℕ → ℕ → Verdict
numbered zero p = Accepted
numbered (suc n) p = Refused (suc n) p

single : (b : Bool) (n p : ℕ) → first_failing (check (suc n) p b ∷ []) ≡ numbered (if b then suc n else 0) p
unfolding first_failing
single true n p = refl
single false n p = refl

close_first : (table : List Definition) (c : Component) (cs : List Child) (p : ℕ) → first_failing (close_checks table c cs p) ≡ numbered (closing_fault table c cs) p
unfolding close_checks closing_fault register_fault first_failing
close_first table (component.Field f) cs p = single (has_unusable_effect f) 11 p
close_first table (component.Register r) cs p =
    by (is_empty cs) (some Wide (fields_of table cs)) (ltb r.width r.access) (some (Outside r.width) (fields_of table cs)) (overlaps (fields_of table cs)) (some (Span r.access) (fields_of table cs))
  where
    by : (a b c d e f : Bool) → first_failing (check 10 p a ∷ check 13 p b ∷ check 14 p c ∷ check 15 p d ∷ check 16 p e ∷ check 17 p f ∷ [])
        ≡ numbered (if a then 10 else if b then 13 else if c then 14 else if d then 15 else if e then 16 else if f then 17 else 0) p
    by true b c d e f = refl
    by false true c d e f = refl
    by false false true d e f = refl
    by false false false true e f = refl
    by false false false false true f = refl
    by false false false false false true = refl
    by false false false false false false = refl
close_first table (component.Regfile a) cs p = single (is_empty cs) 9 p
close_first table (component.Addrmap a m) cs p = single (is_empty cs) 9 p

numbered_agrees : {A : Type 0} (cs : List Check) (a : A) (n p : ℕ) → first_failing cs ≡ numbered n p → WalkAgrees (walked cs a) (unless (ltb 0 n) n p (fine a))
unfolding unless
numbered_agrees cs a zero p e = agrees_fine e refl
numbered_agrees cs a (suc n) p e = rw (lt-ltb 0 (suc n) (omega arith)) (agrees_fault e)

close_agrees : (h : Header) (outer : Settings) (s : State) (p : ℕ) → WalkAgrees (walk_close h outer s p) (closed h outer s p)
unfolding walk_close closed
close_agrees h outer s p =
    let c = component_of h.kind (nearest s.assigned.own outer) in
    let table = s.known.table in
    numbered_agrees (close_checks table c s.held p) _ (closing_fault table c s.held) p (close_first table c s.held p)

-- a definition
name_agrees : {A : Type 0} (text : List ℕ) (here : List VisibleType) (n : Option Name) (w : Checked A) {j : Judged A} → WalkAgrees w j
    → WalkAgrees (walked (name_checks text here n ++ w.checks) w.result) (unless (type_twice text here n) 6 (name_place n) j)
unfolding unless
name_agrees text here None w h = h
name_agrees text here (Some n) w h = agrees_unless (type_twice text here (Some n)) 6 n.start w h

definition_agrees : (text : List ℕ) (b : Option Kind) (outer : Settings) (s : State) (h : Header) (is : List Instance) (w : Checked Made) (body : Settings → State → Judged Made)
    → WalkAgrees w (body (nearest s.assigned.defaults outer) (opening s.known.table s.known.map (s.known.opened + 1)))
    → WalkAgrees (walk_definition text b s h is w) (judge_definition text b outer s h is body)
unfolding walk_definition judge_definition header_checks
definition_agrees text b outer s h is w body a =
    let m = w.result in
    let l : List Check = list_checks text b h.kind (last_of m.table) is s.held in
    let held = held_after (last_of m.table) is s.held in
    let v = with_held (declared s h m) held in
    let inner : List Check = w.checks ++ l in
    let named : List Check = name_checks text s.known.here h.name ++ inner in
    let deep = leb definition_limit s.known.opened in
    agrees_unless (not (may_define b h.kind) || is_bad_map s.known.map h) 10 h.place (walked (check 18 h.place deep ∷ named) v)
    (agrees_unless deep 18 h.place (walked named v)
    (name_agrees text s.known.here h.name (walked inner v)
    (agrees_onward w (walked l v) _ a
    (agrees_then (walked l held) (λ (cs : List Child). with_held (declared s h m) cs) (list_agrees text b h.kind (last_of m.table) is s.held)))))

mutual
  unfolding walk_elem walk_body judge_elem judge_body

  elem_agrees : (e : Elem) (text : List ℕ) (place : Option Kind) (env : List VisibleType) (outer : Settings) (s : State) → WalkAgrees (walk_elem e text place env outer s) (judge_elem e text place env outer s)
  elem_agrees (definition h b is) text place env outer s =
      definition_agrees text place outer s h is _ (λ defaults state. judge_body b text h (s.known.here ++ env) defaults state)
      (body_agrees b text h (s.known.here ++ env) (nearest s.assigned.defaults outer) (opening s.known.table s.known.map (s.known.opened + 1)))
  elem_agrees (instances n is) text place env outer s = use_agrees text place n is s (lookup text n (s.known.here ++ env))
  elem_agrees (property p) text place env outer s = setting_agrees text place s p

  body_agrees : (b : Body) (text : List ℕ) (h : Header) (env : List VisibleType) (outer : Settings) (s : State) → WalkAgrees (walk_body b text h env outer s) (judge_body b text h env outer s)
  body_agrees (close p) text h env outer s = close_agrees h outer s p
  body_agrees (more e rest) text h env outer s =
      let w = walk_elem e text (Some h.kind) env outer s in
      agrees_onward w (walk_body rest text h env outer w.result) _ (elem_agrees e text (Some h.kind) env outer s)
      (body_agrees rest text h env outer w.result)

-- a file
map_first : (k : Facts) (g : Option ℕ) (p : ℕ) → fault_of (meaning_of k g p) ≡ first_failing (map_check g p ∷ [])
unfolding first_failing
map_first k None p = refl
map_first k (Some d) p = refl

onward_first : {A B : Type 0} (w : Checked A) {j : Judged A} (k : A → Judged B) (cs : List Check) → WalkAgrees w j → fault_of (k w.result) ≡ first_failing cs → fault_of (onward j k) ≡ first_failing (w.checks ++ cs)
unfolding onward
onward_first w k cs (agrees_fine e f) h = (rw f at h) ∙ sym (first_append w.checks cs ∙ (rw e))
onward_first w k cs (agrees_fault e) h = sym (first_append w.checks cs ∙ (rw e))

file_first : (b : Body) (text : List ℕ) (s : State) → fault_of (judge_file b text s) ≡ first_failing (file_checks b text s)
unfolding judge_file file_checks
file_first (close p) text s = map_first s.known s.known.map p
file_first (more e rest) text s =
    let w = walk_elem e text None [] no_settings s in
    onward_first w _ (file_checks rest text w.result) (elem_agrees e text None [] no_settings s) (file_first rest text w.result)

pub judge_first : (text : List ℕ) (b : Body) → fault_of (judge text b) ≡ first_failing (checks_of text b)
unfolding judge checks_of
judge_first text b = file_first b text (opening [] None 0)
