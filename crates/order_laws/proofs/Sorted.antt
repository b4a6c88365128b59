-- For a text that the grammar accepts the checks stand in order: each part is read behind the one before it.
use mathlib.Core.Bool.{Bool, true, false, ◌&&◌}
use mathlib.Core.Path.{◌≡◌, refl, sym, ◌∙◌}
use mathlib.Core.List.{List, [], ◌∷◌, ◌++◌}
use mathlib.Core.Logic.{◌⊎◌, inl, inr}
use Prim.Native.Nat.{ℕ, zero, suc, ◌+◌, ◌*◌, ◌<◌, ◌≤◌}
use native.Mathlib.Omega.{arith}
use lib.Dec.{ltb}
use lib.ListN.{length, drop}
use borrow.Author.Tests.{ltb-true, ltb-false}
use Rattle.basics.specs.All.{In, in_here, in_later}
use Rattle.std.specs.Prelude.{if◌then◌else◌, Result, Ok, Err, Option, Some, None}
use Rattle.chars.proofs.Laws.{either, and_right}
use Rattle.lex.specs.Blank.{next_from}
use Rattle.lex.specs.Token.{token_past, token_at}
use Rattle.lex.specs.declared.Token.{Token}
use Rattle.lex.specs.declared.Word.{Word}
use Rattle.lex.specs.declared.Word.TheVariants as word
use Rattle.lex.proofs.Bounds.{Found, next_found, from_lies, token-within, token_inside}
use Rattle.vocabulary.specs.Vocabulary.{property_of}
use Rattle.vocabulary.specs.declared.Keyword.{Keyword}
use Rattle.vocabulary.specs.declared.Mark.{Mark}
use Rattle.vocabulary.specs.declared.Mark.TheVariants as mark
use Rattle.expressions.specs.declared.Number.{Number}
use Rattle.expressions.specs.Grammar.{number_at}
use Rattle.expressions.proofs.Readings.{HoldsRead, holds_ok, holds_stop, holds_of, holds_more, holds_mapped, holds_then}
use Rattle.expressions.proofs.Faults.{NumberLies}
use Rattle.expressions.proofs.Ends.{number_holds}
use Rattle.parts.specs.Reading.{Parsed, ok, stop, mapped}
use Rattle.parts.specs.Words.{role_of, role_value, is_name, kind_of, is_kind, is_default, is_property, is_mark, is_end}
use Rattle.parts.specs.Parts.{closed_by, name_at, array_rest_at, array_at, suffix_mark, suffix_at, bare, set_suffix, with_suffix, bare_at, instance_at, parted_at, listed_at, value_in, value_or, value_at, property, setting_at, property_word_at, property_at, header_rest_at, header_of, header_at, is_named, starts_instances}
use Rattle.parts.specs.declared.Name.{Name}
use Rattle.parts.specs.declared.Array.{Array}
use Rattle.parts.specs.declared.Array.TheVariants as array
use Rattle.parts.specs.declared.SuffixKind.{SuffixKind}
use Rattle.parts.specs.declared.SuffixKind.TheVariants.{Reset, Address, Stride, Alignment}
use Rattle.parts.specs.declared.Instance.{Instance}
use Rattle.parts.specs.declared.ListItem.{ListItem}
use Rattle.parts.specs.declared.Value.{Value}
use Rattle.parts.specs.declared.Value.TheVariants as value
use Rattle.parts.specs.declared.Assignment.{Assignment}
use Rattle.parts.specs.declared.Kind.{Kind}
use Rattle.parts.specs.declared.Kind.TheVariants as kind
use Rattle.parts.specs.declared.Header.{Header}
use Rattle.parts.proofs.Ends.{Ends, ends_of}
use Rattle.property_values.specs.Settings.{is_field, value_place, value_refusal}
use Rattle.suffixes.specs.Suffixes.{is_barred}
use Rattle.basics.specs.Limits.{body_limit}
use Rattle.syntax.specs.Tree.{Elem, definition, instances, property as setting, Body, close, more}
use Rattle.syntax.specs.Grammar.{instances_from, instances_at, instance_statement_at, statement_at, tail_at, element_at, elements_at, definition_with, definition_at, definitions_from, file_at}
use Rattle.syntax.proofs.Ends.{definition_ends}
use Rattle.properties.specs.Assigned.{nearest, no_settings}
use Rattle.properties.specs.declared.Settings.{Settings}
use Rattle.components.specs.Components.{component_of}
use Rattle.components.specs.declared.Component.{Component}
use Rattle.components.specs.declared.Component.TheVariants as component
use Rattle.cells.specs.Definitions.{Child, Definition, VisibleType, lookup}
use Rattle.identifiers.specs.Names.{bytes_of}
use Rattle.rules.specs.Judge.{State, opening}
use Rattle.order_laws.specs.Order.{Check, check, operator_checks, range_operators, array_checks, suffix_checks, instance_checks, list_checks, walk_use, walk_property, walk_setting, close_checks, walk_close, header_checks, walk_definition, walk_elem, walk_body, file_checks, checks_of, Ordered, ordered_none, ordered_on}
use Rattle.vocabulary.specs.declared.Property.{Property}

-- Checks that rise from `low` on and stay below `high`, by place and then by number: no number reaches 32, so one natural number ranks both.
pub data Rises : ℕ → List Check → ℕ → Type 0 where
  rises_none : {low high : ℕ} → low ≤ high → Rises low [] high
  rises_on : {low high n p : ℕ} {b : Bool} {cs : List Check} → low ≤ p * 32 + n → n < 32 → Rises (suc (p * 32 + n)) cs high → Rises low (check n p b ∷ cs) high

-- a check at the front
on : {low high : ℕ} (n p : ℕ) (b : Bool) {cs : List Check} → low ≤ p * 32 + n → n < 32 → Rises (suc (p * 32 + n)) cs high → Rises low (check n p b ∷ cs) high
on n p b l h r = rises_on l h r

rises_low : {low low' high : ℕ} {cs : List Check} → low ≤ low' → Rises low' cs high → Rises low cs high
rises_low {low} {low'} {high} l (rises_none h) = rises_none {low = low} {high = high} (omega arith)
rises_low {low} {low'} {high} l (rises_on {n = n} {p = p} a b c) = rises_on {low = low} {n = n} {p = p} (omega arith) b c

rises_high : {low high high' : ℕ} {cs : List Check} → high ≤ high' → Rises low cs high → Rises low cs high'
rises_high {low} {high} {high'} l (rises_none h) = rises_none {low = low} {high = high'} (omega arith)
rises_high l (rises_on a b c) = rises_on a b (rises_high l c)

rises_append : {low mid high : ℕ} {xs ys : List Check} → Rises low xs mid → Rises mid ys high → Rises low (xs ++ ys) high
rises_append (rises_none h) d = rises_low h d
rises_append (rises_on a b c) d = rises_on a b (rises_append c d)

rises_le : {low high : ℕ} {cs : List Check} → Rises low cs high → low ≤ high
rises_le (rises_none h) = h
rises_le (rises_on a b r) = let w = rises_le r in omega arith

rises_in : {low high : ℕ} {cs : List Check} {c : Check} → Rises low cs high → In c cs → (low ≤ c.place * 32 + c.number) × (c.number < 32)
rises_in {c = c} (rises_none {low = low} {high = high} _) x6 = elim x6 [ ]
rises_in (rises_on a b r) in_here = (a, b)
rises_in (rises_on a b r) (in_later i) = let w = rises_in r i in (omega arith, w.1)

-- so they are in order
ranked : (n p m q : ℕ) → n < 32 → m < 32 → suc (p * 32 + n) ≤ q * 32 + m → (p < q) ⊎ ((p ≡ q) × (n < m))
ranked n p m q a b l = by (ltb p q) refl
  where
    by : (r : Bool) → ltb p q ≡ r → (p < q) ⊎ ((p ≡ q) × (n < m))
    by true e = inl (ltb-true p q e)
    by false e = let g = ltb-false p q e in let z : p ≡ q = omega arith in inr (z, omega arith)

rises_ordered : {low high : ℕ} {cs : List Check} → Rises low cs high → Ordered cs
rises_ordered (rises_none h) = ordered_none
rises_ordered (rises_on {n = n} {p = p} a b r) = ordered_on (λ d i. let w = rises_in r i in ranked n p d.number d.place b w.1 w.0) (rises_ordered r)

-- what each part's places are, read from `at` to `n`
record Numbers (at : ℕ) (x : Number) (n : ℕ) : Type 0 where
  pub first : at ≤ x.place
  pub before : x.place < n
  pub operators : Rises (suc x.place * 32) (operator_checks x.refusal) (n * 32)

abbrev Names : ℕ → Name → ℕ → Type 0
Names at x n = (at ≤ x.start) × (x.start < n)

abbrev Arrays : ℕ → Array → ℕ → Type 0
Arrays at a n = (field : Bool) → Rises (at * 32) (array_checks field a) (n * 32)

abbrev Suffixed : ℕ → Option (ℕ × Number) → ℕ → Type 0
Suffixed at x n = (barred : Bool) (s : SuffixKind) → Rises (at * 32) (suffix_checks barred s x) (n * 32)

record Bare (at : ℕ) (m : Name) (a : Array) (n : ℕ) : Type 0 where
  pub named : at ≤ m.start
  pub array : Arrays (suc m.start) a n

record Then (P : ℕ → Type 0) (x : Option (ℕ × Number)) (n : ℕ) : Type 0 where
  pub mid : ℕ
  pub base : P mid
  pub last : Suffixed mid x n

record InstanceRises (at : ℕ) (i : Instance) (n : ℕ) : Type 0 where
  pub named : at ≤ i.name.start
  pub rest : (k : Kind) → Rises (suc i.name.start * 32) (instance_checks k i) (n * 32)

abbrev Listing : ℕ → List Instance → ℕ → Type 0
Listing at is n = (text : List ℕ) (b : Option Kind) (k : Kind) (d : ℕ) (held : List Child) → Rises (at * 32) (list_checks text b k d is held) (n * 32)

record ValueRises (at : ℕ) (v : Value) (n q : ℕ) : Type 0 where
  pub first : at ≤ value_place q v
  pub before : value_place q v < n
  pub operators : Rises (suc (value_place q v) * 32) (operator_checks (value_refusal v)) (n * 32)

record Set (at : ℕ) (p : Assignment) (n : ℕ) : Type 0 where
  pub start : at ≤ p.start
  pub value : ValueRises p.start p.value n p.start

abbrev Headed : ℕ → Header → ℕ → Type 0
Headed at h n = (text : List ℕ) (b : Option Kind) (s : State) → Rises (at * 32) (header_checks text b s h) (n * 32)

abbrev Walks : ℕ → Elem → ℕ → Type 0
Walks at e n = (text : List ℕ) (b : Option Kind) (env : List VisibleType) (outer : Settings) (s : State) → Rises (at * 32) (walk_elem e text b env outer s).checks (n * 32)

abbrev Bodies : ℕ → Body → ℕ → Type 0
Bodies at b n = (text : List ℕ) (h : Header) (env : List VisibleType) (outer : Settings) (s : State) → Rises (at * 32) (walk_body b text h env outer s).checks (n * 32)

abbrev Files : ℕ → Body → ℕ → Type 0
Files at b n = (text : List ℕ) (s : State) → Rises (at * 32) (file_checks b text s) (suc n * 32)

module _ (t : List ℕ) where
  -- a token that is not the end starts at the cursor or after it, and ends behind its start
  token_lies : (at : ℕ) → ((token_at t at).word ≡ word.End → ⊥) → (at ≤ (token_at t at).start) × ((token_at t at).start < (token_at t at).end)
  unfolding token_at
  token_lies at n = by (next_from t at) (next_found t at (omega (arith, token_inside t at n))) n
    where
      by : (x : Result ℕ ℕ) → Found at at (length t) x → ((token_past t x).word ≡ word.End → ⊥) → (at ≤ (token_past t x).start) × ((token_past t x).start < (token_past t x).end)
      by (Ok i) f n = let l = from_lies i (drop i t) in (omega (arith, l.starts, f), omega (arith, l.starts, l.moves n))
      by (Err o) f n = (omega arith, omega arith)

  test_lies : (P : Word → Bool) (at : ℕ) → P word.End ≡ false → P (token_at t at).word ≡ true → (at ≤ (token_at t at).start) × ((token_at t at).start < (token_at t at).end)
  test_lies P at n y = token_lies at (λ e. differ (rw e at y))
    where
      differ : P word.End ≡ true → ⊥
      differ z =
          let f : false ≡ true = sym n ∙ z in
          cc

  mark_lies : (m : Mark) (at : ℕ) → is_mark m (token_at t at).word ≡ true → (at ≤ (token_at t at).start) × ((token_at t at).start < (token_at t at).end)
  unfolding is_mark
  mark_lies m at = test_lies (is_mark m) at refl

  name_lies : (at : ℕ) → is_name (token_at t at).word ≡ true → (at ≤ (token_at t at).start) × ((token_at t at).start < (token_at t at).end)
  unfolding is_name
  name_lies at = test_lies is_name at refl

  closed_holds : {A : Type 0} {Q : A → ℕ → Type 0} (m : Mark) (a : A) (at : ℕ) → ((n : ℕ) → at < n → Q a n) → HoldsRead Q (closed_by m a t at)
  unfolding closed_by
  closed_holds {A} {Q} m a at f =
      either (HoldsRead Q) (is_mark m (token_at t at).word) (λ y. holds_ok (f (token_at t at).end (omega (arith, mark_lies m at y)))) (λ _. holds_stop)

  name_holds : (at : ℕ) → HoldsRead (Names at) (name_at t at)
  unfolding name_at
  name_holds at = either (HoldsRead (Names at)) (is_name (token_at t at).word) (λ y. holds_ok (name_lies at y)) (λ _. holds_stop)

  operator_rises : (r : Option ℕ) (low n : ℕ) → low ≤ n → ((p : ℕ) → r ≡ Some p → (low ≤ p) × (p < n)) → Rises (low * 32) (operator_checks r) (n * 32)
  operator_rises None low n l f = rises_none {low = low * 32} {high = n * 32} (omega arith)
  operator_rises (Some p) low n l f = let w = f p refl in on 9 p true (omega arith) (omega arith) (rises_none (omega arith))

  numbers_hold : (at : ℕ) → HoldsRead (Numbers at) (number_at t at)
  numbers_hold at = holds_more lies (number_holds t at)
    where
      lies : (x : Number) (n : ℕ) → NumberLies t at x n → Numbers at x n
      lies x n h = record { first = h.first; before = h.before; operators = operator_rises x.refusal (suc x.place) n h.before (λ p e. h.operator p e) }

  numbers_behind : {low at : ℕ} {x : Number} {n : ℕ} → low ≤ at → Numbers at x n → Numbers low x n
  numbers_behind l h = record { first = omega (arith, h.first); before = h.before; operators = h.operators }

  numbers_on : {at : ℕ} {x : Number} {n m : ℕ} → n ≤ m → Numbers at x n → Numbers at x m
  numbers_on l h = record { first = h.first; before = omega (arith, h.before); operators = rises_high (omega arith) h.operators }

  -- an array
  array_size : (low p : ℕ) (left : Number) (n : ℕ) {m : ℕ} → low ≤ p → Numbers (suc p) left n → n ≤ m → Arrays low (array.Size p left) m
  array_size low p left n a h l field = on 9 left.place _ (omega (arith, h.first)) (omega arith) (rises_low (omega arith) (rises_high (omega arith) h.operators))

  -- the operators of a range behind its left number's first byte
  range_operators_lem : (p : ℕ) (left right : Number) (mid n m : ℕ) → Numbers (suc p) left mid → Numbers mid right n → n ≤ m
      → Rises (suc left.place * 32) (range_operators left right) (m * 32)
  range_operators_lem p left right mid n m h k l =
      rises_append h.operators (rises_low (omega (arith, k.first)) (rises_high (omega arith) k.operators))

  array_range : (low p : ℕ) (left right : Number) (mid n m : ℕ) → low ≤ p → Numbers (suc p) left mid → Numbers mid right n → n ≤ m → Arrays low (array.Range p left right) m
  array_range low p left right mid n m a h k l true =
      on 9 left.place _ (omega (arith, h.first)) (omega arith) (rises_low (omega arith) (range_operators_lem p left right mid n m h k l))
  array_range low p left right mid n m a h k l false =
      on 11 p _ (omega arith) (omega arith) (rises_low (omega (arith, h.first)) (range_operators_lem p left right mid n m h k l))

  array_rest_holds : (low p : ℕ) (left : Number) (at : ℕ) → low ≤ p → Numbers (suc p) left at → HoldsRead (Arrays low) (array_rest_at p left t at)
  unfolding array_rest_at
  array_rest_holds low p left at a h =
      let E = HoldsRead (Arrays low) in
      either E (is_mark mark.CloseBracket (token_at t at).word) (λ y. holds_ok (array_size low p left at a h (omega (arith, mark_lies mark.CloseBracket at y))))
      (λ _. either E (is_mark mark.Colon (token_at t at).word)
      (λ y. holds_then (numbers_hold (token_at t at).end) (λ right n k.
      closed_holds mark.CloseBracket (array.Range p left right) n (λ m l. array_range low p left right (token_at t at).end n m a (numbers_on (omega (arith, mark_lies mark.Colon at y)) h) k (omega arith))))
      (λ _. holds_stop))

  array_holds : (low at : ℕ) → low ≤ at → HoldsRead (Arrays low) (array_at t at)
  unfolding array_at
  array_holds low at l =
      either (HoldsRead (Arrays low)) (is_mark mark.OpenBracket (token_at t at).word)
      (λ y. let w = mark_lies mark.OpenBracket at y in holds_then (numbers_hold (token_at t at).end) (λ left n h.
      array_rest_holds low (token_at t at).start left n (omega (arith, w)) (numbers_behind w.1 h)))
      (λ _. holds_ok (λ field. rises_none (omega arith)))

  -- a suffix
  suffix_given : (at p : ℕ) (x : Number) (n : ℕ) → at ≤ p → Numbers (suc p) x n → Suffixed at (Some (p, x)) n
  suffix_given at p x n a h barred s =
      on 11 p _ (omega arith) (omega arith)
      (on 9 x.place _ (omega (arith, h.first)) (omega arith) (rises_low (omega arith) h.operators))

  suffix_holds : (s : SuffixKind) (at : ℕ) → HoldsRead (Suffixed at) (suffix_at s t at)
  unfolding suffix_at
  suffix_holds s at =
      either (HoldsRead (Suffixed at)) (is_mark (suffix_mark s) (token_at t at).word)
      (λ y. let w = mark_lies (suffix_mark s) at y in
      holds_mapped (λ (x : Number). Some ((token_at t at).start, x)) (λ x n h. suffix_given at (token_at t at).start x n w.0 (numbers_behind w.1 h)) (numbers_hold (token_at t at).end))
      (λ _. holds_ok (λ barred k. rises_none (omega arith)))

  -- an instance
  abbrev Instanced0 : ℕ → Instance → ℕ → Type 0
  Instanced0 at i n = Bare at i.name i.array n

  abbrev Instanced1 : ℕ → Instance → ℕ → Type 0
  Instanced1 at i n = Then (Bare at i.name i.array) i.reset n

  abbrev Instanced2 : ℕ → Instance → ℕ → Type 0
  Instanced2 at i n = Then (Then (Bare at i.name i.array) i.reset) i.address n

  abbrev Instanced3 : ℕ → Instance → ℕ → Type 0
  Instanced3 at i n = Then (Then (Then (Bare at i.name i.array) i.reset) i.address) i.stride n

  abbrev Instanced4 : ℕ → Instance → ℕ → Type 0
  Instanced4 at i n = Then (Then (Then (Then (Bare at i.name i.array) i.reset) i.address) i.stride) i.alignment n

  bare_holds : (at : ℕ) → HoldsRead (Instanced0 at) (bare_at t at)
  unfolding bare_at
  bare_holds at = holds_then (name_holds at) (λ m next h. holds_mapped (bare m) (λ a n w. record { named = h.0; array = w }) (array_holds (suc m.start) next h.1))

  reset_holds : (at : ℕ) {p : Parsed Instance} → HoldsRead (Instanced0 at) p → HoldsRead (Instanced1 at) (with_suffix Reset t p)
  unfolding with_suffix set_suffix
  reset_holds at h = holds_then h (λ i n b. holds_mapped (λ x. set_suffix Reset x i) (λ x m w. record { mid = n; base = b; last = w }) (suffix_holds Reset n))

  address_holds : (at : ℕ) {p : Parsed Instance} → HoldsRead (Instanced1 at) p → HoldsRead (Instanced2 at) (with_suffix Address t p)
  unfolding with_suffix set_suffix
  address_holds at h = holds_then h (λ i n b. holds_mapped (λ x. set_suffix Address x i) (λ x m w. record { mid = n; base = b; last = w }) (suffix_holds Address n))

  stride_holds : (at : ℕ) {p : Parsed Instance} → HoldsRead (Instanced2 at) p → HoldsRead (Instanced3 at) (with_suffix Stride t p)
  unfolding with_suffix set_suffix
  stride_holds at h = holds_then h (λ i n b. holds_mapped (λ x. set_suffix Stride x i) (λ x m w. record { mid = n; base = b; last = w }) (suffix_holds Stride n))

  alignment_holds : (at : ℕ) {p : Parsed Instance} → HoldsRead (Instanced3 at) p → HoldsRead (Instanced4 at) (with_suffix Alignment t p)
  unfolding with_suffix set_suffix
  alignment_holds at h = holds_then h (λ i n b. holds_mapped (λ x. set_suffix Alignment x i) (λ x m w. record { mid = n; base = b; last = w }) (suffix_holds Alignment n))

  placed : (at : ℕ) (i : Instance) (n : ℕ) → Instanced4 at i n → InstanceRises at i n
  unfolding instance_checks
  placed at i n w =
      record {
        named = w.base.base.base.base.named;
        rest = λ k.
            rises_append (w.base.base.base.base.array (is_field k))
            (rises_append (w.base.base.base.last (is_barred Reset (is_field k) i) Reset)
            (rises_append (w.base.base.last (is_barred Address (is_field k) i) Address)
            (rises_append (w.base.last (is_barred Stride (is_field k) i) Stride)
            (w.last (is_barred Alignment (is_field k) i) Alignment))));
      }

  instance_holds : (at : ℕ) → HoldsRead (InstanceRises at) (instance_at t at)
  unfolding instance_at
  instance_holds at = holds_more (placed at) (alignment_holds at (stride_holds at (address_holds at (reset_holds at (bare_holds at)))))

  placed_on : (at : ℕ) (i : Instance) (n m : ℕ) → n ≤ m → InstanceRises at i n → InstanceRises at i m
  placed_on at i n m l w = record { named = w.named; rest = λ k. rises_high (omega arith) (w.rest k) }

  parted_holds : (at : ℕ) (i : Instance) (next : ℕ) → InstanceRises at i next → HoldsRead (λ (l : ListItem) n. InstanceRises at l.instance n) (parted_at i t next)
  unfolding parted_at
  parted_holds at i next w =
      let E = HoldsRead (λ (l : ListItem) n. InstanceRises at l.instance n) in
      either E (is_mark mark.Semicolon (token_at t next).word) (λ y. holds_ok (placed_on at i next (token_at t next).end (omega (arith, mark_lies mark.Semicolon next y)) w))
      (λ _. either E (is_mark mark.Comma (token_at t next).word) (λ y. holds_ok (placed_on at i next (token_at t next).end (omega (arith, mark_lies mark.Comma next y)) w)) (λ _. holds_stop))

  listed_holds : (at : ℕ) → HoldsRead (λ (l : ListItem) n. InstanceRises at l.instance n) (listed_at t at)
  unfolding listed_at
  listed_holds at = holds_then (instance_holds at) (λ i n w. parted_holds at i n w)

  -- a list of instances
  list_one : (at : ℕ) (i : Instance) (n : ℕ) → InstanceRises at i n → (is : List Instance) (m : ℕ) → Listing n is m → Listing at (i ∷ is) m
  unfolding list_checks
  list_one at i n w is m l text b k d held =
      let h = w.named in
      on 6 i.name.start _ (omega arith) (omega arith)
      (on 10 i.name.start _ (omega arith) (omega arith)
      (rises_append (rises_low (omega arith) (w.rest k)) (l text b k d _)))

  list_none : (at n : ℕ) → at ≤ n → Listing at [] n
  unfolding list_checks
  list_none at n l text b k d held = rises_none {low = at * 32} {high = n * 32} (omega arith)

  instances_from_lem : (turns at : ℕ) → HoldsRead (Listing at) (instances_from turns t at)
  unfolding instances_from
  instances_from_lem zero at = holds_stop
  instances_from_lem (suc turns) at =
      holds_then (listed_holds at) (λ l n w.
      either (HoldsRead (Listing at)) l.last (λ _. holds_ok (list_one at l.instance n w [] n (list_none n n (omega arith))))
      (λ _. holds_mapped (λ is. l.instance ∷ is) (λ is m r. list_one at l.instance n w is m r) (instances_from_lem turns n)))

  instances_holds : (at : ℕ) → HoldsRead (Listing at) (instances_at t at)
  unfolding instances_at
  instances_holds at = instances_from_lem (suc (length t)) at

  tail_holds : (named : Bool) (at : ℕ) → HoldsRead (Listing at) (tail_at named t at)
  unfolding tail_at
  tail_holds named at =
      either (HoldsRead (Listing at)) (named && is_mark mark.Semicolon (token_at t at).word)
      (λ y. holds_ok (list_none at (token_at t at).end (omega (arith, mark_lies mark.Semicolon at (and_right named _ y))))) (λ _. instances_holds at)

  -- a property statement
  value_in_place : (w : Word) (p q : ℕ) {v : Value} → value_in w p ≡ Some v → ((value_place q v ≡ p) × (value_refusal v ≡ None)) × (w ≡ word.End → ⊥)
  value_in_place w p q {v} e = (by w e, λ z. let f : None ≡ Some v = rw z at e in cc)
    where
      none : {X : Type 0} → None ≡ Some v → X
      none f = absurd cc

      chosen : (k : Keyword) (b : Bool) → (if b then Some (value.Word k p) else None) ≡ Some v → (value_place q v ≡ p) × (value_refusal v ≡ None)
      chosen k true f = let z : value.Word k p ≡ v = cc in rw (← z) (refl, refl)
      chosen k false f = none f

      by : (w : Word) → value_in w p ≡ Some v → (value_place q v ≡ p) × (value_refusal v ≡ None)
      by word.End f = none f
      by word.Name f = none f
      by (word.Keyword k) f = chosen k (role_value (role_of k)) f
      by (word.Number n) f = none f
      by word.String f = let z : value.String p ≡ v = cc in rw (← z) (refl, refl)
      by (word.Mark m) f = none f
      by (word.Bad c) f = none f

  value_holds : (at q : ℕ) → HoldsRead (λ v n. ValueRises at v n q) (value_at t at)
  unfolding value_at
  value_holds at q = by (value_in (token_at t at).word (token_at t at).start) refl
    where
      by : (x : Option Value) → value_in (token_at t at).word (token_at t at).start ≡ x → HoldsRead (λ v n. ValueRises at v n q) (value_or x (token_at t at).end (mapped value.Number (number_at t at)))
      by (Some v) e =
          let w = value_in_place (token_at t at).word (token_at t at).start q e in
          let l = token_lies at w.1 in
          holds_ok {a = v} {n = (token_at t at).end}
          (record { first = omega (arith, w.0.0, l); before = omega (arith, w.0.0, l); operators = rw w.0.1 (rises_none {low = suc (value_place q v) * 32} {high = (token_at t at).end * 32} (omega (arith, w.0.0, l))) })
      by None e = holds_mapped value.Number (λ x n h. record { first = h.first; before = h.before; operators = h.operators }) (numbers_hold at)

  setting_holds : (low : ℕ) (d : Bool) (w : Token) (at : ℕ) → low ≤ w.start → w.start < at → HoldsRead (Set low) (setting_at d w t at)
  unfolding setting_at
  setting_holds low d w at a b =
      either (HoldsRead (Set low)) (is_mark mark.Semicolon (token_at t at).word)
      (λ y. let l = mark_lies mark.Semicolon at y in
      holds_ok (record { start = a; value = record { first = omega arith; before = omega (arith, l); operators = rises_none (omega (arith, l)) } }))
      (λ _. either (HoldsRead (Set low)) (is_mark mark.Equals (token_at t at).word)
      (λ y. holds_then (value_holds (token_at t at).end w.start) (λ v n h.
      closed_holds mark.Semicolon (property d w v) n (λ m l.
      record {
        start = a;
        value = record { first = omega (arith, mark_lies mark.Equals at y, h.first); before = omega (arith, h.before); operators = rises_high (omega arith) h.operators };
      })))
      (λ _. holds_stop))

  word_holds : (low : ℕ) (d : Bool) (at : ℕ) → low ≤ at → HoldsRead (Set low) (property_word_at d t at)
  unfolding property_word_at is_property
  word_holds low d at l =
      either (HoldsRead (Set low)) (is_property (token_at t at).word)
      (λ y. let w = test_lies is_property at refl y in setting_holds low d (token_at t at) (token_at t at).end (omega (arith, w)) w.1) (λ _. holds_stop)

  property_holds : (at : ℕ) → HoldsRead (Set at) (property_at t at)
  unfolding property_at is_default
  property_holds at =
      either (HoldsRead (Set at)) (is_default (token_at t at).word)
      (λ y. word_holds at true (token_at t at).end (omega (arith, test_lies is_default at refl y))) (λ _. word_holds at false at (omega arith))

  property_walks : (at : ℕ) (p : Assignment) (n : ℕ) → Set at p n → Walks at (setting p) n
  unfolding walk_elem walk_setting walk_property
  property_walks at p n w text b env outer s = by b
    where
      v : ValueRises p.start p.value n p.start
      v = w.value

      one : Rises (at * 32) (check 7 p.start true ∷ operator_checks (value_refusal p.value)) (n * 32)
      one = on 7 p.start _ (omega (arith, w.start)) (omega arith) (rises_low (omega (arith, v.first)) v.operators)

      known : (k : Kind) (x : Option Property) → Rises (at * 32) (walk_property k s p x).checks (n * 32)
      known k None = one
      known k (Some q) =
          on 7 p.start _ (omega (arith, w.start)) (omega arith)
          (on 8 p.start _ (omega arith) (omega arith)
          (on 9 (value_place p.start p.value) _ (omega (arith, v.first)) (omega arith) (rises_low (omega arith) v.operators)))

      by : (b : Option Kind) → Rises (at * 32) (walk_setting text b s p).checks (n * 32)
      by None = one
      by (Some k) = known k (property_of (bytes_of text p.start p.end))

  -- an instance statement
  use_walks : (at : ℕ) (m : Name) (next : ℕ) → Names at m next → (is : List Instance) (n : ℕ) → Listing next is n → Walks at (instances m is) n
  unfolding walk_elem walk_use
  use_walks at m next h is n l text b env outer s = by (lookup text m (s.known.here ++ env))
    where
      by : (g : Option ℕ) → Rises (at * 32) (walk_use text b m is s g).checks (n * 32)
      by None = on 5 m.start _ (omega (arith, h)) (omega arith) (rises_none (omega (arith, h, rises_le (l text b kind.Reg 0 []))))
      by (Some d) = rises_low (omega (arith, h)) (l text b _ d s.held)

  statement_holds : (at : ℕ) → HoldsRead (Walks at) (statement_at t at)
  unfolding statement_at instance_statement_at
  statement_holds at =
      either (HoldsRead (Walks at)) (starts_instances t at)
      (λ _. holds_then (name_holds at) (λ m next h. holds_mapped (instances m) (λ is n l. use_walks at m next h is n l) (instances_holds next)))
      (λ _. holds_mapped setting (property_walks at) (property_holds at))

  -- a definition's head
  head_plain : (at : ℕ) (h : Header) (n : ℕ) → at ≤ h.place → h.place < n → h.name ≡ None → Headed at h n
  unfolding header_checks
  head_plain at h n a b e text place s =
      rw e
      (on 10 h.place _ (omega arith) (omega arith)
      (on 18 h.place _ (omega arith) (omega arith) (rises_none (omega arith))))

  head_named : (at : ℕ) (h : Header) (m : Name) (n : ℕ) → at ≤ h.place → h.place < m.start → m.start < n → h.name ≡ Some m → Headed at h n
  unfolding header_checks
  head_named at h m n a b c e text place s =
      rw e
      (on 10 h.place _ (omega arith) (omega arith)
      (on 18 h.place _ (omega arith) (omega arith)
      (on 6 m.start _ (omega arith) (omega arith) (rises_none (omega arith)))))

  head_rest_holds : (low : ℕ) (c : Kind) (p at : ℕ) → low ≤ p → p < at → HoldsRead (Headed low) (header_rest_at c p t at)
  unfolding header_rest_at
  head_rest_holds low c p at a b =
      let n : ℕ = (token_at t at).end in
      let E = HoldsRead (Headed low) in
      either E (is_mark mark.OpenBrace (token_at t at).word) (λ y. holds_ok (head_plain low _ n a (omega (arith, mark_lies mark.OpenBrace at y)) refl))
      (λ _. either E (is_name (token_at t at).word)
      (λ y. either E (is_mark mark.OpenBrace (token_at t n).word)
      (λ z. holds_ok (head_named low _ (record { start = (token_at t at).start; end = n }) (token_at t n).end a (omega (arith, name_lies at y)) (omega (arith, name_lies at y, mark_lies mark.OpenBrace n z)) refl))
      (λ _. holds_stop))
      (λ _. holds_stop))

  head_holds : (at : ℕ) → HoldsRead (Headed at) (header_at t at)
  unfolding header_at kind_of
  head_holds at = by (kind_of (token_at t at).word) refl
    where
      none : {c : Kind} → kind_of (token_at t at).word ≡ Some c → (token_at t at).word ≡ word.End → ⊥
      none {c} e z =
          let f : None ≡ Some c = rw z at e in
          cc

      by : (x : Option Kind) → kind_of (token_at t at).word ≡ x → HoldsRead (Headed at) (header_of x (token_at t at) t)
      by (Some c) e = let w = token_lies at (none e) in head_rest_holds at c (token_at t at).start (token_at t at).end w.0 w.1
      by None e = holds_stop

  -- a closing brace
  close_rises : (table : List Definition) (c : Component) (cs : List Child) (at p n : ℕ) → at ≤ p → p < n → Rises (at * 32) (close_checks table c cs p) (n * 32)
  unfolding close_checks
  close_rises table (component.Field f) cs at p n a b = on 12 p _ (omega arith) (omega arith) (rises_none (omega arith))
  close_rises table (component.Register r) cs at p n a b =
      on 10 p _ (omega arith) (omega arith)
      (on 13 p _ (omega arith) (omega arith)
      (on 14 p _ (omega arith) (omega arith)
      (on 15 p _ (omega arith) (omega arith)
      (on 16 p _ (omega arith) (omega arith)
      (on 17 p _ (omega arith) (omega arith) (rises_none (omega arith)))))))
  close_rises table (component.Regfile v) cs at p n a b = on 10 p _ (omega arith) (omega arith) (rises_none (omega arith))
  close_rises table (component.Addrmap v m) cs at p n a b = on 10 p _ (omega arith) (omega arith) (rises_none (omega arith))

  close_walks : (at p n : ℕ) → at ≤ p → p < n → Bodies at (close p) n
  unfolding walk_body walk_close
  close_walks at p n a b text h env outer s = close_rises s.known.table (component_of h.kind (nearest s.assigned.own outer)) s.held at p n a b

  more_walks : (at : ℕ) (e : Elem) (n : ℕ) → Walks at e n → (b : Body) (m : ℕ) → Bodies n b m → Bodies at (more e b) m
  unfolding walk_body
  more_walks at e n w b m r text h env outer s = rises_append (w text (Some h.kind) env outer s) (r text h env outer _)

  -- a body, with a reader of definitions
  module _ (d : ℕ → Parsed Elem) (walks : (at : ℕ) → HoldsRead (Walks at) (d at)) where
    element_holds : (at : ℕ) → HoldsRead (Walks at) (element_at d t at)
    unfolding element_at
    element_holds at = either (HoldsRead (Walks at)) (is_kind (token_at t at).word) (λ _. walks at) (λ _. statement_holds at)

    elements_holds : (turns at : ℕ) → HoldsRead (Bodies at) (elements_at d turns t at)
    unfolding elements_at
    elements_holds zero at = holds_stop
    elements_holds (suc turns) at =
        either (HoldsRead (Bodies at)) (is_mark mark.CloseBrace (token_at t at).word)
        (λ y. let w = mark_lies mark.CloseBrace at y in holds_ok (close_walks at (token_at t at).start (token_at t at).end w.0 w.1))
        (λ _. holds_then (element_holds at) (λ e n w. holds_mapped (more e) (λ b m r. more_walks at e n w b m r) (elements_holds turns n)))

  definition_walks : (at : ℕ) (h : Header) (inside : ℕ) → Headed at h inside → (b : Body) (next : ℕ) → Bodies inside b next → (is : List Instance) (n : ℕ) → Listing next is n
      → Walks at (definition h b is) n
  unfolding walk_elem walk_definition
  definition_walks at h inside w b next r is n l text place env outer s = rises_append (w text place s) (rises_append (r text h _ _ _) (l text place h.kind _ s.held))

  with_holds : (body : Header → ℕ → Parsed Body) → ((h : Header) (at : ℕ) → HoldsRead (Bodies at) (body h at)) → (at : ℕ) → HoldsRead (Walks at) (definition_with body t at)
  unfolding definition_with
  with_holds body f at =
      holds_then (head_holds at) (λ h inside w.
      holds_then (f h inside) (λ b next r.
      holds_mapped (definition h b) (λ is n l. definition_walks at h inside w b next r is n l) (tail_holds (is_named h.name) next)))

  definition_holds : (bodies at : ℕ) → HoldsRead (Walks at) (definition_at bodies t at)
  unfolding definition_at
  definition_holds zero at = with_holds (λ h inside. stop 18 h.brace) (λ h at. holds_stop) at
  definition_holds (suc bodies) at =
      with_holds (λ h inside. elements_at (definition_at bodies t) (suc (length t)) t inside) (λ h at. elements_holds (definition_at bodies t) (definition_holds bodies) (suc (length t)) at) at

  -- a file
  end_files : (at p n : ℕ) → at ≤ p → p ≤ n → Files at (close p) n
  unfolding file_checks
  end_files at p n a b text s = on 10 p _ (omega arith) (omega arith) (rises_none (omega arith))

  more_files : (at : ℕ) (e : Elem) (n : ℕ) → Walks at e n → (b : Body) (m : ℕ) → Files n b m → Files at (more e b) m
  unfolding file_checks
  more_files at e n w b m r text s = rises_append (w text None [] no_settings s) (r text _)

  -- what was read of a definition, and that it ends within the text
  inner : (at : ℕ) → HoldsRead (λ e n. Walks at e n × (n ≤ length t)) (definition_at body_limit t at)
  inner at = join (definition_holds body_limit at) (definition_ends t body_limit at)
    where
      join : {p : Parsed Elem} → HoldsRead (Walks at) p → Ends (suc at) (length t) p → HoldsRead (λ e n. Walks at e n × (n ≤ length t)) p
      join (holds_ok h) e = holds_ok (h, (ends_of e refl).1)
      join holds_stop e = holds_stop

  definitions_holds : (turns at : ℕ) → at ≤ length t → HoldsRead (Files at) (definitions_from turns t at)
  unfolding definitions_from
  definitions_holds zero at i = holds_stop
  definitions_holds (suc turns) at i =
      either (HoldsRead (Files at)) (is_end (token_at t at).word)
      (λ y. let w = token-within t at i in holds_ok (end_files at (token_at t at).start (token_at t at).end w.after w.ordered))
      (λ _. holds_then (inner at) (λ e n w. holds_mapped (more e) (λ b m r. more_files at e n w.0 b m r) (definitions_holds turns n w.1)))

  file_holds : HoldsRead (Files 0) (file_at t)
  unfolding file_at
  file_holds = definitions_holds (suc (length t)) 0 (omega arith)

pub checks_ordered : (text : List ℕ) {b : Body} {n : ℕ} → file_at text ≡ ok b n → Ordered (checks_of text b)
unfolding checks_of
checks_ordered text e = rises_ordered (holds_of (file_holds text) e text (opening [] None 0))
