-- Every name that the grammar reads is a name of document 01.
use mathlib.Core.Bool.{Bool, ◌&&◌}
use mathlib.Core.Path.{◌≡◌}
use mathlib.Core.List.{List}
use Prim.Native.Nat.{ℕ, zero, suc}
use lib.ListN.{length}
use Rattle.chars.proofs.Laws.{either}
use Rattle.lex.specs.Token.{token_at}
use Rattle.vocabulary.specs.declared.Mark.TheVariants as mark
use Rattle.parts.specs.Reading.{Parsed, ok, stop, and_then, mapped}
use Rattle.parts.specs.Words.{is_name, kind_of, is_mark, is_kind, is_end}
use Rattle.parts.specs.Parts.{name_at, array_at, suffix_at, bare, set_suffix, with_suffix, bare_at, instance_at, parted_at, listed_at, property_at, header_rest_at, header_of, header_at, is_named, starts_instances}
use Rattle.parts.specs.declared.Name.{Name}
use Rattle.parts.specs.declared.Kind.{Kind}
use Rattle.parts.specs.declared.SuffixKind.{SuffixKind}
use Rattle.parts.specs.declared.SuffixKind.TheVariants.{Reset, Address, Stride, Alignment}
use Rattle.parts.specs.declared.Instance.{Instance}
use Rattle.parts.specs.declared.ListItem.{ListItem}
use Rattle.parts.specs.declared.Assignment.{Assignment}
use Rattle.parts.specs.declared.Header.{Header}
use Rattle.basics.specs.Limits.{body_limit}
use Rattle.syntax.specs.Tree.{Elem, definition, instances, property, Body, close, more}
use Rattle.syntax.specs.Grammar.{instances_from, instances_at, instance_statement_at, statement_at, tail_at, element_at, elements_at, definition_with, definition_at, definitions_from, file_at}
use Rattle.basics.specs.All.{All, all_none, all_more}
use Rattle.compile_laws.specs.Named.{IsNamed}
use Rattle.compile_laws.proofs.Words.{token_named}
use Rattle.std.specs.Prelude.{Option, Some, None}
use Rattle.expressions.specs.declared.Number.{Number}

-- what holds of a reading's piece, if there is one
data Reading {A : Type 0} (P : A → Type 0) : Parsed A → Type 0 where
  reading_stop : {n p : ℕ} → Reading P (stop n p)
  reading_ok : {a : A} {n : ℕ} → P a → Reading P (ok a n)

reading_of : {A : Type 0} (P : A → Type 0) {p : Parsed A} {a : A} {n : ℕ} → Reading P p → p ≡ ok a n → P a
reading_of P reading_stop e = cc
reading_of P {a = a} (reading_ok {a = b} h) e = let z : b ≡ a = cc in rw z at h

reading_then : {A B : Type 0} (P : A → Type 0) (Q : B → Type 0) {p : Parsed A} (k : A → ℕ → Parsed B) → Reading P p → ((a : A) (n : ℕ) → P a → Reading Q (k a n)) → Reading Q (and_then p k)
unfolding and_then
reading_then P Q k reading_stop f = reading_stop
reading_then P Q k (reading_ok {a = a} {n = n} h) f = f a n h

reading_mapped : {A B : Type 0} (P : A → Type 0) (Q : B → Type 0) {p : Parsed A} (g : A → B) → Reading P p → ((a : A) → P a → Q (g a)) → Reading Q (mapped g p)
unfolding mapped
reading_mapped P Q g reading_stop f = reading_stop
reading_mapped P Q g (reading_ok {a = a} h) f = reading_ok (f a h)

-- where nothing is asked of the piece
reading_made : {A B : Type 0} (Q : B → Type 0) (p : Parsed A) (g : A → B) → ((a : A) → Q (g a)) → Reading Q (mapped g p)
unfolding mapped
reading_made Q (stop n p) g f = reading_stop
reading_made Q (ok a n) g f = reading_ok (f a)

abbrev pub InstanceNamed : List ℕ → Instance → Type 0
InstanceNamed text i = IsNamed text i.name

-- a definition's name, if it has one
abbrev pub MaybeNamed : List ℕ → Option Name → Type 0
MaybeNamed text None = Unit {0}
MaybeNamed text (Some n) = IsNamed text n

-- the names of a tree's instances and definitions
mutual
  pub data ElemNamed (text : List ℕ) : Elem → Type 0 where
    definition_named : {h : Header} {b : Body} {is : List Instance} → MaybeNamed text h.name → BodyNamed text b → All (InstanceNamed text) is → ElemNamed text (definition h b is)
    instances_named : {n : Name} {is : List Instance} → All (InstanceNamed text) is → ElemNamed text (instances n is)
    property_named : {p : Assignment} → ElemNamed text (property p)

  pub data BodyNamed (text : List ℕ) : Body → Type 0 where
    close_named : {p : ℕ} → BodyNamed text (close p)
    more_named : {e : Elem} {b : Body} → ElemNamed text e → BodyNamed text b → BodyNamed text (more e b)

module _ (text : List ℕ) where
  name_read_lem : (at : ℕ) → Reading (IsNamed text) (name_at text at)
  unfolding name_at
  name_read_lem at =
      either (λ (p : Parsed Name). Reading (IsNamed text) p) (is_name (token_at text at).word) (λ e. reading_ok (token_named text at e)) (λ _. reading_stop)

  suffix_set : (k : SuffixKind) (s : Option (ℕ × Number)) (i : Instance) → InstanceNamed text i → InstanceNamed text (set_suffix k s i)
  unfolding set_suffix
  suffix_set Reset s i h = h
  suffix_set Address s i h = h
  suffix_set Stride s i h = h
  suffix_set Alignment s i h = h

  suffix_read_lem : (k : SuffixKind) {p : Parsed Instance} → Reading (InstanceNamed text) p → Reading (InstanceNamed text) (with_suffix k text p)
  unfolding with_suffix
  suffix_read_lem k h =
      reading_then (InstanceNamed text) (InstanceNamed text) _ h (λ i next g.
      reading_made (InstanceNamed text) (suffix_at k text next) (λ x. set_suffix k x i) (λ s. suffix_set k s i g))

  instance_read_lem : (at : ℕ) → Reading (InstanceNamed text) (instance_at text at)
  unfolding instance_at bare_at
  instance_read_lem at =
      suffix_read_lem Alignment (suffix_read_lem Stride (suffix_read_lem Address (suffix_read_lem Reset
      (reading_then (IsNamed text) (InstanceNamed text) _ (name_read_lem at) (λ n next h. reading_made (InstanceNamed text) (array_at text next) (bare n) (λ a. h))))))

  abbrev ListedNamed : ListItem → Type 0
  ListedNamed l = InstanceNamed text l.instance

  parted_read : (i : Instance) (at : ℕ) → InstanceNamed text i → Reading ListedNamed (parted_at i text at)
  unfolding parted_at
  parted_read i at h =
      let Q : Parsed ListItem → Type 0 = λ p. Reading ListedNamed p in
      either Q (is_mark mark.Semicolon (token_at text at).word) (λ _. reading_ok h) (λ _.
      either Q (is_mark mark.Comma (token_at text at).word) (λ _. reading_ok h) (λ _. reading_stop))

  listed_read_lem : (at : ℕ) → Reading ListedNamed (listed_at text at)
  unfolding listed_at
  listed_read_lem at = reading_then (InstanceNamed text) ListedNamed _ (instance_read_lem at) (λ i next h. parted_read i next h)

  abbrev HeaderNamed : Header → Type 0
  HeaderNamed h = MaybeNamed text h.name

  header_rest : (k : Kind) (p at : ℕ) → Reading HeaderNamed (header_rest_at k p text at)
  unfolding header_rest_at
  header_rest k p at =
      let Q : Parsed Header → Type 0 = λ p. Reading HeaderNamed p in
      let w = (token_at text at).word in
      either Q (is_mark mark.OpenBrace w) (λ _. reading_ok tt) (λ _.
      either Q (is_name w) (λ e.
      either Q (is_mark mark.OpenBrace (token_at text (token_at text at).end).word) (λ _. reading_ok (token_named text at e)) (λ _. reading_stop)) (λ _. reading_stop))

  header_read_lem : (at : ℕ) → Reading HeaderNamed (header_at text at)
  unfolding header_at
  header_read_lem at = by (kind_of (token_at text at).word)
    where
      by : (x : Option Kind) → Reading HeaderNamed (header_of x (token_at text at) text)
      by (Some k) = header_rest k (token_at text at).start (token_at text at).end
      by None = reading_stop

  abbrev AllNamed : List Instance → Type 0
  AllNamed is = All (InstanceNamed text) is

  instances_from_lem : (turns at : ℕ) → Reading AllNamed (instances_from turns text at)
  unfolding instances_from
  instances_from_lem zero at = reading_stop
  instances_from_lem (suc turns) at =
      reading_then ListedNamed AllNamed _ (listed_read_lem at) (λ l next h.
      either (λ (p : Parsed (List Instance)). Reading AllNamed p) l.last (λ _. reading_ok (all_more h all_none))
      (λ _. reading_mapped AllNamed AllNamed _ (instances_from_lem turns next) (λ is g. all_more h g)))

  instances_read : (at : ℕ) → Reading AllNamed (instances_at text at)
  unfolding instances_at
  instances_read at = instances_from_lem (suc (length text)) at

  statement_read : (at : ℕ) → Reading (ElemNamed text) (statement_at text at)
  unfolding statement_at instance_statement_at
  statement_read at =
      either (λ (p : Parsed Elem). Reading (ElemNamed text) p) (starts_instances text at)
      (λ _. reading_then (IsNamed text) (ElemNamed text) _ (name_read_lem at) (λ n next _. reading_mapped AllNamed (ElemNamed text) (instances n) (instances_read next) (λ is h. instances_named h)))
      (λ _. reading_made (ElemNamed text) (property_at text at) property (λ p. property_named))

  tail_read : (named : Bool) (at : ℕ) → Reading AllNamed (tail_at named text at)
  unfolding tail_at
  tail_read named at =
      either (λ (p : Parsed (List Instance)). Reading AllNamed p) (named && is_mark mark.Semicolon (token_at text at).word) (λ _. reading_ok all_none) (λ _. instances_read at)

  elements_read : (d : ℕ → Parsed Elem) → ((at : ℕ) → Reading (ElemNamed text) (d at)) → (turns at : ℕ) → Reading (BodyNamed text) (elements_at d turns text at)
  unfolding elements_at element_at
  elements_read d f zero at = reading_stop
  elements_read d f (suc turns) at =
      either (λ (p : Parsed Body). Reading (BodyNamed text) p) (is_mark mark.CloseBrace (token_at text at).word) (λ _. reading_ok close_named) (λ _.
      reading_then (ElemNamed text) (BodyNamed text) _
      (either (λ (p : Parsed Elem). Reading (ElemNamed text) p) (is_kind (token_at text at).word) (λ _. f at) (λ _. statement_read at)) (λ e next h.
      reading_mapped (BodyNamed text) (BodyNamed text) (more e) (elements_read d f turns next) (λ b g. more_named h g)))

  definition_with_lem : (body : Header → ℕ → Parsed Body) → ((h : Header) (inside : ℕ) → Reading (BodyNamed text) (body h inside)) → (at : ℕ) → Reading (ElemNamed text) (definition_with body text at)
  unfolding definition_with
  definition_with_lem body f at =
      reading_then HeaderNamed (ElemNamed text) _ (header_read_lem at) (λ h inside x.
      reading_then (BodyNamed text) (ElemNamed text) _ (f h inside) (λ b next y.
      reading_mapped AllNamed (ElemNamed text) (definition h b) (tail_read (is_named h.name) next) (λ is z. definition_named x y z)))

  definition_read : (bodies at : ℕ) → Reading (ElemNamed text) (definition_at bodies text at)
  unfolding definition_at
  definition_read zero at = definition_with_lem _ (λ h inside. reading_stop) at
  definition_read (suc bodies) at = definition_with_lem _ (λ h inside. elements_read (definition_at bodies text) (λ at. definition_read bodies at) (suc (length text)) inside) at

  definitions_from_lem : (turns at : ℕ) → Reading (BodyNamed text) (definitions_from turns text at)
  unfolding definitions_from
  definitions_from_lem zero at = reading_stop
  definitions_from_lem (suc turns) at =
      either (λ (p : Parsed Body). Reading (BodyNamed text) p) (is_end (token_at text at).word) (λ _. reading_ok close_named) (λ _.
      reading_then (ElemNamed text) (BodyNamed text) _ (definition_read body_limit at) (λ e next h.
      reading_mapped (BodyNamed text) (BodyNamed text) (more e) (definitions_from_lem turns next) (λ b g. more_named h g)))

  -- the tree of a file
  pub file_named : {b : Body} {n : ℕ} → file_at text ≡ ok b n → BodyNamed text b
  unfolding file_at
  file_named e = reading_of (BodyNamed text) (definitions_from_lem (suc (length text)) 0) e

  -- an instance at any place, and its name
  pub instance_named : (at : ℕ) {i : Instance} {n : ℕ} → instance_at text at ≡ ok i n → InstanceNamed text i
  instance_named at e = reading_of (InstanceNamed text) (instance_read_lem at) e
