-- An instance begins with its name, which is short, and stands where its name does.
use mathlib.Core.Bool.{Bool, true, false}
use mathlib.Core.Path.{◌≡◌, refl}
use mathlib.Core.List.{List}
use Prim.Native.Nat.{ℕ, ◌+◌, ◌≤◌}
use native.Mathlib.Omega.{arith}
use lib.ListN.{length}
use Rattle.std.specs.Prelude.{if◌then◌else◌, Option}
use Rattle.basics.specs.Limits.{name_limit}
use Rattle.lex.specs.Token.{token_at}
use Rattle.lex.specs.declared.Word.{Word}
use Rattle.lex.specs.declared.Word.TheVariants as word
use Rattle.lex.proofs.Bounds.{token_inside, token-within}
use Rattle.lex.proofs.Own.{name_own, no_end, name_within}
use Rattle.expressions.proofs.Readings.{HoldsRead, holds_ok, holds_stop, holds_of, holds_mapped, holds_then}
use Rattle.parts.specs.Reading.{Parsed, ok, stop, and_then, mapped}
use Rattle.parts.specs.Words.{is_name}
use Rattle.parts.specs.Parts.{name_at, array_at, suffix_at, bare, set_suffix, with_suffix, bare_at, instance_at}
use Rattle.parts.specs.declared.Name.{Name}
use Rattle.parts.specs.declared.SuffixKind.{SuffixKind}
use Rattle.parts.specs.declared.SuffixKind.TheVariants.{Reset, Address, Stride, Alignment}
use Rattle.parts.specs.declared.Instance.{Instance}
use Rattle.expressions.specs.declared.Number.{Number}

-- a name that stands at the cursor
pub record Begins (text : List ℕ) (at : ℕ) (name : Name) : Type 0 where
  pub next : ℕ
  pub reads : name_at text at ≡ ok name next

record Any {A : Type 0} (a : A) (n : ℕ) : Type 0 where

any : {A : Type 0} (p : Parsed A) → HoldsRead Any p
any (ok a n) = holds_ok (record {})
any (stop n p) = holds_stop

same_name : (s : SuffixKind) (x : Option (ℕ × Number)) (i : Instance) → (set_suffix s x i).name ≡ i.name
unfolding set_suffix
same_name Reset x i = refl
same_name Address x i = refl
same_name Stride x i = refl
same_name Alignment x i = refl

module _ (text : List ℕ) (at : ℕ) where
  abbrev Named : Instance → ℕ → Type 0
  Named i n = Begins text at i.name

  bare_named : HoldsRead Named (bare_at text at)
  unfolding bare_at and_then
  bare_named = by (name_at text at) refl
    where
      by : (p : Parsed Name) → name_at text at ≡ p → HoldsRead Named (and_then p (λ m next. mapped (bare m) (array_at text next)))
      by (ok m next) e = holds_mapped (bare m) (λ a n w. record { next = next; reads = e }) (any (array_at text next))
      by (stop n q) e = holds_stop

  suffix_named : (s : SuffixKind) {p : Parsed Instance} → HoldsRead Named p → HoldsRead Named (with_suffix s text p)
  unfolding with_suffix
  suffix_named s h =
      holds_then h (λ i n b. holds_mapped (λ x. set_suffix s x i) (λ x m w. rw (same_name s x i) b) (any (suffix_at s text n)))

  pub instance_named : {i : Instance} {n : ℕ} → instance_at text at ≡ ok i n → Begins text at i.name
  unfolding instance_at
  instance_named e = holds_of (suffix_named Alignment (suffix_named Stride (suffix_named Address (suffix_named Reset bare_named)))) e

-- a name is a token
record IsToken (text : List ℕ) (at : ℕ) (name : Name) : Type 0 where
  word_is : (token_at text at).word ≡ word.Name
  starts : name.start ≡ (token_at text at).start
  ends : name.end ≡ (token_at text at).end

is_name_lem : (w : Word) → is_name w ≡ true → w ≡ word.Name
unfolding is_name
is_name_lem word.Name e = refl
is_name_lem word.End e = absurd (let z : ◌≡◌ {A = ℕ} 0 1 = cc in omega arith)
is_name_lem (word.Keyword k) e = absurd (let z : ◌≡◌ {A = ℕ} 0 1 = cc in omega arith)
is_name_lem (word.Number n) e = absurd (let z : ◌≡◌ {A = ℕ} 0 1 = cc in omega arith)
is_name_lem word.String e = absurd (let z : ◌≡◌ {A = ℕ} 0 1 = cc in omega arith)
is_name_lem (word.Mark m) e = absurd (let z : ◌≡◌ {A = ℕ} 0 1 = cc in omega arith)
is_name_lem (word.Bad c) e = absurd (let z : ◌≡◌ {A = ℕ} 0 1 = cc in omega arith)

is_token : (text : List ℕ) (at : ℕ) {name : Name} {next : ℕ} → name_at text at ≡ ok name next → IsToken text at name
unfolding name_at
is_token text at {name} {next} = by (is_name (token_at text at).word) refl
  where
    by : (b : Bool) → is_name (token_at text at).word ≡ b
        → (if b then ok (record { start = (token_at text at).start; end = (token_at text at).end }) (token_at text at).end else stop 3 (token_at text at).start) ≡ ok name next → IsToken text at name
    by true q e = let z : record { start = (token_at text at).start; end = (token_at text at).end } ≡ name = cc in record { word_is = is_name_lem (token_at text at).word q; starts = rw (← z); ends = rw (← z) }
    by false q e = absurd (let z : ◌≡◌ {A = ℕ} 0 1 = cc in omega arith)

-- so it lies in the text
pub begins_inside : (text : List ℕ) (at : ℕ) {name : Name} → Begins text at name → (name.start ≤ name.end) × (name.end ≤ length text)
begins_inside text at {name} b =
    let k = is_token text at b.reads in
    let e = token_inside text at (no_end (token_at text at).word k.word_is) in
    let w = token-within text at (omega (arith, e)) in
    (rw (k.starts, k.ends) w.ordered, rw k.ends w.inside)

-- and it is short
pub instance_short : (text : List ℕ) (at : ℕ) {i : Instance} {n : ℕ} → instance_at text at ≡ ok i n → i.name.end ≤ i.name.start + name_limit
instance_short text at e =
    let k = is_token text at (instance_named text at e).reads in
    rw (k.starts, k.ends) (name_within text at k.word_is)

-- read at its name, an instance is the same
pub instance_own : (text : List ℕ) (at : ℕ) {i : Instance} {n : ℕ} → instance_at text at ≡ ok i n → instance_at text i.name.start ≡ ok i n
unfolding instance_at bare_at name_at
instance_own text at {i} e =
    let k = is_token text at (instance_named text at e).reads in
    let z : token_at text i.name.start ≡ token_at text at = rw k.starts (name_own text at k.word_is) in
    rw z e
