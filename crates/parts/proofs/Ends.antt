-- Where readings end: behind the cursor that they start at, within the text.
use mathlib.Core.Bool.{Bool, true, false}
use mathlib.Core.Path.{◌≡◌, refl}
use mathlib.Core.List.{List}
use Prim.Native.Nat.{ℕ, suc, ◌≤◌}
use native.Mathlib.Omega.{arith}
use lib.ListN.{length}
use Rattle.chars.proofs.Laws.{either}
use Rattle.lex.specs.Token.{token_at}
use Rattle.lex.specs.declared.Token.{Token}
use Rattle.lex.specs.declared.Word.{Word}
use Rattle.lex.specs.declared.Word.TheVariants as word
use Rattle.lex.proofs.Bounds.{token_inside}
use Rattle.vocabulary.specs.declared.Mark.{Mark}
use Rattle.vocabulary.specs.declared.Mark.TheVariants as mark
pub use Rattle.expressions.proofs.Ends.{Ends, ends_ok, ends_stop, ends_of, ends_mapped, ends_after, ends_then, test_past, number_ends}
use Rattle.expressions.specs.Grammar.{number_at}
use Rattle.parts.specs.Reading.{Parsed, mapped}
use Rattle.parts.specs.Words.{is_name, kind_of, is_default, is_property, is_mark}
use Rattle.parts.specs.Parts.{closed_by, name_at, array_rest_at, array_at, suffix_mark, suffix_at, with_suffix, bare_at, instance_at, parted_at, listed_at, value_in, value_or, value_at, setting_at, property_word_at, property_at, header_rest_at, header_of, header_at}
use Rattle.expressions.specs.declared.Number.{Number}
use Rattle.parts.specs.declared.Array.{Array}
use Rattle.parts.specs.declared.SuffixKind.{SuffixKind}
use Rattle.parts.specs.declared.SuffixKind.TheVariants.{Reset, Address, Stride, Alignment}
use Rattle.parts.specs.declared.Instance.{Instance}
use Rattle.parts.specs.declared.Value.{Value}
use Rattle.parts.specs.declared.Value.TheVariants as value
use Rattle.parts.specs.declared.Kind.{Kind}
use Rattle.std.specs.Prelude.{Option, Some, None}

module _ (t : List ℕ) where
  pub mark_past : (m : Mark) (at : ℕ) → is_mark m (token_at t at).word ≡ true → (suc at ≤ (token_at t at).end) × ((token_at t at).end ≤ length t)
  unfolding is_mark
  mark_past m at = test_past t at (is_mark m) refl

  pub name_past : (at : ℕ) → is_name (token_at t at).word ≡ true → (suc at ≤ (token_at t at).end) × ((token_at t at).end ≤ length t)
  unfolding is_name
  name_past at = test_past t at is_name refl

  pub closed_ends : {A : Type 0} (m : Mark) (a : A) (at : ℕ) → Ends (suc at) (length t) (closed_by m a t at)
  unfolding closed_by
  closed_ends m a at = either (Ends (suc at) (length t)) (is_mark m (token_at t at).word) (λ y. ends_ok (mark_past m at y)) (λ _. ends_stop)

  pub name_ends : (at : ℕ) → Ends (suc at) (length t) (name_at t at)
  unfolding name_at
  name_ends at = either (Ends (suc at) (length t)) (is_name (token_at t at).word) (λ y. ends_ok (name_past at y)) (λ _. ends_stop)

  array_rest_ends : (p : ℕ) (left : Number) (at : ℕ) → Ends (suc at) (length t) (array_rest_at p left t at)
  unfolding array_rest_at
  array_rest_ends p left at =
      let E = Ends {A = Array} (suc at) (length t) in
      either E (is_mark mark.CloseBracket (token_at t at).word) (λ y. ends_ok (mark_past mark.CloseBracket at y))
      (λ _. either E (is_mark mark.Colon (token_at t at).word)
      (λ y. ends_then (number_ends t (token_at t at).end) (λ right n l h. ends_after (omega (arith, mark_past mark.Colon at y)) (closed_ends mark.CloseBracket _ n)))
      (λ _. ends_stop))

  pub array_ends : (at : ℕ) → at ≤ length t → Ends at (length t) (array_at t at)
  unfolding array_at
  array_ends at i =
      either (Ends at (length t)) (is_mark mark.OpenBracket (token_at t at).word)
      (λ y. ends_then (number_ends t (token_at t at).end) (λ left n l h. ends_after (omega (arith, mark_past mark.OpenBracket at y)) (array_rest_ends (token_at t at).start left n)))
      (λ _. ends_ok (omega arith, i))

  pub suffix_ends : (s : SuffixKind) (at : ℕ) → at ≤ length t → Ends at (length t) (suffix_at s t at)
  unfolding suffix_at
  suffix_ends s at i =
      either (Ends at (length t)) (is_mark (suffix_mark s) (token_at t at).word)
      (λ y. ends_mapped _ (ends_after (omega (arith, mark_past (suffix_mark s) at y)) (number_ends t (token_at t at).end)))
      (λ _. ends_ok (omega arith, i))

  bare_ends : (at : ℕ) → Ends (suc at) (length t) (bare_at t at)
  unfolding bare_at
  bare_ends at = ends_then (name_ends at) (λ n next l h. ends_mapped _ (ends_after l (array_ends next h)))

  with_ends : (s : SuffixKind) (at : ℕ) {p : Parsed Instance} → Ends (suc at) (length t) p → Ends (suc at) (length t) (with_suffix s t p)
  unfolding with_suffix
  with_ends s at e = ends_then e (λ i n l h. ends_mapped _ (ends_after l (suffix_ends s n h)))

  pub instance_ends : (at : ℕ) → Ends (suc at) (length t) (instance_at t at)
  unfolding instance_at
  instance_ends at = with_ends Alignment at (with_ends Stride at (with_ends Address at (with_ends Reset at (bare_ends at))))

  parted_ends : (i : Instance) (at : ℕ) → Ends (suc at) (length t) (parted_at i t at)
  unfolding parted_at
  parted_ends i at =
      either (Ends (suc at) (length t)) (is_mark mark.Semicolon (token_at t at).word) (λ y. ends_ok (mark_past mark.Semicolon at y))
      (λ _. either (Ends (suc at) (length t)) (is_mark mark.Comma (token_at t at).word) (λ y. ends_ok (mark_past mark.Comma at y)) (λ _. ends_stop))

  pub listed_ends : (at : ℕ) → Ends (suc at) (length t) (listed_at t at)
  unfolding listed_at
  listed_ends at = ends_then (instance_ends at) (λ i n l h. ends_after (omega arith) (parted_ends i n))

  value_in_past : (at : ℕ) (w : Word) (p : ℕ) {v : Value} → value_in w p ≡ Some v → w ≡ word.End → ⊥
  value_in_past at w p e z =
      let f : None ≡ Some _ = rw z at e in
      let o : ◌≡◌ {A = ℕ} 0 1 = cc in
      omega arith

  pub value_ends : (at : ℕ) → Ends (suc at) (length t) (value_at t at)
  unfolding value_at
  value_ends at = by (value_in (token_at t at).word (token_at t at).start) refl
    where
      by : (x : Option Value) → value_in (token_at t at).word (token_at t at).start ≡ x → Ends (suc at) (length t) (value_or x (token_at t at).end (mapped value.Number (number_at t at)))
      by (Some v) e = ends_ok (token_inside t at (value_in_past at (token_at t at).word (token_at t at).start e))
      by None e = ends_mapped _ (number_ends t at)

  setting_ends : (d : Bool) (w : Token) (at : ℕ) → Ends (suc at) (length t) (setting_at d w t at)
  unfolding setting_at
  setting_ends d w at =
      either (Ends (suc at) (length t)) (is_mark mark.Semicolon (token_at t at).word) (λ y. ends_ok (mark_past mark.Semicolon at y))
      (λ _. either (Ends (suc at) (length t)) (is_mark mark.Equals (token_at t at).word)
      (λ y. ends_then (value_ends (token_at t at).end) (λ v n l h. ends_after (omega (arith, mark_past mark.Equals at y)) (closed_ends mark.Semicolon _ n)))
      (λ _. ends_stop))

  word_ends : (d : Bool) (at : ℕ) → Ends (suc at) (length t) (property_word_at d t at)
  unfolding property_word_at is_property
  word_ends d at =
      either (Ends (suc at) (length t)) (is_property (token_at t at).word)
      (λ y. ends_after (omega (arith, test_past t at is_property refl y)) (setting_ends d (token_at t at) (token_at t at).end)) (λ _. ends_stop)

  pub property_ends : (at : ℕ) → Ends (suc at) (length t) (property_at t at)
  unfolding property_at is_default
  property_ends at =
      either (Ends (suc at) (length t)) (is_default (token_at t at).word)
      (λ y. ends_after (omega (arith, test_past t at is_default refl y)) (word_ends true (token_at t at).end)) (λ _. word_ends false at)

  header_rest_ends : (c : Kind) (p at : ℕ) → Ends (suc at) (length t) (header_rest_at c p t at)
  unfolding header_rest_at
  header_rest_ends c p at =
      let n : ℕ = (token_at t at).end in
      either (Ends (suc at) (length t)) (is_mark mark.OpenBrace (token_at t at).word) (λ y. ends_ok (mark_past mark.OpenBrace at y))
      (λ _. either (Ends (suc at) (length t)) (is_name (token_at t at).word)
      (λ y. either (Ends (suc at) (length t)) (is_mark mark.OpenBrace (token_at t n).word)
      (λ z. ends_ok (omega (arith, name_past at y, mark_past mark.OpenBrace n z), (mark_past mark.OpenBrace n z).1)) (λ _. ends_stop))
      (λ _. ends_stop))

  pub header_ends : (at : ℕ) → Ends (suc at) (length t) (header_at t at)
  unfolding header_at kind_of
  header_ends at = by (kind_of (token_at t at).word) refl
    where
      none : {c : Kind} → kind_of (token_at t at).word ≡ Some c → (token_at t at).word ≡ word.End → ⊥
      none {c} e z =
          let f : None ≡ Some c = rw z at e in
          let o : ◌≡◌ {A = ℕ} 0 1 = cc in
          omega arith

      by : (x : Option Kind) → kind_of (token_at t at).word ≡ x → Ends (suc at) (length t) (header_of x (token_at t at) t)
      by (Some c) e = ends_after (omega (arith, token_inside t at (none e))) (header_rest_ends c (token_at t at).start (token_at t at).end)
      by None e = ends_stop
