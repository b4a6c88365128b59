-- Where the readings of the grammar end: behind the cursor that they start at, within the text.
use mathlib.Core.Bool.{Bool, ◌&&◌}
use mathlib.Core.List.{List}
use Prim.Native.Nat.{ℕ, zero, suc}
use native.Mathlib.Omega.{arith}
use lib.ListN.{length}
use Rattle.chars.proofs.Laws.{either, and_right}
use Rattle.lex.specs.Token.{token_at}
use Rattle.vocabulary.specs.declared.Mark.TheVariants as mark
use Rattle.parts.specs.Reading.{Parsed, stop}
use Rattle.parts.specs.Words.{is_kind, is_mark}
use Rattle.parts.specs.Parts.{is_named, starts_instances}
use Rattle.parts.specs.declared.Header.{Header}
use Rattle.parts.proofs.Ends.{Ends, ends_ok, ends_stop, ends_mapped, ends_after, ends_then, mark_past, name_ends, listed_ends, property_ends, header_ends}
use Rattle.syntax.specs.Tree.{Elem, Body}
use Rattle.syntax.specs.Grammar.{instances_from, instances_at, instance_statement_at, statement_at, tail_at, element_at, elements_at, definition_with, definition_at, body_at}

module _ (t : List ℕ) where
  instances_from_lem : (turns at : ℕ) → Ends (suc at) (length t) (instances_from turns t at)
  unfolding instances_from
  instances_from_lem zero at = ends_stop
  instances_from_lem (suc turns) at =
      ends_then (listed_ends t at) (λ l n low high.
      either (Ends (suc at) (length t)) l.last (λ _. ends_ok (low, high)) (λ _. ends_mapped _ (ends_after (omega arith) (instances_from_lem turns n))))

  pub instances_ends : (at : ℕ) → Ends (suc at) (length t) (instances_at t at)
  unfolding instances_at
  instances_ends at = instances_from_lem (suc (length t)) at

  pub statement_ends : (at : ℕ) → Ends (suc at) (length t) (statement_at t at)
  unfolding statement_at instance_statement_at
  statement_ends at =
      either (Ends (suc at) (length t)) (starts_instances t at)
      (λ _. ends_then (name_ends t at) (λ n next low high. ends_mapped _ (ends_after (omega arith) (instances_ends next))))
      (λ _. ends_mapped _ (property_ends t at))

  pub tail_ends : (named : Bool) (at : ℕ) → Ends (suc at) (length t) (tail_at named t at)
  unfolding tail_at
  tail_ends named at =
      either (Ends (suc at) (length t)) (named && is_mark mark.Semicolon (token_at t at).word)
      (λ y. ends_ok (mark_past t mark.Semicolon at (and_right named _ y))) (λ _. instances_ends at)

  module _ (d : ℕ → Parsed Elem) (past : (at : ℕ) → Ends (suc at) (length t) (d at)) where
    pub element_ends : (at : ℕ) → Ends (suc at) (length t) (element_at d t at)
    unfolding element_at
    element_ends at = either (Ends (suc at) (length t)) (is_kind (token_at t at).word) (λ _. past at) (λ _. statement_ends at)

    pub elements_ends : (turns at : ℕ) → Ends (suc at) (length t) (elements_at d turns t at)
    unfolding elements_at
    elements_ends zero at = ends_stop
    elements_ends (suc turns) at =
        either (Ends (suc at) (length t)) (is_mark mark.CloseBrace (token_at t at).word) (λ y. ends_ok (mark_past t mark.CloseBrace at y))
        (λ _. ends_then (element_ends at) (λ e n low high. ends_mapped _ (ends_after (omega arith) (elements_ends turns n))))

  with_ends : (b : Header → ℕ → Parsed Body) → ((h : Header) (at : ℕ) → Ends (suc at) (length t) (b h at)) → (at : ℕ) → Ends (suc at) (length t) (definition_with b t at)
  unfolding definition_with
  with_ends b past at =
      ends_then (header_ends t at) (λ h inside low high.
      ends_then (past h inside) (λ body n low' high'.
      ends_mapped _ (ends_after (omega arith) (tail_ends (is_named h.name) n))))

  pub definition_ends : (bodies at : ℕ) → Ends (suc at) (length t) (definition_at bodies t at)
  unfolding definition_at
  definition_ends zero at = with_ends (λ h inside. stop 18 h.brace) (λ h n. ends_stop) at
  definition_ends (suc bodies) at =
      with_ends (λ h inside. elements_at (definition_at bodies t) (suc (length t)) t inside) (λ h n. elements_ends (definition_at bodies t) (definition_ends bodies) (suc (length t)) n) at

  pub body_ends : (bodies at : ℕ) → Ends (suc at) (length t) (body_at bodies t at)
  unfolding body_at
  body_ends bodies at = elements_ends (definition_at bodies t) (definition_ends bodies) (suc (length t)) at
