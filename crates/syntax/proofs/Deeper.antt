-- "a body is read the same with more bodies allowed", and with any number of turns that is enough.
use mathlib.Core.Bool.{Bool, true, false}
use mathlib.Core.Path.{◌≡◌, sym, ◌∙◌}
use mathlib.Core.List.{List}
use Prim.Native.Nat.{ℕ, zero, suc, ◌+◌, ◌<◌, ◌≤◌}
use native.Mathlib.Omega.{arith}
use lib.ListN.{length}
use Rattle.std.specs.Prelude.{if◌then◌else◌}
use Rattle.lex.specs.Token.{token_at}
use Rattle.vocabulary.specs.declared.Mark.TheVariants as mark
use Rattle.parts.specs.Reading.{Parsed, ok, stop, and_then, mapped}
use Rattle.parts.specs.Words.{is_kind}
use Rattle.parts.specs.declared.Header.{Header}
use Rattle.parts.specs.declared.Instance.{Instance}
use Rattle.parts.proofs.Ends.{Ends, ends_of, mark_past, listed_ends}
use Rattle.basics.specs.Limits.{body_limit}
use Rattle.syntax.specs.Tree.{Elem, Body}
use Rattle.syntax.specs.Grammar.{instances_from, statement_at, element_at, elements_at, definition_with, definition_at, body_at, definitions_from}
use Rattle.syntax.proofs.Ends.{element_ends, definition_ends}
use Rattle.syntax.proofs.Turns.{definition_more}
use Rattle.syntax.proofs.Derive.{Lists, lists_last, lists_more, Reads, reads_close, reads_more, elements_read, Files, files_end, files_more, Defined, definition_parts, parts_definition}

-- what the first reader reads, the second reads too
abbrev pub Weaker : {A B : Type 0} → (B → ℕ → Parsed A) → (B → ℕ → Parsed A) → Type 0
Weaker {A} {B} d d' = (x : B) (at : ℕ) (a : A) (n : ℕ) → d x at ≡ ok a n → d' x at ≡ ok a n

abbrev pub Weaker₁ : (ℕ → Parsed Elem) → (ℕ → Parsed Elem) → Type 0
Weaker₁ d d' = (at : ℕ) (e : Elem) (n : ℕ) → d at ≡ ok e n → d' at ≡ ok e n

module _ (t : List ℕ) where
  element_weaker : {d d' : ℕ → Parsed Elem} → Weaker₁ d d' → Weaker₁ (element_at d t) (element_at d' t)
  unfolding element_at
  element_weaker {d} {d'} w at e n = by (is_kind (token_at t at).word)
    where
      by : (b : Bool) → (if b then d at else statement_at t at) ≡ ok e n → (if b then d' at else statement_at t at) ≡ ok e n
      by true q = w at e n q
      by false q = q

  reads_weaker : {d d' : ℕ → Parsed Elem} → Weaker₁ d d' → {at m : ℕ} {b : Body} → Reads t d at b m → Reads t d' at b m
  reads_weaker w (reads_close h) = reads_close h
  reads_weaker w (reads_more {at = at} {n = n} {e = e} h q r) = reads_more h (element_weaker w at e n q) (reads_weaker w r)

  module _ (d : ℕ → Parsed Elem) (past : (at : ℕ) → Ends (suc at) (length t) (d at)) where
    pub elements_enough : {at m : ℕ} {b : Body} → Reads t d at b m → (turns : ℕ) → length t ≤ at + turns → elements_at d turns t at ≡ ok b m
    unfolding elements_at and_then mapped
    elements_enough (reads_close {at = at} h) zero f = absurd (omega (arith, mark_past t mark.CloseBrace at h))
    elements_enough (reads_close h) (suc turns) f = rw h
    elements_enough (reads_more {at = at} h q r) zero f = absurd (omega (arith, ends_of (element_ends t d past at) q))
    elements_enough (reads_more {at = at} h q r) (suc turns) f =
        rw (h, q, elements_enough r turns (omega (arith, ends_of (element_ends t d past at) q)))

  body_weaker : (bodies : ℕ) → Weaker₁ (definition_at bodies t) (definition_at (suc bodies) t) → (at : ℕ) (b : Body) (m : ℕ) → body_at bodies t at ≡ ok b m → body_at (suc bodies) t at ≡ ok b m
  unfolding body_at
  body_weaker bodies w at b m q =
      elements_enough (definition_at (suc bodies) t) (definition_ends t (suc bodies))
      (reads_weaker w (elements_read t (definition_at bodies t) (suc (length t)) at b m q)) (suc (length t)) (omega arith)

  with_weaker : (b b' : Header → ℕ → Parsed Body) → Weaker b b' → Weaker₁ (definition_with b t) (definition_with b' t)
  with_weaker b b' w at e n q =
      let d : Defined t b at e n = definition_parts t b at q in
      parts_definition t b' at
      (record {
        header = d.header;
        inside = d.inside;
        tree = d.tree;
        behind = d.behind;
        list = d.list;
        reads_header = d.reads_header;
        reads_body = w d.header d.inside d.tree d.behind d.reads_body;
        reads_tail = d.reads_tail;
        made = d.made;
      })

  pub definition_deeper : (bodies : ℕ) → Weaker₁ (definition_at bodies t) (definition_at (suc bodies) t)
  unfolding definition_at
  definition_deeper zero at e n q = with_weaker (λ h inside. stop 18 h.brace) _ (λ h at b m r. absurd (none r)) at e n q
    where
      none : {n p m : ℕ} {b : Body} → stop n p ≡ ok b m → ⊥
      none e = let z : ◌≡◌ {A = ℕ} 0 1 = cc in omega arith
  definition_deeper (suc bodies) at e n q =
      definition_more (suc bodies) t at ∙
      with_weaker (λ h inside. body_at bodies t inside) (λ h inside. body_at (suc bodies) t inside)
      (λ h inside b m r. body_weaker bodies (definition_deeper bodies) inside b m r) at e n (sym (definition_more bodies t at) ∙ q)

  pub body_deeper : (bodies at : ℕ) (b : Body) (m : ℕ) → body_at bodies t at ≡ ok b m → body_at (suc bodies) t at ≡ ok b m
  body_deeper bodies = body_weaker bodies (definition_deeper bodies)

  -- lists of instances and files, with any number of turns that is enough
  pub lists_enough : {at m : ℕ} {is : List Instance} → Lists t at is m → (turns : ℕ) → length t ≤ at + turns → instances_from turns t at ≡ ok is m
  unfolding instances_from and_then mapped
  lists_enough (lists_last {at = at} q h) zero f = absurd (omega (arith, ends_of (listed_ends t at) q))
  lists_enough (lists_last q h) (suc turns) f = rw (q, h)
  lists_enough (lists_more {at = at} q h r) zero f = absurd (omega (arith, ends_of (listed_ends t at) q))
  lists_enough (lists_more {at = at} q h r) (suc turns) f = rw (q, h, lists_enough r turns (omega (arith, ends_of (listed_ends t at) q)))

  pub files_enough : {at m : ℕ} {b : Body} → Files t at b m → at ≤ length t → (turns : ℕ) → length t < at + turns → definitions_from turns t at ≡ ok b m
  unfolding definitions_from and_then mapped
  files_enough (files_end h) i zero f = absurd (omega arith)
  files_enough (files_end h) i (suc turns) f = rw h
  files_enough (files_more h q r) i zero f = absurd (omega arith)
  files_enough (files_more {at = at} h q r) i (suc turns) f =
      let p = ends_of (definition_ends t body_limit at) q in
      rw (h, q, files_enough r p.1 turns (omega arith))
