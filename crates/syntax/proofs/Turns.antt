-- One turn of each loop, and each way through the definition reader: what a part's answer says of the whole.
use mathlib.Core.Bool.{Bool, true, false}
use mathlib.Core.Path.{◌≡◌, refl, sym, ap, ◌∙◌}
use mathlib.Core.List.{List, [], ◌∷◌}
use Prim.Native.Nat.{ℕ, zero, suc, ◌-◌, ◌<◌, ◌≤◌}
use native.Mathlib.Omega.{arith}
use lib.ListN.{length}
use Rattle.std.specs.Prelude.{if◌then◌else◌}
use Rattle.lex.specs.Token.{token_at}
use Rattle.lex.specs.declared.Token.{Token}
use Rattle.vocabulary.specs.declared.Mark.TheVariants as mark
use Rattle.parts.specs.Reading.{Parsed, ok, stop, and_then, mapped}
use Rattle.parts.specs.Words.{is_kind, is_mark, is_end}
use Rattle.parts.specs.Parts.{name_at, listed_at, property_at, header_at, is_named, starts_instances}
use Rattle.parts.specs.declared.Name.{Name}
use Rattle.parts.specs.declared.ListItem.{ListItem}
use Rattle.parts.specs.declared.Assignment.{Assignment}
use Rattle.parts.specs.declared.Header.{Header}
use Rattle.parts.proofs.Ends.{Ends, ends_of, listed_ends}
use Rattle.basics.specs.Limits.{body_limit}
use Rattle.syntax.specs.Tree.{Elem, definition, Body, more}
use Rattle.syntax.specs.Grammar.{instances_from, instances_at, instance_statement_at, statement_at, tail_at, element_at, elements_at, definition_with, definition_at, body_at, definitions_from}
use Rattle.syntax.specs.Answers.{answer_of}
use Rattle.syntax.proofs.Rest.{Rest, rest_on}
use Rattle.syntax.proofs.Readings.{answer_mapped, done_ok, refused_stop, then_ok, then_stop}
use Rattle.syntax.proofs.Ends.{element_ends, definition_ends}
use Rattle.basics.specs.Judged.{Judged, fine, fault}

-- a list of instances
module _ (t : List ℕ) (at : ℕ) {x : Parsed ListItem} {whole : Judged ℕ} (r : Rest (length t) at (λ k. answer_of (instances_from k t at)) whole)
    (e : x ≡ listed_at t at) where
  pub list_stop : {m p : ℕ} → x ≡ stop m p → fault m p ≡ whole
  unfolding instances_from answer_of
  list_stop f =
      let s : answer_of (instances_from (suc r.turns) t at) ≡ fault _ _ = ap answer_of (then_stop _ (sym (rw f at e))) in
      sym s ∙ r.same

  module _ {l : ListItem} {n : ℕ} (f : x ≡ ok l n) where
    pub list_past : (at < n) × (n ≤ length t)
    list_past = ends_of (listed_ends t at) (sym (rw f at e))

    turn : (k : ℕ) → instances_from (suc k) t at ≡ (if l.last then ok (l.instance ∷ []) n else mapped (λ is. l.instance ∷ is) (instances_from k t n))
    unfolding instances_from
    turn k = then_ok _ (sym (rw f at e))

    pub list_last : l.last ≡ true → fine n ≡ whole
    unfolding answer_of
    list_last g =
        let s : answer_of (instances_from (suc r.turns) t at) ≡ fine n = ap answer_of (rw g at (turn r.turns)) in
        sym s ∙ r.same

    pub list_more : l.last ≡ false → Rest (length t) n (λ k. answer_of (instances_from k t n)) whole
    list_more g =
        rest_on r (omega (arith, list_past)) list_past.0
        (λ k. sym (ap answer_of (rw g at (turn k)) ∙ answer_mapped (λ is. l.instance ∷ is) (instances_from k t n)))

-- statements
module _ (t : List ℕ) (at : ℕ) where
  module _ {x : Parsed Name} (e : x ≡ name_at t at) where
    pub typed_stop : {n p : ℕ} → x ≡ stop n p → fault n p ≡ answer_of (instance_statement_at t at)
    unfolding instance_statement_at answer_of
    typed_stop f = sym (ap answer_of (then_stop _ (sym (rw f at e))))

    pub typed_more : {m : Name} {n : ℕ} {y : Judged ℕ} → x ≡ ok m n → y ≡ answer_of (instances_at t n) → y ≡ answer_of (instance_statement_at t at)
    unfolding instance_statement_at
    typed_more f g = g ∙ sym (ap answer_of (then_ok _ (sym (rw f at e))) ∙ answer_mapped _ _)

  module _ {x : Parsed Assignment} (e : x ≡ property_at t at) where
    pub setting_stop : {m p : ℕ} → x ≡ stop m p → fault m p ≡ answer_of (property_at t at)
    unfolding answer_of
    setting_stop f = ap answer_of (rw f at e)

    pub setting_done : {p : Assignment} {n : ℕ} → x ≡ ok p n → fine n ≡ answer_of (property_at t at)
    unfolding answer_of
    setting_done f = ap answer_of (rw f at e)

  module _ {b : Bool} {y : Judged ℕ} (e : b ≡ starts_instances t at) where
    pub statement_instances : b ≡ true → y ≡ answer_of (instance_statement_at t at) → y ≡ answer_of (statement_at t at)
    unfolding statement_at
    statement_instances f g = rw (sym e ∙ f) g

    pub statement_property : b ≡ false → y ≡ answer_of (property_at t at) → y ≡ answer_of (statement_at t at)
    unfolding statement_at
    statement_property f g = rw (sym e ∙ f) (g ∙ sym (answer_mapped _ _))

  -- behind a body
  pub tail_unnamed : {named : Bool} {y : Judged ℕ} → named ≡ false → y ≡ answer_of (instances_at t at) → y ≡ answer_of (tail_at named t at)
  unfolding tail_at
  tail_unnamed f g = rw f g

  module _ {named : Bool} {k : Token} {b : Bool} (f : named ≡ true) (e : k ≡ token_at t at) (g : b ≡ is_mark mark.Semicolon k.word) where
    pub tail_end : b ≡ true → fine k.end ≡ answer_of (tail_at named t at)
    unfolding tail_at answer_of
    tail_end h = rw (f, ← e, sym g ∙ h)

    pub tail_instances : {y : Judged ℕ} → b ≡ false → y ≡ answer_of (instances_at t at) → y ≡ answer_of (tail_at named t at)
    unfolding tail_at
    tail_instances h i = rw (f, ← e, sym g ∙ h) i

-- which reader reads an element
module _ (d : ℕ → Parsed Elem) (t : List ℕ) (at : ℕ) {k : Token} {b : Bool} (e : k ≡ token_at t at) (f : b ≡ is_kind k.word) where
  pub element_definition : b ≡ true → element_at d t at ≡ d at
  unfolding element_at
  element_definition g = rw (← e, sym f ∙ g)

  pub element_statement : b ≡ false → element_at d t at ≡ statement_at t at
  unfolding element_at
  element_statement g = rw (← e, sym f ∙ g)

-- the elements of a body
module _ (d : ℕ → Parsed Elem) (t : List ℕ) (at : ℕ) {k : Token} {b : Bool} {whole : Judged ℕ}
    (r : Rest (length t) at (λ n. answer_of (elements_at d n t at)) whole) (e : k ≡ token_at t at) (f : b ≡ is_mark mark.CloseBrace k.word) where
  pub body_close : b ≡ true → fine k.end ≡ whole
  unfolding elements_at answer_of
  body_close g =
      let s : answer_of (elements_at d (suc r.turns) t at) ≡ fine k.end = rw (← e, sym f ∙ g) in
      sym s ∙ r.same

  module _ {p : Parsed Elem} {x : Judged ℕ} (g : b ≡ false) (which : element_at d t at ≡ p) (read : x ≡ answer_of p) where
    turn_body : (n : ℕ) → elements_at d (suc n) t at ≡ and_then p (λ el next. mapped (more el) (elements_at d n t next))
    unfolding elements_at
    turn_body n = rw (← e, sym f ∙ g, which)

    pub body_stop : {n q : ℕ} → x ≡ fault n q → fault n q ≡ whole
    unfolding answer_of
    body_stop {n} {q} h =
        let s : answer_of (elements_at d (suc r.turns) t at) ≡ fault n q = ap answer_of (turn_body r.turns ∙ then_stop _ (refused_stop p (sym read ∙ h))) in
        sym s ∙ r.same

    module _ (past : (at : ℕ) → Ends (suc at) (length t) (d at)) {n : ℕ} (h : x ≡ fine n) where
      pub body_past : (at < n) × (n ≤ length t)
      body_past = ends_of (element_ends t d past at) (which ∙ (done_ok p (sym read ∙ h)).1)

      pub body_more : Rest (length t) n (λ k. answer_of (elements_at d k t n)) whole
      body_more =
          let s = done_ok p (sym read ∙ h) in
          rest_on r (omega (arith, body_past)) body_past.0
          (λ k. sym (ap answer_of (turn_body k ∙ then_ok _ s.1) ∙ answer_mapped (more s.0) (elements_at d k t n)))

pub definition_more : (bodies : ℕ) (t : List ℕ) (at : ℕ) → definition_at (suc bodies) t at ≡ definition_with (λ h inside. body_at bodies t inside) t at
unfolding definition_at body_at
definition_more bodies t at = refl

-- the ways through the definition reader
module _ (t : List ℕ) (at : ℕ) {x : Parsed Header} (e : x ≡ header_at t at) where
  with_stop : (b : Header → ℕ → Parsed Body) {n p : ℕ} → x ≡ stop n p → definition_with b t at ≡ stop n p
  unfolding definition_with
  with_stop b f = then_stop _ (sym (rw f at e))

  pub definition_header : (bodies : ℕ) {n p : ℕ} → x ≡ stop n p → fault n p ≡ answer_of (definition_at bodies t at)
  unfolding definition_at answer_of
  definition_header zero f = sym (ap answer_of (with_stop _ f))
  definition_header (suc bodies) f = sym (ap answer_of (with_stop _ f))

  module _ {h : Header} {inside : ℕ} (f : x ≡ ok h inside) where
    with_header : (b : Header → ℕ → Parsed Body) → definition_with b t at ≡ and_then (b h inside) (λ y n. mapped (definition h y) (tail_at (is_named h.name) t n))
    unfolding definition_with
    with_header b = then_ok _ (sym (rw f at e))

    pub definition_deep : {bodies : ℕ} → bodies ≡ 0 → fault 18 h.brace ≡ answer_of (definition_at bodies t at)
    unfolding definition_at answer_of and_then
    definition_deep z = rw z (sym (ap answer_of (with_header (λ h inside. stop 18 h.brace))))

    module _ {bodies : ℕ} {r : Judged ℕ} (z : bodies ≡ 0 → ⊥) (read : r ≡ answer_of (body_at (bodies - 1) t inside)) where
      one_less : bodies ≡ suc (bodies - 1)
      one_less = omega arith

      whole : definition_at bodies t at ≡ and_then (body_at (bodies - 1) t inside) (λ y n. mapped (definition h y) (tail_at (is_named h.name) t n))
      whole = ap (λ (n : ℕ). definition_at n t at) one_less ∙ definition_more (bodies - 1) t at ∙ with_header (λ h inside. body_at (bodies - 1) t inside)

      pub definition_body : {n p : ℕ} → r ≡ fault n p → fault n p ≡ answer_of (definition_at bodies t at)
      unfolding answer_of
      definition_body g = sym (ap answer_of (whole ∙ then_stop _ (refused_stop (body_at (bodies - 1) t inside) (sym read ∙ g))))

      pub definition_tail : {n : ℕ} {named : Bool} {y : Judged ℕ} → r ≡ fine n → named ≡ is_named h.name → y ≡ answer_of (tail_at named t n) → y ≡ answer_of (definition_at bodies t at)
      definition_tail g i j =
          let s = done_ok (body_at (bodies - 1) t inside) (sym read ∙ g) in
          (rw i at j) ∙ sym (ap answer_of (whole ∙ then_ok _ s.1) ∙ answer_mapped _ _)

-- the definitions of a file
module _ (t : List ℕ) (at : ℕ) {k : Token} {b : Bool} {whole : Judged ℕ}
    (r : Rest (length t) at (λ n. answer_of (definitions_from n t at)) whole) (e : k ≡ token_at t at) (f : b ≡ is_end k.word) where
  pub file_close : b ≡ true → fine k.end ≡ whole
  unfolding definitions_from answer_of
  file_close g =
      let s : answer_of (definitions_from (suc r.turns) t at) ≡ fine k.end = rw (← e, sym f ∙ g) in
      sym s ∙ r.same

  module _ {x : Judged ℕ} (g : b ≡ false) (read : x ≡ answer_of (definition_at body_limit t at)) where
    turn_file : (n : ℕ) → definitions_from (suc n) t at ≡ and_then (definition_at body_limit t at) (λ el next. mapped (more el) (definitions_from n t next))
    unfolding definitions_from
    turn_file n = rw (← e, sym f ∙ g)

    pub file_stop : {n q : ℕ} → x ≡ fault n q → fault n q ≡ whole
    unfolding answer_of
    file_stop {n} {q} h =
        let s : answer_of (definitions_from (suc r.turns) t at) ≡ fault n q = ap answer_of (turn_file r.turns ∙ then_stop _ (refused_stop (definition_at body_limit t at) (sym read ∙ h))) in
        sym s ∙ r.same

    module _ {n : ℕ} (h : x ≡ fine n) where
      pub file_past : (at < n) × (n ≤ length t)
      file_past = ends_of (definition_ends t body_limit at) (done_ok (definition_at body_limit t at) (sym read ∙ h)).1

      pub file_more : Rest (length t) n (λ k. answer_of (definitions_from k t n)) whole
      file_more =
          let s = done_ok (definition_at body_limit t at) (sym read ∙ h) in
          rest_on r (omega (arith, file_past)) file_past.0
          (λ k. sym (ap answer_of (turn_file k ∙ then_ok _ s.1) ∙ answer_mapped (more s.0) (definitions_from k t n)))
