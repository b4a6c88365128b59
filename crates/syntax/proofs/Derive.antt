-- "a reading gives its tree": derivations without a number of turns, one constructor for each way that a reading goes on. A second walk
-- keeps one in its invariant.
use mathlib.Core.Bool.{Bool, true, false}
use mathlib.Core.Path.{◌≡◌, refl, ap}
use mathlib.Core.List.{List, [], ◌∷◌}
use Prim.Native.Nat.{ℕ, zero, suc}
use native.Mathlib.Omega.{arith}
use lib.ListN.{length}
use Rattle.std.specs.Prelude.{if◌then◌else◌}
use Rattle.lex.specs.Token.{token_at}
use Rattle.vocabulary.specs.declared.Mark.TheVariants as mark
use Rattle.parts.specs.Reading.{Parsed, ok, stop, and_then, mapped}
use Rattle.parts.specs.Words.{is_mark, is_end}
use Rattle.parts.specs.Parts.{listed_at, header_at, is_named}
use Rattle.parts.specs.declared.Instance.{Instance}
use Rattle.parts.specs.declared.ListItem.{ListItem}
use Rattle.parts.specs.declared.Header.{Header}
use Rattle.basics.specs.Limits.{body_limit}
use Rattle.syntax.specs.Tree.{Elem, definition, Body, close, more}
use Rattle.syntax.specs.Grammar.{instances_from, instances_at, tail_at, element_at, elements_at, definition_with, definition_at, definitions_from, file_at}

never : {X A : Type 0} {n p m : ℕ} {a : A} → stop n p ≡ ok a m → X
never e = absurd (let z : ◌≡◌ {A = ℕ} 0 1 = cc in omega arith)

-- a reading in two steps that was not refused
pub record TwoSteps {A B : Type 0} (p : Parsed A) (k : A → ℕ → Parsed B) (b : B) (n : ℕ) : Type 0 where
  pub piece : A
  pub next : ℕ
  pub first : p ≡ ok piece next
  pub second : k piece next ≡ ok b n

pub then_steps : {A B : Type 0} (p : Parsed A) (k : A → ℕ → Parsed B) {b : B} {n : ℕ} → and_then p k ≡ ok b n → TwoSteps p k b n
unfolding and_then
then_steps (ok a m) k e = record { piece = a; next = m; first = refl; second = e }
then_steps (stop m q) k e = never e

-- a reading whose piece became part of a larger one
pub record Piece {A B : Type 0} (f : A → B) (p : Parsed A) (b : B) (n : ℕ) : Type 0 where
  pub piece : A
  pub read : p ≡ ok piece n
  pub made : f piece ≡ b

pub mapped_piece : {A B : Type 0} (f : A → B) (p : Parsed A) {b : B} {n : ℕ} → mapped f p ≡ ok b n → Piece f p b n
unfolding mapped
mapped_piece f (ok a m) {b} {n} e = record { piece = a; read = ap (ok a) (cc); made = cc }
mapped_piece f (stop m q) e = never e

module _ (t : List ℕ) where
  -- a list of instances from the cursor on
  pub data Lists : ℕ → List Instance → ℕ → Type 0 where
    lists_last : {at n : ℕ} {l : ListItem} → listed_at t at ≡ ok l n → l.last ≡ true → Lists at (l.instance ∷ []) n
    lists_more : {at n m : ℕ} {l : ListItem} {is : List Instance} → listed_at t at ≡ ok l n → l.last ≡ false → Lists n is m → Lists at (l.instance ∷ is) m

  lists_from : (turns at : ℕ) (is : List Instance) (m : ℕ) → instances_from turns t at ≡ ok is m → Lists at is m
  unfolding instances_from
  lists_from zero at is m e = never e
  lists_from (suc turns) at is m e =
      let s = then_steps (listed_at t at) _ e in
      by s.piece s.next s.first (lists_from turns s.next) s.piece.last refl s.second
    where
      by : (l : ListItem) (n : ℕ) → listed_at t at ≡ ok l n → ((is : List Instance) (m : ℕ) → instances_from turns t n ≡ ok is m → Lists n is m) → (b : Bool) → l.last ≡ b
          → (if b then ok (l.instance ∷ []) n else mapped (λ is. l.instance ∷ is) (instances_from turns t n)) ≡ ok is m → Lists at is m
      by l n f rec true g h =
          let i : (l.instance ∷ []) ≡ is = cc in
          let j : n ≡ m = cc in
          rw (← i, ← j) (lists_last f g)
      by l n f rec false g h =
          let p = mapped_piece (λ (is : List Instance). l.instance ∷ is) (instances_from turns t n) h in
          rw (← p.made) (lists_more f g (rec p.piece m p.read))

  pub instances_lists : (at : ℕ) {is : List Instance} {m : ℕ} → instances_at t at ≡ ok is m → Lists at is m
  unfolding instances_at
  instances_lists at {is} {m} = lists_from (suc (length t)) at is m

  -- the elements of a body from the cursor on
  module _ (d : ℕ → Parsed Elem) where
    pub data Reads : ℕ → Body → ℕ → Type 0 where
      reads_close : {at : ℕ} → is_mark mark.CloseBrace (token_at t at).word ≡ true → Reads at (close (token_at t at).start) (token_at t at).end
      reads_more : {at n m : ℕ} {e : Elem} {b : Body} → is_mark mark.CloseBrace (token_at t at).word ≡ false → element_at d t at ≡ ok e n → Reads n b m → Reads at (more e b) m

    pub elements_read : (turns at : ℕ) (b : Body) (m : ℕ) → elements_at d turns t at ≡ ok b m → Reads at b m
    unfolding elements_at
    elements_read zero at b m e = never e
    elements_read (suc turns) at b m e = by (is_mark mark.CloseBrace (token_at t at).word) refl (elements_read turns) e
      where
        by : (c : Bool) → is_mark mark.CloseBrace (token_at t at).word ≡ c → ((n : ℕ) (b : Body) (m : ℕ) → elements_at d turns t n ≡ ok b m → Reads n b m)
            → (if c then ok (close (token_at t at).start) (token_at t at).end else and_then (element_at d t at) (λ e next. mapped (more e) (elements_at d turns t next))) ≡ ok b m → Reads at b m
        by true g rec h =
            let i : close (token_at t at).start ≡ b = cc in
            let j : (token_at t at).end ≡ m = cc in
            rw (← i, ← j) (reads_close g)
        by false g rec h =
            let s = then_steps (element_at d t at) _ h in
            let p = mapped_piece (more s.piece) (elements_at d turns t s.next) s.second in
            rw (← p.made) (reads_more g s.first (rec s.next p.piece m p.read))

  -- the definitions of a file from the cursor on
  pub data Files : ℕ → Body → ℕ → Type 0 where
    files_end : {at : ℕ} → is_end (token_at t at).word ≡ true → Files at (close (token_at t at).start) (token_at t at).end
    files_more : {at n m : ℕ} {e : Elem} {b : Body} → is_end (token_at t at).word ≡ false → definition_at body_limit t at ≡ ok e n → Files n b m → Files at (more e b) m

  files_from : (turns at : ℕ) (b : Body) (m : ℕ) → definitions_from turns t at ≡ ok b m → Files at b m
  unfolding definitions_from
  files_from zero at b m e = never e
  files_from (suc turns) at b m e = by (is_end (token_at t at).word) refl (files_from turns) e
    where
      by : (c : Bool) → is_end (token_at t at).word ≡ c → ((n : ℕ) (b : Body) (m : ℕ) → definitions_from turns t n ≡ ok b m → Files n b m)
          → (if c then ok (close (token_at t at).start) (token_at t at).end else and_then (definition_at body_limit t at) (λ e next. mapped (more e) (definitions_from turns t next))) ≡ ok b m → Files at b m
      by true g rec h =
          let i : close (token_at t at).start ≡ b = cc in
          let j : (token_at t at).end ≡ m = cc in
          rw (← i, ← j) (files_end g)
      by false g rec h =
          let s = then_steps (definition_at body_limit t at) _ h in
          let p = mapped_piece (more s.piece) (definitions_from turns t s.next) s.second in
          rw (← p.made) (files_more g s.first (rec s.next p.piece m p.read))

  pub file_files : {b : Body} {m : ℕ} → file_at t ≡ ok b m → Files 0 b m
  unfolding file_at
  file_files {b} {m} = files_from (suc (length t)) 0 b m

  -- the parts of a definition that was read
  pub record Defined (body : Header → ℕ → Parsed Body) (at : ℕ) (e : Elem) (n : ℕ) : Type 0 where
    pub header : Header
    pub inside : ℕ
    pub tree : Body
    pub behind : ℕ
    pub list : List Instance
    pub reads_header : header_at t at ≡ ok header inside
    pub reads_body : body header inside ≡ ok tree behind
    pub reads_tail : tail_at (is_named header.name) t behind ≡ ok list n
    pub made : definition header tree list ≡ e

  pub definition_parts : (body : Header → ℕ → Parsed Body) (at : ℕ) {e : Elem} {n : ℕ} → definition_with body t at ≡ ok e n → Defined body at e n
  unfolding definition_with
  definition_parts body at q =
      let s = then_steps (header_at t at) _ q in
      let r = then_steps (body s.piece s.next) _ s.second in
      let p = mapped_piece (definition s.piece r.piece) (tail_at (is_named s.piece.name) t r.next) r.second in
      record {
        header = s.piece;
        inside = s.next;
        tree = r.piece;
        behind = r.next;
        list = p.piece;
        reads_header = s.first;
        reads_body = r.first;
        reads_tail = p.read;
        made = p.made;
      }

  -- and a definition with these parts is read
  pub parts_definition : (body : Header → ℕ → Parsed Body) (at : ℕ) {e : Elem} {n : ℕ} → Defined body at e n → definition_with body t at ≡ ok e n
  unfolding definition_with and_then mapped
  parts_definition body at d = rw (d.reads_header, d.reads_body, d.reads_tail, d.made)
