-- Laws of the definitions, in the form that the proofs use: what holds at a place, with what a test says, carries on to the next.
use mathlib.Core.Bool.{Bool, true, false, ◌||◌, ◌&&◌}
use mathlib.Core.Path.{◌≡◌, refl, sym, ap, ◌∙◌}
use mathlib.Core.List.{List, [], ◌∷◌}
use Prim.Native.Nat.{ℕ, suc, max, ◌+◌, ◌-◌, ◌<◌, ◌≤◌}
use lib.Pointwise.{pointwise}
use native.Mathlib.Numerals.{add-one}
use native.Mathlib.Omega.{arith}
use lib.Dec.{eqb, leb}
use lib.ListN.{length, drop, get_or, take, drop_of_length-le, length-drop}
use lib.Seq.{drop-cons}
use borrow.Author.Tests.{le-leb, lt-leb, leb-true, leb-false, eqb-true}
use Rattle.std.specs.Prelude.{if◌then◌else◌}
use Rattle.chars.specs.Ascii.{is_within}
use Rattle.chars.specs.Run.{run, run_end, every}
use Rattle.chars.specs.Same.{same_bytes}

pub drop_next : (t : List ℕ) (i : ℕ) → i < length t → drop i t ≡ get_or t i 0 ∷ drop (i + 1) t
drop_next t i h = rw (add-one, drop-cons t i 0)

-- a run of bytes in the class P, to the place x
module _ (P : ℕ → Bool) (t : List ℕ) (i : ℕ) {x : ℕ} (at : run_end P t i ≡ x) where
  pub run_stop_end : length t ≤ i → i ≡ x
  unfolding run_end run
  run_stop_end h =
      let w : i + 0 ≡ x = rw (drop_of_length-le t h) at at in
      omega arith

  module _ {r : Bool} (h : i < length t) (e : r ≡ P (get_or t i 0)) where
    pub run_more : r ≡ true → run_end P t (i + 1) ≡ x
    unfolding run_end run
    run_more f =
        let w : i + suc (length (run P (drop (i + 1) t))) ≡ x = rw (drop_next t i h, sym e ∙ f) at at in
        omega arith

    pub run_stop : r ≡ false → i ≡ x
    unfolding run_end run
    run_stop f =
        let w : i + 0 ≡ x = rw (drop_next t i h, sym e ∙ f) at at in
        omega arith

-- a run that no byte ends goes to the end of the text
pub run_past : (P : ℕ → Bool) (t : List ℕ) (at i : ℕ) → run_end P t i ≡ run_end P t at → length t ≤ i → (at ≤ length t → i ≤ length t) → max at (length t) ≡ run_end P t at
run_past P t at i e h k =
    let here : i ≡ run_end P t at = run_stop_end P t i e h in
    let past : length t ≤ at → at ≡ run_end P t at = λ g. run_stop_end P t at refl g in
    grind arith

pub ruleset runs = (run_stop_end, run_more, run_stop)

-- what is true is not false
pub differ : {X : Type 0} → true ≡ false → X
differ e = absurd (let z : ◌≡◌ {A = ℕ} 0 1 = cc in omega arith)

-- what holds of each choice, where its test holds
pub either : {A : Type 0} (Q : A → Type 0) (t : Bool) {x y : A} → (t ≡ true → Q x) → (t ≡ false → Q y) → Q (if t then x else y)
either Q true p q = p refl
either Q false p q = q refl

pub run_length : (P : ℕ → Bool) (s : List ℕ) → length (run P s) ≤ length s
unfolding run
run_length P [] = omega arith
run_length P (b ∷ s) = either (λ (l : List ℕ). length l ≤ suc (length s)) (P b) (λ _. omega (arith, run_length P s)) (λ _. omega arith)

-- a run is the start of the bytes that it was read from
pub run_take : (P : ℕ → Bool) (s : List ℕ) → take (length (run P s)) s ≡ run P s
unfolding run
run_take P [] = refl
run_take P (b ∷ s) = either (λ (l : List ℕ). take (length l) (b ∷ s) ≡ l) (P b) (λ _. ap (λ (l : List ℕ). b ∷ l) (run_take P s)) (λ _. refl)

-- two orders that hold together have one test
leb_alike : (a b c d : ℕ) {r : Bool} → leb a b ≡ r → (a ≤ b → c ≤ d) → (b < a → d < c) → leb c d ≡ r
leb_alike a b c d {r = true} e f g = le-leb c d (f (leb-true a b e))
leb_alike a b c d {r = false} e f g = lt-leb c d (g (leb-false a b e))

-- all bytes are in the class exactly when the run of them is all
run-every : (P : ℕ → Bool) (s : List ℕ) → leb (length s) (length (run P s)) ≡ every P s
unfolding run every
run-every P [] = refl
run-every P (b ∷ s) = picked (P b) (run-every P s)
  where
    picked : (t : Bool) → leb (length s) (length (run P s)) ≡ every P s → leb (suc (length s)) (length (if t then b ∷ run P s else [])) ≡ (t && every P s)
    picked true e = leb_alike (length s) (length (run P s)) (suc (length s)) (suc (length (run P s))) e (λ h. omega arith) (λ h. omega arith)
    picked false e = lt-leb (suc (length s)) 0 (omega arith)

module _ (P : ℕ → Bool) (t : List ℕ) (i : ℕ) {e : ℕ} (q : e ≡ run_end P t i) where
  -- a run ends at its start or after it, and in the text
  pub run_low : i ≤ e
  unfolding run_end
  run_low = omega arith

  pub run_high : i ≤ length t → e ≤ length t
  unfolding run_end
  run_high h =
      let l : length (run P (drop i t)) ≤ length t - i = rw length-drop at (run_length P (drop i t)) in
      omega arith

  pub run_all : leb (length t) e ≡ every P (drop i t)
  unfolding run_end
  run_all =
      let n : ℕ = length (run P (drop i t)) in
      rw q (leb_alike (length t - i) n (length t) (i + n) (rw length-drop at (run-every P (drop i t))) (λ h. omega arith) (λ h. omega arith))

  -- the bytes from its start to its end
  pub run_part : take (e - i) (drop i t) ≡ run P (drop i t)
  unfolding run_end
  run_part =
      let n : e - i ≡ length (run P (drop i t)) = omega arith in
      rw n (run_take P (drop i t))

-- the library's equality of two slices
pub same-pointwise : (a b : List ℕ) → pointwise eqb a b ≡ same_bytes a b
unfolding same_bytes
same-pointwise [] [] = refl
same-pointwise [] (y ∷ ys) = refl
same-pointwise (x ∷ xs) [] = refl
same-pointwise (x ∷ xs) (y ∷ ys) = rw (same-pointwise xs ys)

-- equal by the test means equal
pub same_equal : (a b : List ℕ) → same_bytes a b ≡ true → a ≡ b
unfolding same_bytes
same_equal [] [] e = refl
same_equal [] (y ∷ ys) e = absurd (let z : ◌≡◌ {A = ℕ} 0 1 = cc in omega arith)
same_equal (x ∷ xs) [] e = absurd (let z : ◌≡◌ {A = ℕ} 0 1 = cc in omega arith)
same_equal (x ∷ xs) (y ∷ ys) e = both (eqb x y) refl (same_equal xs ys) e
  where
    both : (t : Bool) → eqb x y ≡ t → (same_bytes xs ys ≡ true → xs ≡ ys) → (t && same_bytes xs ys) ≡ true → (x ∷ xs) ≡ (y ∷ ys)
    both true p h q = rw (eqb-true x y p, h q)
    both false p h q = absurd (let z : ◌≡◌ {A = ℕ} 0 1 = cc in omega arith)

pub and_left : (a b : Bool) → (a && b) ≡ true → a ≡ true
and_left true b e = refl
and_left false b e = e

pub and_right : (a b : Bool) → (a && b) ≡ true → b ≡ true
and_right true b e = e
and_right false b e = absurd (let z : ◌≡◌ {A = ℕ} 0 1 = cc in omega arith)

pub and_both : (a b : Bool) → a ≡ true → b ≡ true → (a && b) ≡ true
and_both true b e f = f
and_both false b e f = e

pub and_false : (a : Bool) → (a && false) ≡ false
and_false true = refl
and_false false = refl

pub or_left : (a b : Bool) → (a || b) ≡ false → a ≡ false
or_left true b e = e
or_left false b e = refl

pub or_right : (a b : Bool) → (a || b) ≡ false → b ≡ false
or_right true b e = absurd (let z : ◌≡◌ {A = ℕ} 0 1 = cc in omega arith)
or_right false b e = e

pub or_false : (a : Bool) → (a || false) ≡ a
or_false true = refl
or_false false = refl

-- what the test of a range says
module _ (low high b : ℕ) {r : Bool} (e : r ≡ is_within low high b) (f : r ≡ true) where
  pub within_low : low ≤ b
  unfolding is_within
  within_low = leb-true low b (and_left (leb low b) (leb b high) (sym e ∙ f))

  pub within_high : b ≤ high
  unfolding is_within
  within_high = leb-true b high (and_right (leb low b) (leb b high) (sym e ∙ f))
