-- Lemmas on what is read of a pack: a length, then the part behind it.
use Rattle.std.proofs.Common.{◌≡◌, ℕ, ◌+◌, add-one, List, ◌++◌, Option, None, Some, Result, Ok, Err, IfOk, IfSome, OnErr, take, subst}
use Rattle.std.specs.Io.KnownBytes.{Consumes}
use Rattle.std.proofs.KnownBytes.{Consumes-trans}
use Rattle.streams.specs.Filled.{KeepsRead, LosesFront}
use Rattle.std.specs.Fn.{Mut}
use denote.Ref.{Bor, MutBor}
use Rattle.case_io.specs.Cases.{Names, LosesLength, LosesPart, LosesText, Shown, ShownAll, shown_more, RunsCases}

pub front_of_length : (a b : Option (List ℕ)) (length : Option ℕ) → LosesLength a b length → LosesFront a b
front_of_length a b None lost = lost
front_of_length a b (Some n) lost = (lost.0, lost.2)

pub front_of_text : (a b : Option (List ℕ)) (room : List ℕ) (part : Option ℕ) → LosesText a b room part → LosesFront a b
front_of_text a b room None lost = lost
front_of_text a b room (Some n) lost = (lost.1.0 ++ take n room, lost.1.2)

pub front_then : (a b c : Option (List ℕ)) → LosesFront a b → LosesFront b c → LosesFront a c
front_then a b c first second = (first.0 ++ second.0, Consumes-trans a b c _ _ first.1 second.1)

-- a part behind the length that was read
pub text_of : {E : Type 0} (r : Result (Option ℕ) E) (a b c : Option (List ℕ)) (room : List ℕ) (length : Option ℕ) → LosesLength a b length
    → IfOk r (λ part. LosesPart b c room part) → IfOk r (λ part. IfSome part (λ n. length ≡ Some n)) → IfOk r (λ part. LosesText a c room part)
text_of (Err e) a b c room length first second same = tt
text_of (Ok None) a b c room length first second same = front_then a b c (front_of_length a b length first) second
text_of (Ok (Some n)) a b c room None first second same = absurd (cc)
text_of (Ok (Some n)) a b c room (Some m) first second same =
    let equal : m ≡ n = cc in
    (second.0, (first.0, subst (Names first.0) equal first.1, Consumes-trans a b c _ _ first.2 second.1))

-- what was lost before a failed read, and by it
pub lost_before : {T E : Type 0} (r : Result T E) (a b c : Option (List ℕ)) (room : List ℕ) → LosesFront a b → OnErr r (KeepsRead b c room) → OnErr r (LosesFront a c)
lost_before (Ok x) a b c room before kept = tt
lost_before (Err e) a b c room before kept = (before.0 ++ take kept.0 room, Consumes-trans a b c _ _ before.1 kept.2)

-- the calls at the texts that were read, and one more
module _ {F W E : Type 0} (g : Mut F (MutBor W × (ℕ × (Bor (List ℕ) × Unit {0}))) (Result Unit E × (MutBor W × Unit {0}))) where
  pub shown_on : (a b c : Option (List ℕ)) (room : List ℕ) {n length : ℕ} {f h k : F} {w u v : W}
      → ((bytes : List ℕ) × Consumes a b bytes × ShownAll g f w bytes n h u) → LosesText b c room (Some length) → Shown g h u n (take length room) k v
      → (bytes : List ℕ) × Consumes a c bytes × ShownAll g f w bytes (n + 1) k v
  shown_on a b c room {n} {length} before text shown =
      let (prefix, (head, names, lost)) = text in
      let named = subst (Names head) prefix.1 names in
      (before.0 ++ (head ++ take length room), Consumes-trans a b c _ _ before.1 lost, rw add-one (shown_more before.2 named shown))

  -- what was lost behind the texts
  pub ran_to : (a b c : Option (List ℕ)) {n : ℕ} {f h : F} {w u : W} → ((bytes : List ℕ) × Consumes a b bytes × ShownAll g f w bytes n h u) → LosesFront b c → RunsCases g a c f w u
  ran_to a b c {n} {f} {h} before rest = (before.0, rest.0, n, h, Consumes-trans a b c _ _ before.1 rest.1, before.2)
