-- Lemmas on what stands of a text that is written in parts, where a write of a part fails.
use Rattle.std.proofs.Common.{◌≡◌, ℕ, List, ◌++◌, OnErr, Result, Ok, Err, length, take, drop, sym, ap, ◌∙◌, subst, append_assoc, take-append-drop}
use Rattle.std.specs.Io.KnownBytes.{Appends}
use Rattle.std.proofs.KnownBytes.{Appends-trans}
use Rattle.std.specs.declared.option.Option.{Option}
use lib.Seq.{take-append_seam}
use Rattle.streams.specs.Filled.{AppendsPart}

pub on_err_of : {T E P : Type 0} (r : Result T E) → P → OnErr r P
on_err_of (Ok x) p = tt
on_err_of (Err e) p = p

-- a text's front is a start of it
pub part_of : (a b : Option (List ℕ)) (front rest all : List ℕ) → all ≡ front ++ rest → Appends a b front → AppendsPart a b all
part_of a b front rest all split put = (length front, subst (Appends a b) (sym (ap (take (length front)) split ∙ take-append_seam front rest)) put)

-- some of the first part was written
pub part_of_front : (a b : Option (List ℕ)) (xs ys : List ℕ) → AppendsPart a b xs → AppendsPart a b (xs ++ ys)
part_of_front a b xs ys (k, put) =
    part_of a b (take k xs) (drop k xs ++ ys) (xs ++ ys) (ap (λ l. l ++ ys) (sym (take-append-drop k xs)) ∙ append_assoc (take k xs) (drop k xs) ys) put

-- the first part was written, and some of the second
pub part_behind : (a b c : Option (List ℕ)) (xs ys : List ℕ) → Appends a b xs → AppendsPart b c ys → AppendsPart a c (xs ++ ys)
part_behind a b c xs ys before (k, put) =
    part_of a c (xs ++ take k ys) (drop k ys) (xs ++ ys) (ap (λ l. xs ++ l) (sym (take-append-drop k ys)) ∙ sym (append_assoc xs (take k ys) (drop k ys)))
    (Appends-trans a b c xs (take k ys) before put)

-- the same, where the second write's result is not looked at
pub err_behind : {T E : Type 0} (r : Result T E) (a b c : Option (List ℕ)) (xs ys given : List ℕ) → given ≡ ys → Appends a b xs → OnErr r (AppendsPart b c given) → OnErr r (AppendsPart a c (xs ++ ys))
err_behind (Ok x) a b c xs ys given same before put = tt
err_behind (Err e) a b c xs ys given same before put = part_behind a b c xs ys before (subst (AppendsPart b c) same put)
