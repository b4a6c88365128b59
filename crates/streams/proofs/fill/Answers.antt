use Rattle.std.proofs.Common.{◌≡◌, ℕ, ◌+◌, ◌-◌, ◌≤◌, List, ◌++◌, OnErr, Result, Ok, Err, rules, arith, refl, length, take, slice_range, sym, ap, ◌∙◌, subst, le_refl, drop_at, length-take-le}
use Rattle.std.proofs.lemmas.Slice.{take-put_mid_below}
use Rattle.std.specs.Io.KnownBytes.{Consumes}
use Rattle.std.proofs.KnownBytes.{Consumes-nil, Consumes-trans, Consumes-kept}
use borrow.Rule.Slice.PartMut.{put_mid, post_of}
use lib.Seq.{take-add, take-append-le}
use Rattle.streams.specs.Filled.{KeepsRead}
use Rattle.std.specs.declared.option.Option.{Option}
use Rattle.streams.proofs.fill.Goals as goal

take_split : (a b : ℕ) (old new : List ℕ) → a ≤ b → take a new ≡ take a old → take a old ++ slice_range new a b ≡ take b new
take_split a b old new h front =
    let same : a + (b - a) ≡ b = omega arith in
    ap (λ l. l ++ slice_range new a b) (sym front) ∙ sym (take-add a (b - a) new) ∙ ap (λ n. take n new) same

slice_range-put_mid : (a k n : ℕ) (xs ys : List ℕ) → a ≤ length xs → n ≤ length ys → slice_range (put_mid a k xs ys) a (a + n) ≡ take n ys
slice_range-put_mid a k n xs ys within fits =
    let same : (a + n) - a ≡ n = omega arith in
    let after = post_of a k xs in
    ap (take ((a + n) - a)) (drop_at (take a xs) (ys ++ after) a (length-take-le a xs within)) ∙ ap (λ m. take m (ys ++ after)) same ∙ take-append-le n ys after fits

on_err_of : {T E P : Type 0} (r : Result T E) → P → OnErr r P
on_err_of (Ok x) p = tt
on_err_of (Err e) p = p

pub loop-done-init : goal.loop-done-init
loop-done-init g c = (refl, search rules, Consumes-nil _)

pub returns-in_err-got-clause-err : goal.returns-in_err-got-clause-err
returns-in_err-got-clause-err g c =
    let from = c.loop-done.done in
    let within = c.loop-done.invariant.1 in
    let front = take-put_mid_below _ _ c.loop-done.room c.read.new.buf from (le_refl _) within in
    let kept : KeepsRead _ _ _ = (from, search rules, subst (Consumes _ _) (sym front) (Consumes-kept _ _ _ _ c.loop-done.invariant.2 c.in_err-got.ensures.bytes)) in
    on_err_of _ kept

-- a read of n bytes behind the front: what it gave stands there
read_behind : (a b c : Option (List ℕ)) (from n : ℕ) (old part : List ℕ) → from ≤ length old → n ≤ length part → Consumes a b (take from old) → Consumes b c (take n part)
    → Consumes a c (take (from + n) (put_mid from (length old - from) old part))
read_behind a b c from n old part within fits before read =
    let room = length old - from in
    let given = slice_range-put_mid from room n old part within fits in
    let joined = take_split from (from + n) old (put_mid from room old part) (omega arith) (take-put_mid_below _ _ _ _ _ (le_refl _) within) in
    subst (Consumes a c) (ap (λ l. take from old ++ l) (sym given) ∙ joined) (Consumes-trans a b c _ _ before read)

-- a read of no byte
read_none : (a b c : Option (List ℕ)) (from n : ℕ) (old part : List ℕ) → n ≡ 0 → from ≤ length old → n ≤ length part → Consumes a b (take from old) → Consumes b c (take n part)
    → Consumes a c (take from (put_mid from (length old - from) old part))
read_none a b c from n old part none within fits before read =
    let same : from + n ≡ from = omega (arith, none) in
    subst (λ m. Consumes a c (take m (put_mid from (length old - from) old part))) same (read_behind a b c from n old part within fits before read)

pub loop-done-preserved : goal.loop-done-preserved
loop-done-preserved g c =
    let read = c.in_ok-got.ensures in
    (search rules, search rules, read_behind _ _ _ _ _ _ _ c.loop-done.invariant.1 read.bound.0 c.loop-done.invariant.2 read.bytes.0)

pub returns-then-got-eq0-clause-bytes : goal.returns-then-got-eq0-clause-bytes
returns-then-got-eq0-clause-bytes g c =
    let read = c.in_ok-got.ensures in
    read_none _ _ _ _ _ _ _ c.if-got-eq0.true c.loop-done.invariant.1 read.bound.0 c.loop-done.invariant.2 read.bytes.0
