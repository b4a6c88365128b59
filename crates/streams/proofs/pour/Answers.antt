use Rattle.std.proofs.Common.{◌≡◌, ℕ, ◌+◌, ◌-◌, ◌≤◌, List, arith, length, take, drop, sym, ap, ◌∙◌, subst, length-drop}
use Rattle.std.specs.Io.KnownBytes.{Appends}
use Rattle.std.proofs.KnownBytes.{Appends-trans, Appends-kept}
use Rattle.std.specs.declared.option.Option.{Option}
use lib.Seq.{take-add, take-length}
use Rattle.streams.proofs.pour.Goals as goal
use Rattle.streams.proofs.pour.Goals.{in-Ok, in-Err}

-- what stands behind the front, taken whole
rest_whole : (from : ℕ) (bytes : List ℕ) → take (length bytes - from) (drop from bytes) ≡ drop from bytes
rest_whole from bytes = ap (λ m. take m (drop from bytes)) (sym (length-drop from bytes)) ∙ take-length (drop from bytes)

-- a write of n bytes behind the front
wrote_behind : (a b c : Option (List ℕ)) (from n : ℕ) (bytes : List ℕ) → from ≤ length bytes → n ≤ length (take (length bytes - from) (drop from bytes))
    → Appends a b (take from bytes) → Appends b c (take n (take (length bytes - from) (drop from bytes)))
    → (from + n ≤ length bytes) × Appends a c (take (from + n) bytes)
wrote_behind a b c from n bytes within fits before put =
    let room : n ≤ length bytes - from = subst (λ m. n ≤ m) (ap length (rest_whole from bytes) ∙ length-drop from bytes) fits in
    let part = subst (λ l. Appends b c (take n l)) (rest_whole from bytes) put in
    (omega (arith, within, room), subst (Appends a c) (sym (take-add from n bytes)) (Appends-trans a b c _ _ before part))

pub loop-preserved : goal.loop-preserved
loop-preserved g c =
    let (within, before) = c.loop.invariant in
    let Goal : ℕ → Type 0 = λ m. (m ≤ length c.args.bytes.now) × Appends (g.W.Write.contents c.args.out.now) (g.W.Write.contents c.write.new.self) (take m c.args.bytes.now) in
    elim c.match-write.branch [ in-Ok w ↦ subst Goal (sym w.done-is) (wrote_behind _ _ _ _ _ _ within w.in-Ok.ensures.bound before w.in-Ok.ensures.bytes) | in-Err w ↦ subst Goal (sym w.done-is) (within, Appends-kept _ _ _ _ before w.in-Err.ensures.bytes) ]
