-- Laws of the loop over the fields of a run: what is left to pour at each place that it passes.
use mathlib.Core.Path.{◌≡◌}
use mathlib.Core.List.{List}
use Prim.Native.Nat.{ℕ, suc, ◌+◌, ◌-◌, ◌<◌, ◌≤◌}
use native.Mathlib.Omega.{arith}
use Rattle.lines.specs.declared.Sink.{Sink}
use Rattle.lines.specs.Sinks.{Pours}
use Rattle.lines.proofs.Pouring.{Pouring, pouring_on, pouring_end}
use Rattle.player.specs.Numbers.{number_line, number_lines}

module _ {room : ℕ} {before : List ℕ} {start : Sink} (registers paths labels store : List ℕ) (i first count : ℕ) where
  module _ (k : ℕ) {x out : List ℕ} {s : Sink} (p : Pouring room before out start x s (number_lines registers paths labels store i (first + k) (count - k))) where
    pub run_end_lem : count ≤ k → Pours room before out start x s
    unfolding number_lines
    run_end_lem h =
        let z : count - k ≡ 0 = omega (arith, h) in
        pouring_end (rw z at p)

    pub run_on : {o : List ℕ} {r : Sink} → k < count → Pours room out o s (number_line registers paths labels store i (first + k)) r
        → Pouring room before o start x r (number_lines registers paths labels store i (first + (k + 1)) (count - (k + 1)))
    unfolding number_lines
    run_on h w =
        let z : first + (k + 1) ≡ suc (first + k) = omega arith in
        let n : count - k ≡ suc (count - (k + 1)) = omega (arith, h) in
        rw z (pouring_on (number_line registers paths labels store i (first + k)) (number_lines registers paths labels store i (suc (first + k)) (count - (k + 1))) (rw n at p) w)
