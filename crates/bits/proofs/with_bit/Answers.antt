-- `bits::with_bit` meets its contract: the shift and the sum stay below 2 ^ 64.
use mathlib.Core.Path.{◌≡◌, ap}
use Prim.Native.Nat.{ℕ, suc, ◌+◌, ◌*◌, ◌%◌, ◌^◌, ◌≤◌, ◌<◌}
use native.Mathlib.Nat.{pow-suc}
use native.Mathlib.Omega.{arith}
use lib.Pow.{shl_exact, pow_mono}
use Rattle.bits.proofs.with_bit.Goals as goal

-- `bits::with_bit` meets its contract: the shift and the sum stay below 2 ^ 64.
one_shifted : (i : ℕ) → i < 64 → (1 * 2 ^ i) % 2 ^ 64 ≡ 1 * 2 ^ i
one_shifted i h = shl_exact 1 i 64 (omega arith) (omega arith)

room : (i : ℕ) → i < 64 → 2 ^ suc i ≤ 2 ^ 64
room i h = pow_mono h

pub overflow_add-result : goal.overflow_add-result
overflow_add-result c = omega (arith, one_shifted c.args.i c.requires.0, pow-suc 2 c.args.i, room c.args.i c.requires.0)

pub returns-then-b : goal.returns-then-b
returns-then-b c = rw c.if-b.true (ap (λ (x : ℕ). c.args.lower + x) (one_shifted c.args.i c.requires.0))

pub returns : goal.returns
returns c = rw c.if-b.false (omega arith)
