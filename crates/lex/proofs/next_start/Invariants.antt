-- The next token's place is the same from every place that the three loops pass.
use Prim.Native.Nat.{◌-◌, ◌≤◌}
use mathlib.Core.Path.{◌≡◌}
use lib.ListN.{length}
use Rattle.lex.specs.Blank.{next_from, line_from, block_from}
use Rattle.lex.proofs.next_start.Given as goal

abbrev pub invariant-line : goal.invariant-line
invariant-line l = (l.initial.i ≤ l.i) × (l.i ≤ length l.text) × (line_from l.text l.i ≡ next_from l.text l.from)

abbrev pub decreases-line : goal.decreases-line
decreases-line l = length l.text - l.i

abbrev pub invariant-block : goal.invariant-block
invariant-block l = (l.initial.i ≤ l.i) × (l.i ≤ length l.text) × (block_from l.text l.begin l.i ≡ next_from l.text l.from)

abbrev pub decreases-block : goal.decreases-block
decreases-block l = length l.text - l.i

abbrev pub invariant-blanks : goal.invariant-blanks
invariant-blanks l = next_from l.text l.i ≡ next_from l.text l.from

abbrev pub decreases-blanks : goal.decreases-blanks
decreases-blanks l = length l.text - l.i
