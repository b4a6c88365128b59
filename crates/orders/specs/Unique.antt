-- Which items meet an earlier one, by pairs: over any relation, equality or a clash.
use Rattle.std.specs.Prelude.{◌≡◌, Bool, true, false, ℕ, zero, suc, ◌+◌, ◌<◌, ◌≤◌, eqb}
use Rattle.std.specs.Prelude.{if◌then◌else◌}
use Rattle.orders.specs.declared.Bounds.{Bounds}

-- some of the first k items meets item j
unfoldable pub meets : (ℕ → ℕ → Bool) → ℕ → ℕ → Bool
meets touches j zero = false
meets touches j (suc k) = if touches k j then true else meets touches j k

-- of the first n items, none meets an earlier one
unfoldable pub unique : (ℕ → ℕ → Bool) → ℕ → Bool
unique touches zero = true
unique touches (suc n) = if meets touches n n then false else unique touches n

-- the first item from i on that meets an earlier one, among so many; the one behind them where there is none
unfoldable pub first_from : (ℕ → ℕ → Bool) → ℕ → ℕ → ℕ
first_from touches i zero = i
first_from touches i (suc count) = if meets touches i i then i else first_from touches (i + 1) count

-- the first of n items that meets an earlier one; n where there is none
unfoldable pub first_meeting : (ℕ → ℕ → Bool) → ℕ → ℕ
first_meeting touches n = first_from touches 0 n

-- any of n items that meets an earlier one; n where there is none
pub record SomeMeeting (touches : ℕ → ℕ → Bool) (n r : ℕ) : Type 0 where
  pub within : r ≤ n
  pub clear : r ≡ n → unique touches n ≡ true
  pub hit : r < n → meets touches r r ≡ true

-- what `narrowed` answers
unfoldable pub narrow_by : Bounds → ℕ → ℕ → Bounds
narrow_by b middle found = if eqb found middle then record { low = middle; high = b.high } else record { low = b.low; high = found }
