-- All bits up to the highest, less those below the lowest, are the number with exactly the field's bits.
use native.Mathlib.Omega.{arith}
use Rattle.cover.specs.Covers.{has_bit}
use Rattle.cover.proofs.Laws.{narrow_within, mask_one, mask_less, mask_is}
use Rattle.cover.proofs.bits_of.Goals as goal

pub overflow_sub-to_high : goal.overflow_sub-to_high
unfolding has_bit
overflow_sub-to_high c = let w = narrow_within _ c.requires in omega arith

pub overflow_shl-below_low : goal.overflow_shl-below_low
unfolding has_bit
overflow_shl-below_low c = let w = narrow_within _ c.requires in omega arith

pub overflow_sub-below_low : goal.overflow_sub-below_low
unfolding has_bit
overflow_sub-below_low c = let w = narrow_within _ c.requires in mask_one _ _ w.0 w.1

pub overflow_sub-result : goal.overflow_sub-result
unfolding has_bit
overflow_sub-result c = let w = narrow_within _ c.requires in mask_less _ _ w.0 w.1

pub returns : goal.returns
unfolding has_bit
returns c = let w = narrow_within _ c.requires in mask_is _ _ w.0 w.1
