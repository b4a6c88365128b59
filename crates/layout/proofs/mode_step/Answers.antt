-- The mode picks access width, size, or for an array in full alignment the power of two above its span.
use Rattle.layout.proofs.Laws.{mode_compact, mode_regalign, mode_single, mode_array, power_low}
use Rattle.layout.proofs.mode_step.Goals as goal

pub returns-then-mode-mode_code : goal.returns-then-mode-mode_code
returns-then-mode-mode_code c = search mode_compact

pub returns-then-mode-mode_code-2 : goal.returns-then-mode-mode_code-2
returns-then-mode-mode_code-2 c = search mode_regalign

pub returns-then-not-is_array : goal.returns-then-not-is_array
returns-then-not-is_array c = search mode_single

pub returns : goal.returns
returns c = search (mode_array, power_low)
