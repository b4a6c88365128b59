-- Two slices are equal by the library's test exactly where they hold the same bytes.
use Rattle.std.proofs.Common.{◌∙◌}
use Rattle.chars.proofs.Laws.{same-pointwise}
use Rattle.chars.proofs.same.Goals as goal

pub returns : goal.returns
returns c = c.eq.ensures ∙ same-pointwise _ _
