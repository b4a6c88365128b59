-- The cap times 65,536 stays below 2 ^ 64, and the product is cut.
use Rattle.capped.proofs.Laws.{cut_capped, product_fits}
use Rattle.capped.proofs.product.Goals as goal

pub overflow_mul-a : goal.overflow_mul-a
overflow_mul-a c = record { fits = search product_fits }

pub returns : goal.returns
returns c = search cut_capped
