use borrow.Author.Rules.{rules}
use Rattle.overlaps.proofs.Plots.{filling_start, filling_on, filling_end, product_fits, key_fits}
use Rattle.overlaps.proofs.put_keys.Goals as goal

pub loop-i-init : goal.loop-i-init
loop-i-init c = search (rules, filling_start)

pub overflow_mul-keys : goal.overflow_mul-keys
overflow_mul-keys c = search (rules, product_fits)

pub overflow_add-keys : goal.overflow_add-keys
overflow_add-keys c = search (rules, key_fits)

pub loop-i-preserved : goal.loop-i-preserved
loop-i-preserved c = search (rules, filling_on)

pub returns : goal.returns
returns c = search (rules, filling_end)
