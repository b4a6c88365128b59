-- Where the listing does not fit, the output shows the line of that refusal; else it shows the listing.
use Rattle.std.proofs.Common.{ap}
use Rattle.basics.specs.Judged.{outcome}
use Rattle.reply.proofs.Showing.{listing_refused, listing_written}
use Rattle.reply.proofs.write_listing.Goals as goal

pub returns-in-Ok : goal.returns-in-Ok
returns-in-Ok c = listing_written _ _ c.list.ensures.answer c.list.ensures.written (ap outcome c.in-Ok.is)

pub returns-in-Err : goal.returns-in-Err
returns-in-Err c = listing_refused _ _ c.list.ensures.answer c.list.ensures.written (ap outcome c.in-Err.is) (rw c.number.ensures at c.write_refusal.ensures)
