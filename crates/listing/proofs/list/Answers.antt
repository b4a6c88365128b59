-- Unlawful rows are refused by 24; a dry run finds a short output, 22; else the output has the listing and its old rest.
use Rattle.std.proofs.Common.{refl, ap, not}
use Rattle.listing.proofs.Answers.{listed_numbers_lem, list_unlawful, list_bounds, list_long, list_written}
use Rattle.listing.proofs.list.Goals as goal

pub returns-then-not-are_lawful : goal.returns-then-not-are_lawful
returns-then-not-are_lawful c =
    let e = list_unlawful _ c.are_lawful.ensures _ (ap not c.if-not-are_lawful.true) in
    record { answer = e; numbers = listed_numbers_lem _ _ e; written = refl }

pub put_map-measured-requires : goal.put_map-measured-requires
put_map-measured-requires c = list_bounds _ c.are_lawful.ensures (ap not c.if-not-are_lawful.false)

pub returns-then-measured : goal.returns-then-measured
returns-then-measured c =
    let e = list_long _ c.are_lawful.ensures (ap not c.if-not-are_lawful.false) c.put_map-measured.ensures c.if-measured.true in
    record { answer = e; numbers = listed_numbers_lem _ _ e; written = refl }

pub put_map-written-requires : goal.put_map-written-requires
put_map-written-requires c = list_bounds _ c.are_lawful.ensures (ap not c.if-not-are_lawful.false)

pub returns : goal.returns
returns c =
    let w = list_written _ c.are_lawful.ensures (ap not c.if-not-are_lawful.false) c.put_map-measured.ensures c.if-measured.false
    c.put_map-written.ensures refl in
    record { answer = w.0; numbers = listed_numbers_lem _ _ w.0; written = w.1 }
