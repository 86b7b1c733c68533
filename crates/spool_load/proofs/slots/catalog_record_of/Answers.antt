use Rattle.std.proofs.Common.{rules, ◌≡◌, Option, None, Some, IfSome, sym, subst}
use Rattle.spool_pages.specs.Bytes.{IsPadded}
use Rattle.spool_pages.specs.Fits.{FitsSlot, FitsSlotOf}
use Rattle.spool_catalog.specs.Records.{FitsCatalog}
use Rattle.spool_pages.specs.View.{SlotRecord, record_bytes, slot_bytes}
use Rattle.spool_load.proofs.slots.catalog_record_of.Goals as goal

pub returns-in_err-slot_there-in-Some-clause-decoded : goal.returns-in_err-slot_there-in-Some-clause-decoded
returns-in_err-slot_there-in-Some-clause-decoded c None fits padded = search rules
returns-in_err-slot_there-in-Some-clause-decoded c (Some r) fits padded =
    let used = c.from_bytes.ensures.used r fits.0.0 padded in
    let same : c.in-Some.record ≡ r = search rules in
    let shown = c.of.ensures.passes (subst (λ (q : SlotRecord). FitsCatalog (Some q)) (sym same) fits) in
    search rules

pub returns-in_ok-slot_there-in-Some-clause-decoded : goal.returns-in_ok-slot_there-in-Some-clause-decoded
returns-in_ok-slot_there-in-Some-clause-decoded c None fits padded = search rules
returns-in_ok-slot_there-in-Some-clause-decoded c (Some r) fits padded =
    let used = c.from_bytes.ensures.used r fits.0.0 padded in
    let same : c.in-Some.record ≡ r = search rules in
    let slot_there = c.in_ok-slot_there-in-Some.ensures.same in
    search rules

pub returns-in_ok-slot_there-in-Some-clause-are_at : goal.returns-in_ok-slot_there-in-Some-clause-are_at
returns-in_ok-slot_there-in-Some-clause-are_at c =
    let bytes = c.args.bytes.now in
    let padded =
    subst (λ (o : Option SlotRecord). IsPadded bytes (slot_bytes c.args.version o)) c.in-Some.is
    c.in_ok-record.ensures.valid in
    subst (λ (r : SlotRecord). IsPadded bytes (record_bytes c.args.version r))
    (sym c.in_ok-slot_there-in-Some.ensures.same)
    padded

pub returns-in_ok-slot_there-in-Some-clause-fits : goal.returns-in_ok-slot_there-in-Some-clause-fits
returns-in_ok-slot_there-in-Some-clause-fits c =
    let fits = subst (λ (o : Option SlotRecord). IfSome o FitsSlot) c.in-Some.is c.in_ok-record.ensures.fits in
    subst (λ (r : SlotRecord). FitsSlotOf (Some r)) (sym c.in_ok-slot_there-in-Some.ensures.same)
    (fits, c.in_ok-slot_there-in-Some.ensures.valid.printable)
