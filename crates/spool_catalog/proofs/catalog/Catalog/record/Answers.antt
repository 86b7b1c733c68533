use Rattle.std.proofs.Common.{rules, ◌≡◌, None, Some, option_copied, sym}
use Rattle.upload_rules.specs.Store.{upload_of}
use Rattle.spool_catalog.proofs.Answered.{found, none_valid, some_valid, catalog_represents, no_upload}
use Rattle.spool_catalog.proofs.catalog.Catalog.record.Goals as goal

pub returns-in_err-slot-clause-valid : goal.returns-in_err-slot-clause-valid
returns-in_err-slot-clause-valid c v m catalog shows =
    let none : option_copied c.from_residual.result ≡ None = search rules in
    let empty = no_upload catalog shows c.args.number c.in_err-slot.ensures.used in
    rw (← none) at (none_valid m.indexes c.args.number (upload_of m c.args.number) empty)

pub returns-in_err-slot-clause-recorded : goal.returns-in_err-slot-clause-recorded
returns-in_err-slot-clause-recorded c v m catalog shows =
    catalog_represents m.indexes c.args.number (upload_of m c.args.number) (option_copied c.from_residual.result)
    (returns-in_err-slot-clause-valid c v m catalog shows)

pub returns-clause-valid : goal.returns-clause-valid
returns-clause-valid c v m catalog shows =
    let n = c.args.number in
    let recorded = found catalog shows (sym c.in_ok-catalog.ensures.slot) c.in_ok-slot.ensures.used
    c.record.ensures.slot_record
    c.record.ensures.unpacked in
    some_valid m.indexes n (upload_of m n) recorded.0 c.record.result.now recorded.1 recorded.2

pub returns-clause-recorded : goal.returns-clause-recorded
returns-clause-recorded c v m catalog shows =
    catalog_represents m.indexes c.args.number (upload_of m c.args.number) (Some c.record.result.now)
    (returns-clause-valid c v m catalog shows)
