use Rattle.std.proofs.Common.{◌≡◌, ◌∙◌, None, Some, get_or, ap, sym, arith, refl}
use Rattle.upload_rules.specs.Records.{RepresentsValid}
use Rattle.upload_rules.specs.Store.{Store, Upload, upload_of}
use Rattle.spool_pages.specs.View.{SlotRecord, View}
use Rattle.spool_catalog.specs.Holding.{Holding}
use Rattle.spool_catalog.specs.Catalog.{HasView}
use Rattle.spool_catalog.specs.Records.{slot_record_of}
use Rattle.spool_catalog.specs.Shows.{Shows}
use Rattle.spool_catalog.proofs.Answered.{found, match_is_none, no_upload, only_record, text_recorded}
use Rattle.spool_catalog.proofs.Answered.{few_listed, list_owned}
use Rattle.spool_catalog.proofs.catalog.Catalog.upload.Goals as goal

pub returns-in_err-slot-clause-recorded : goal.returns-in_err-slot-clause-recorded
returns-in_err-slot-clause-recorded c v m catalog shows =
    match_is_none _ c.from_residual.result c.from_residual.ensures
    (no_upload catalog shows c.args.number c.in_err-slot.ensures.used)

pub returns-clause-few : goal.returns-clause-few
returns-clause-few c = few_listed c.args.self.now c.list-list.ensures.fits c.in_ok-slot.slot c.in_ok-slot.ensures.below
    (omega (arith, ap (λ (h : Holding). h.layout) c.self.view_is, c.blocks-few.ensures.same, c.blocks-few.ensures.few))
    c.list-list.result.now c.list-list.ensures.blocks

pub returns-clause-owned : goal.returns-clause-owned
returns-clause-owned c =
    list_owned c.args.self.now c.list-list.ensures.fits c.in_ok-slot.slot c.in_ok-slot.ensures.below c.args.number
    c.in_ok-slot.ensures.used c.list-list.result.now c.list-list.ensures.blocks

record_there : (c : goal.After-record)
    → get_or c.args.self.now.slots c.in_ok-slot.slot None ≡ Some (slot_record_of c.record.result.now)
record_there c = sym c.in_ok-used.ensures.slot ∙ ap (λ (q : SlotRecord). Some q) (sym c.record.ensures.slot_record)

pub returns-clause-numbered : goal.returns-clause-numbered
returns-clause-numbered c =
    c.list-list.ensures.fits.below c.in_ok-slot.slot (slot_record_of c.record.result.now) (record_there c)

pub returns-clause-in_slot : goal.returns-clause-in_slot
returns-clause-in_slot c = record {
  slot = c.in_ok-slot.slot;
  there = record_there c;
  only = λ t q e is. only_record t c.in_ok-slot.ensures.only (record_there c) c.in_ok-slot.ensures.used e is;
}

-- the upload that the record represents
abbrev recorded_of : (c : goal.After-record) (v : View) (m : Store) → HasView c.args.self.now v → Shows v m
    → (u : Upload)
    × (upload_of m c.args.number ≡ Some u) × RepresentsValid m.indexes c.args.number c.record.result.now u
recorded_of c v m catalog shows = found catalog shows (record_there c) c.in_ok-slot.ensures.used refl
    c.record.ensures.unpacked

pub returns-clause-recorded : goal.returns-clause-recorded
returns-clause-recorded c v m catalog shows =
    let recorded = recorded_of c v m catalog shows in
    record { upload = recorded.0; there = recorded.1; valid = recorded.2 }

pub returns-clause-text : goal.returns-clause-text
returns-clause-text c v m bytes catalog shows encodes u there =
    rw c.list-list.ensures.blocks (text_recorded catalog shows (record_there c) c.in_ok-slot.ensures.used bytes
    encodes u there)

pub returns-clause-state : goal.returns-clause-state
returns-clause-state c =
    let is = c.record.ensures.unpacked in
    λ none. none is.transcoder is.valid (sym is.is)
