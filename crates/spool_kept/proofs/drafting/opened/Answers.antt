use Rattle.std.proofs.Common.{subst, sym, Option}
use Rattle.spool_journal.specs.Image.{text_page}
use Rattle.upload_rules.specs.Store.{Upload}
use Rattle.spool_kept.specs.Drafting.{OpensFor}
use Rattle.spool_kept.proofs.drafts.Drafted.{carries_for, tail_owned}
use Rattle.spool_kept.proofs.drafts.OfUploads.{begins_below, begins_in_slot}
use Rattle.spool_kept.proofs.drafting.opened.Goals as goal

pub returns-clause-owned : goal.returns-clause-owned
returns-clause-owned c = tail_owned c.args.catalog.now.slots c.args.catalog.now.blocks.rows c.args.number _ _
    c.begin.result
    c.in-Some.ensures.owned c.begin.ensures.tail

pub returns-clause-below : goal.returns-clause-below
returns-clause-below c =
    let r = c.in-Some.found.upload.now in
    begins_below c.args.catalog.now.next r.number r.accepted c.args.declare c.begin.result c.in-Some.ensures.numbered
    c.begin.ensures.named

pub returns-clause-of_upload : goal.returns-clause-of_upload
returns-clause-of_upload c = begins_in_slot c.args.catalog.now.slots c.in-Some.found.upload.now c.args.declare
    c.begin.result
    c.in-Some.ensures.in_slot c.begin.ensures.named c.begin.ensures.after

pub returns-clause-opened : goal.returns-clause-opened
returns-clause-opened c v m catalog shows =
    let recorded = c.in-Some.ensures.recorded v m catalog shows in
    let n = c.args.number in
    subst (λ (o : Option Upload). OpensFor m n c.args.offset c.args.count c.args.declare o c.begin.result)
    (sym recorded.there) (c.begin.ensures.begun m.indexes n recorded.upload recorded.valid)

pub returns-clause-carries : goal.returns-clause-carries
returns-clause-carries c v m bytes catalog shows encodes =
    let recorded = c.in-Some.ensures.recorded v m catalog shows in
    let n = c.args.number in
    let first = text_page c.args.catalog.now.layout in
    let text = c.in-Some.ensures.text v m bytes catalog shows encodes recorded.upload recorded.there in
    carries_for m n c.args.count c.args.declare bytes first recorded.upload c.begin.result recorded.there
    (c.begin.ensures.content m.indexes n recorded.upload bytes first recorded.valid text)
