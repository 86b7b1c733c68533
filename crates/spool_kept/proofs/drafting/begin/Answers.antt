use Rattle.std.proofs.Common.{◌<◌, Some, refl}
use Rattle.std.proofs.lemmas.Option.{same_Some}
use Rattle.spool_drafts.specs.Drafts.{upload_number_of}
use Rattle.spool_drafts.specs.declared.draft.SpoolDraft.{SpoolDraft}
use Rattle.spool_pages.proofs.Resting.{rests_encodes}
use Rattle.upload_rules.specs.Store.{upload_of}
use Rattle.spool_kept.specs.Drafting.{IsOfUpload}
use Rattle.spool_kept.proofs.drafts.DraftBegun.{begin_allowed, begin_late, begin_refused, begins, changed_more}
use Rattle.spool_kept.proofs.drafts.DraftBegun.{fit_begun}
use Rattle.spool_kept.proofs.drafts.OfUploads.{each_changed}
use Rattle.spool_kept.proofs.drafting.begin.Goals as goal

pub returns-in-Err-clause-answer : goal.returns-in-Err-clause-answer
returns-in-Err-clause-answer g c sure disk w s =
    let opens = c.in-Err.ensures.opened s.stored.view w.store s.stored.has_view s.stored.shows in (
      begin_refused s c.args.number c.args.offset c.args.count c.args.declare
          (upload_of w.store c.args.number) c.in-Err.refusal refl opens,
      s,
    )

pub returns-in-Ok-placed-clause-fits : goal.returns-in-Ok-placed-clause-fits
returns-in-Ok-placed-clause-fits g c =
    let before = c.args.drafts.now.items in
    let after = c.placed.new.drafts.items in
    let placed = c.in-Ok-placed.ensures.ok in
    let d = c.in-Ok-placed.number in
    let next = c.args.catalog.now.next in
    let changed = changed_more placed in
    record {
      blocks = fit_begun placed c.args.catalog.now.layout c.args.catalog.now.blocks c.requires.fits.blocks
          c.in-Ok.ensures.none c.in-Ok.ensures.placed;
      below = each_changed (λ (o : SpoolDraft). upload_number_of o < next) before after d (Some c.in-Ok.draft) changed
          c.requires.fits.below (λ a e. rw (same_Some c.in-Ok.draft a e) at c.in-Ok.ensures.below);
      uploads = each_changed (IsOfUpload c.args.catalog.now.slots) before after d (Some c.in-Ok.draft) changed
          c.requires.fits.uploads (λ a e. rw (same_Some c.in-Ok.draft a e) at c.in-Ok.ensures.of_upload);
    }

pub returns-in-Ok-placed-clause-answer : goal.returns-in-Ok-placed-clause-answer
returns-in-Ok-placed-clause-answer g c sure disk w s =
    let n = c.args.number in
    let opens = c.in-Ok.ensures.opened s.stored.view w.store s.stored.has_view s.stored.shows in (
      begin_allowed s n c.args.offset c.args.count c.args.declare (upload_of w.store n) c.in-Ok.draft refl opens,
      begins s n c.args.offset c.args.count c.args.declare c.in-Ok-placed.ensures.ok c.in-Ok.ensures.none
          c.in-Ok.ensures.owned
          (λ known. c.in-Ok.ensures.carries s.stored.view w.store (g.D.Disk.current disk) s.stored.has_view
          s.stored.shows
          (rests_encodes (s.stored.rests known))) (upload_of w.store n) refl opens,
    )

pub returns-in-Err-placed-clause-answer : goal.returns-in-Err-placed-clause-answer
returns-in-Err-placed-clause-answer g c sure disk w s =
    let n = c.args.number in
    let opens = c.in-Ok.ensures.opened s.stored.view w.store s.stored.has_view s.stored.shows in (
      begin_late s n c.args.offset c.args.count c.args.declare (upload_of w.store n) c.in-Ok.draft refl opens,
      rw (← c.in-Err-placed.ensures.err) at s,
    )
