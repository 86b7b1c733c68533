use Rattle.std.proofs.Common.{Ok, Err, ◌≡◌, ◌∙◌, [], None, ap, get_or, sym, Bool, Some}
use Rattle.std.proofs.lemmas.Result.{err_from_is_err_and}
use Rattle.upload_rules.specs.Calls.{commit_refusal, dropped}
use Rattle.upload_rules.specs.Store.{find, patched_store}
use Rattle.upload_rules.specs.World.{Patch, World}
use Rattle.upload_rules.specs.declared.errors.UploadError.{UploadError}
use Rattle.common.specs.declared.stop.Stop.{Stop}
use Rattle.spool_kept.specs.Committing.{IsCommit}
use Rattle.spool_kept.specs.Drafting.{StandsFor}
use Rattle.spool_catalog.specs.Holding.{Holding}
use Rattle.spool_kept.proofs.commits.CommitHead as head
use Rattle.spool_kept.proofs.commits.CommitSpent as spent
use Rattle.spool_kept.proofs.drafts.Drafted.{dropped_out}
use Rattle.spool_kept.proofs.drafts.OfUploads.{after_slot, fits_out}
use Rattle.spool_kept.proofs.committing.commit.Given.{Over}
use Rattle.spool_kept.proofs.committing.commit.Goals as goal
use Rattle.spool_kept.proofs.committing.commit.Goals.{After-append_to}

pub append_to-requires-clause-placed : goal.append_to-requires-clause-placed
append_to-requires-clause-placed g c = c.requires.fits.blocks.placed c.args.number c.in-Some.draft
    (sym c.in-Some.ensures.taken)

pub append_to-requires-clause-after : goal.append_to-requires-clause-after
append_to-requires-clause-after g c =
    after_slot c.args.catalog.now.slots c.in-Some.draft c.in-Ok.found.slot c.in-Ok.ensures.same
    (head.found_open c.args.catalog.now.slots c.in-Some.draft c.in-Ok.found c.in-Ok.ensures c.if-not-found.true)
    (c.requires.fits.uploads c.args.number c.in-Some.draft (sym c.in-Some.ensures.taken))

-- EXACTLY SO REFUSED

pub returns-in-Err-clause-no_such : goal.returns-in-Err-clause-no_such
returns-in-Err-clause-no_such g c o here =
    (head.refused_for c.in-Some.ensures.taken here c.in-Err.refusal c.in-Err.ensures).0

pub returns-in-Err-clause-offset : goal.returns-in-Err-clause-offset
returns-in-Err-clause-offset g c o here =
    (head.refused_for c.in-Some.ensures.taken here c.in-Err.refusal c.in-Err.ensures).1

pub returns-clause-no_such : goal.returns-clause-no_such
returns-clause-no_such g c o here = (head.done_for c.in-Some.ensures.taken here (Ok c.offset-offset.result)
    c.in-Ok.ensures.same (λ e refused. absurd cc)).0

pub returns-clause-offset : goal.returns-clause-offset
returns-clause-offset g c o here = (head.done_for c.in-Some.ensures.taken here (Ok c.offset-offset.result)
    c.in-Ok.ensures.same (λ e refused. absurd cc)).1

pub returns-then-found-clause-no_such : goal.returns-then-found-clause-no_such
returns-then-found-clause-no_such g c o here = (head.done_for c.in-Some.ensures.taken here
    (Ok c.in_ok-set_length.field-0) c.in-Ok.ensures.same (λ e refused. absurd cc)).0

pub returns-then-found-clause-offset : goal.returns-then-found-clause-offset
returns-then-found-clause-offset g c o here = (head.done_for c.in-Some.ensures.taken here
    (Ok c.in_ok-set_length.field-0) c.in-Ok.ensures.same (λ e refused. absurd cc)).1

pub returns-in_err-set_length-clause-no_such : goal.returns-in_err-set_length-clause-no_such
returns-in_err-set_length-clause-no_such g c o here =
    let err = err_from_is_err_and c.from_residual.result c.from_residual.ensures.1 in
    (head.done_for c.in-Some.ensures.taken here c.from_residual.result c.in-Ok.ensures.same
    (head.stop_refuses_not c.from_residual.result c.in_err-set_length.field-0.0
    (err.1 ∙ ap (λ (e : UploadError). Err e) err.2))).0

pub returns-in_err-set_length-clause-offset : goal.returns-in_err-set_length-clause-offset
returns-in_err-set_length-clause-offset g c o here =
    let err = err_from_is_err_and c.from_residual.result c.from_residual.ensures.1 in
    (head.done_for c.in-Some.ensures.taken here c.from_residual.result c.in-Ok.ensures.same
    (head.stop_refuses_not c.from_residual.result c.in_err-set_length.field-0.0
    (err.1 ∙ ap (λ (e : UploadError). Err e) err.2))).1

pub returns-then-not-found-clause-no_such : goal.returns-then-not-found-clause-no_such
returns-then-not-found-clause-no_such g c o here = (head.done_for c.in-Some.ensures.taken here c.append_to.result
    c.in-Ok.ensures.same c.append_to.ensures.refusal).0

pub returns-then-not-found-clause-offset : goal.returns-then-not-found-clause-offset
returns-then-not-found-clause-offset g c o here = (head.done_for c.in-Some.ensures.taken here c.append_to.result
    c.in-Ok.ensures.same c.append_to.ensures.refusal).1

-- WITHOUT A CALL OF THE DISK

pub returns-in-Err-clause-fits : goal.returns-in-Err-clause-fits
returns-in-Err-clause-fits g c = fits_out c.args.number c.catalog.view_is c.in-Some.ensures.taken c.taken.ensures.after
    c.give_back.ensures c.requires.fits

pub returns-clause-fits : goal.returns-clause-fits
returns-clause-fits g c = fits_out c.args.number c.catalog.view_is c.in-Some.ensures.taken c.taken.ensures.after
    c.give_back-2.ensures c.requires.fits

pub returns-in-Err-clause-answer : goal.returns-in-Err-clause-answer
returns-in-Err-clause-answer g c sure w p s there = (
  head.head_refused (head.opened c.args.number s there c.in-Some.ensures.taken) c.in-Err.refusal c.in-Err.ensures,
  dropped_out c.args.number c.catalog.view_is c.in-Some.ensures.taken c.taken.ensures.after c.give_back.ensures s,
)

pub returns-clause-answer : goal.returns-clause-answer
returns-clause-answer g c sure w p s there =
    let k = head.opened c.args.number s there c.in-Some.ensures.taken in
    let stays = c.if-not-found.false in (
      head.left_allowed k c.in-Ok.ensures stays,
      (
        head.left_reached k c.in-Ok.ensures stays c.offset-offset.result c.offset-offset.ensures,
        head.idle_represents k c.in-Ok.ensures stays c.if-found.false _ _ (dropped_out c.args.number c.catalog.view_is
            c.in-Some.ensures.taken c.taken.ensures.after c.give_back-2.ensures s),
      ),
    )

-- ITS LENGTH ALONE

pub returns-then-found-clause-fits : goal.returns-then-found-clause-fits
returns-then-found-clause-fits g c = c.set_length.ensures.fits c.taken.new.drafts.items
    (fits_out c.args.number c.catalog.view_is c.in-Some.ensures.taken c.taken.ensures.after c.give_back-2.ensures
    c.requires.fits)

pub returns-then-found-clause-answer : goal.returns-then-found-clause-answer
returns-then-found-clause-answer g c sure w p s there =
    let k = head.opened c.args.number s there c.in-Some.ensures.taken in
    let finds = c.in-Ok.ensures in
    let stays = c.if-not-found.false in
    let new = c.if-found.true in
    let left = dropped_out c.args.number c.catalog.view_is c.in-Some.ensures.taken c.taken.ensures.after
    c.give_back-2.ensures s in
    let used = rw (← c.catalog.view_is) at (head.used_is k finds stays new) in
    let is_there = ap (λ (h : Holding). get_or h.slots c.in-Ok.found.slot None) c.catalog.view_is
    ∙ finds.same.there in (
      head.left_allowed k finds stays,
      (
        c.in_ok-set_length.ensures.count finds.same.used is_there
            ∙ head.left_reached k finds stays finds.same.used.accepted finds.same.count,
        rw (← (head.length_represents k finds stays new)) at (c.in_ok-set_length.ensures.answer sure
            c.taken.new.drafts.items (dropped w c.args.number) p.number left used
            (head.length_small k finds stays new)),
      ),
    )

pub returns-then-found-clause-crash : goal.returns-then-found-clause-crash
returns-then-found-clause-crash g c w p s there =
    let k = head.opened c.args.number s there c.in-Some.ensures.taken in
    let finds = c.in-Ok.ensures in
    let stays = c.if-not-found.false in
    let new = c.if-found.true in
    let left = dropped_out c.args.number c.catalog.view_is c.in-Some.ensures.taken c.taken.ensures.after
    c.give_back-2.ensures s in
    let used = rw (← c.catalog.view_is) at (head.used_is k finds stays new) in
    let outcome = spent.outcome_is w c.args.number p (head.left_allowed k finds stays)
    (patched_store w.store p.number c.in-Ok.found.declared []) (head.store_is k finds stays new) in
    rw (ap (λ (h : Holding). h.layout) c.catalog.view_is) at (rw (← outcome) at
    (c.set_length.ensures.crash w.store p.number left.stored used (head.length_small k finds stays new)))

-- THE DISK OR THE MEMORY STOPS THAT

pub returns-in_err-set_length-clause-fits : goal.returns-in_err-set_length-clause-fits
returns-in_err-set_length-clause-fits g c = c.set_length.ensures.fits c.taken.new.drafts.items
    (fits_out c.args.number c.catalog.view_is c.in-Some.ensures.taken c.taken.ensures.after c.give_back-2.ensures
    c.requires.fits)

pub returns-in_err-set_length-clause-answer : goal.returns-in_err-set_length-clause-answer
returns-in_err-set_length-clause-answer g c sure w p s there =
    let k = head.opened c.args.number s there c.in-Some.ensures.taken in
    let left = dropped_out c.args.number c.catalog.view_is c.in-Some.ensures.taken c.taken.ensures.after
    c.give_back-2.ensures s in
    let err = err_from_is_err_and c.from_residual.result c.from_residual.ensures.1 in
    rw (err.1, err.2) (spent.stopped (commit_refusal w c.args.number p) c.in_err-set_length.field-0.0 _ _
    (head.left_allowed k c.in-Ok.ensures c.if-not-found.false)
    (λ short. let same = c.in_err-set_length.ensures.unmade (ap (λ (e : Stop). Err e) short) in
    rw (same.0, same.1) left))

pub returns-in_err-set_length-clause-crash : goal.returns-in_err-set_length-clause-crash
returns-in_err-set_length-clause-crash g c w p s there =
    let k = head.opened c.args.number s there c.in-Some.ensures.taken in
    let finds = c.in-Ok.ensures in
    let stays = c.if-not-found.false in
    let new = c.if-found.true in
    let left = dropped_out c.args.number c.catalog.view_is c.in-Some.ensures.taken c.taken.ensures.after
    c.give_back-2.ensures s in
    let used = rw (← c.catalog.view_is) at (head.used_is k finds stays new) in
    let outcome = spent.outcome_is w c.args.number p (head.left_allowed k finds stays)
    (patched_store w.store p.number c.in-Ok.found.declared []) (head.store_is k finds stays new) in
    rw (ap (λ (h : Holding). h.layout) c.catalog.view_is) at (rw (← outcome) at
    (c.set_length.ensures.crash w.store p.number left.stored used (head.length_small k finds stays new)))

-- AFTER THE UPLOAD'S TEXT

is_commit : (g : Over) (c : After-append_to g) {sure : Bool} (w : World) (p : Patch)
    → StandsFor sure g.D.Disk c.args.disk.now c.args.catalog.now c.args.drafts.now.items w
    → find c.args.number w.patches ≡ Some p → IsCommit sure g.D.Disk c.args.disk.now c.args.catalog.now
    c.args.drafts.now.items c.args.number c.in-Some.draft w p
is_commit g c w p s there =
    head.commits (head.opened c.args.number s there c.in-Some.ensures.taken) c.in-Ok.ensures
    c.if-not-found.true c.requires.fits.blocks

pub returns-then-not-found-clause-answer : goal.returns-then-not-found-clause-answer
returns-then-not-found-clause-answer g c sure w p s there =
    rw (← c.taken.ensures.after) at (c.append_to.ensures.answer sure c.args.drafts.now.items c.args.number w p
    (is_commit g c w p s there))

pub returns-then-not-found-clause-crash : goal.returns-then-not-found-clause-crash
returns-then-not-found-clause-crash g c w p s there =
    c.append_to.ensures.crash c.args.drafts.now.items c.args.number w p (is_commit g c w p s there)

pub returns-then-not-found-clause-unmade : goal.returns-then-not-found-clause-unmade
returns-then-not-found-clause-unmade g c w p s there short =
    c.append_to.ensures.unmade c.args.drafts.now.items c.args.number w p (is_commit g c w p s there) short
