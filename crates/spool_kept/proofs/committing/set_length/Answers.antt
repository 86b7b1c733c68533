use Rattle.std.proofs.Common.{◌≡◌, ◌∙◌, [], List, Option, Err, rules, subst, sym}
use Rattle.common.specs.declared.stop.Stop.{Stop}
use Rattle.common.specs.declared.stop.Stop.TheVariants.{NoMemory, DiskFault}
use Rattle.spool_drafts.specs.declared.draft.SpoolDraft.{SpoolDraft}
use Rattle.spool_kept.specs.Committing.{MayDeclare}
use Rattle.spool_kept.specs.Drafting.{DraftsFit}
use Rattle.spool_catalog.specs.Holding.{Holding}
use Rattle.spool_catalog.specs.Records.{slot_record_of}
use Rattle.spool_kept.proofs.commits.CommitSpent.{represents_declared}
use Rattle.spool_kept.proofs.commits.Declared as declared
use Rattle.spool_kept.proofs.drafts.OfUploads.{fits_declared}
use Rattle.spool_kept.proofs.committing.set_length.Given.{Over}
use Rattle.spool_kept.proofs.committing.set_length.Goals as goal
use Rattle.spool_kept.proofs.committing.set_length.Goals.{After-extend}

-- the slot's record, as it was read
abbrev may_of : (g : Over) (c : After-extend g) → MayDeclare c.args.catalog.now.slots c.args.slot c.args.declared
may_of g c =
    let used : c.unwrap.result.now ≡ c.requires.may.used = search rules in
    declared.may_as (slot_record_of c.record-used.result.now) c.requires.may (c.record-used.ensures.slot_record ∙ used)

fit : (g : Over) (c : After-extend g) → (c.extend.result ≡ Err NoMemory → ⊥) → (drafts : List (Option SpoolDraft))
    → DraftsFit c.args.catalog.now drafts → DraftsFit c.extend.new.catalog drafts
fit g c made drafts before =
    let m = may_of g c in
    fits_declared c.args.catalog.now c.extend.new.catalog drafts (declared.named m.used c.args.slot c.args.declared)
    m.used
    m.there (declared.only_declares m) (c.extend.ensures.longer made m.used m.there) before

fit_stopped : (g : Over) (c : After-extend g) (stop : Stop) → c.extend.result ≡ Err stop
    → (drafts : List (Option SpoolDraft)) → DraftsFit c.args.catalog.now drafts → DraftsFit c.extend.new.catalog drafts
fit_stopped g c NoMemory is drafts =
    subst (λ (h : Holding). DraftsFit h drafts) (sym (c.extend.ensures.unmade is).0)
fit_stopped g c DiskFault is drafts = fit g c (λ e. cc) drafts

pub returns-clause-fits : goal.returns-clause-fits
returns-clause-fits g c drafts =
    fit g (goal.at.returns-clause-fits g c).After-extend (λ e. absurd (let was = c.in_ok-extend.was in cc)) drafts

pub returns-in_err-extend-clause-fits : goal.returns-in_err-extend-clause-fits
returns-in_err-extend-clause-fits g c drafts =
    fit_stopped g (goal.at.returns-in_err-extend-clause-fits g c).After-extend c.in_err-extend.field-0.0
    c.in_err-extend.was drafts

pub returns-clause-crash : goal.returns-clause-crash
returns-clause-crash g c m n stored used small =
    c.extend.ensures.crash m n c.args.declared []
    (declared.pending stored (may_of g (goal.at.returns-clause-crash g c).After-extend) used small)

pub returns-in_err-extend-clause-crash : goal.returns-in_err-extend-clause-crash
returns-in_err-extend-clause-crash g c m n stored used small =
    c.extend.ensures.crash m n c.args.declared []
    (declared.pending stored (may_of g (goal.at.returns-in_err-extend-clause-crash g c).After-extend) used small)

pub returns-clause-answer : goal.returns-clause-answer
returns-clause-answer g c sure drafts w n represents used small =
    let k = may_of g (goal.at.returns-clause-answer g c).After-extend in
    let pending = declared.pending represents.stored k used small in
    let wrote = c.in_ok-extend.ensures.written sure w.store n c.args.declared [] pending in
    represents_declared represents k.there wrote.append
    (declared.unknown_of represents.stored k used small wrote.append.upload wrote.append.there)
    (c.in_ok-extend.ensures.longer (λ e. cc) k.used k.there) (λ known. wrote.only (represents.stored.honest known))
    wrote.texts (c.in_ok-extend.ensures.answer sure w.store n c.args.declared [] pending)
