use Rattle.std.proofs.Common.{◌≡◌, ◌∙◌, ◌≤◌, ◌*◌, ℕ, None, ap, subst, sym, refl, Bool, true}
use Rattle.spool_journal.specs.declared.TheConstants.{PAGE}
use Rattle.spool_disk.specs.Views.{Lasts}
use Rattle.spool_journal.specs.Image.{text_page}
use Rattle.upload_rules.specs.Answers.{IsLate}
use Rattle.upload_rules.specs.Calls.{terminate_outcome, terminate_refusal}
use Rattle.upload_rules.specs.World.{World}
use Rattle.upload_rules.proofs.Deleted.{none_in_others}
use Rattle.spool_kept.specs.Drafting.{DraftsFit, StandsFor}
use Rattle.spool_catalog.specs.Holding.{Holding, FitsTogether, IsUsedBy}
use Rattle.spool_kept.specs.Stored.{ShowsEither}
use Rattle.spool_catalog.specs.TakenOut.{IsTakenOut}
use Rattle.spool_kept.proofs.drafts.Forgotten.{fits_after, represents_forgotten}
use Rattle.spool_kept.proofs.drafts.OfDeleted.{represents_after}
use Rattle.spool_kept.proofs.slots.Terminated.{allowed, crash_after, refused, stored_after}
use Rattle.spool_kept.proofs.terminating.terminate.Goals as goal
use Rattle.spool_kept.proofs.terminating.terminate.Goals.{After-change, After-forget_tails, After-take_out, In-Some}
use Rattle.spool_kept.proofs.terminating.terminate.Given.{Over}

-- NO SLOT HAS THE NUMBER

pub returns-in_default-clause-taken_out : goal.returns-in_default-clause-taken_out
returns-in_default-clause-taken_out g c _ slot used = absurd (c.in_default.ensures.used slot used)

pub returns-in_default-clause-forgets : goal.returns-in_default-clause-forgets
returns-in_default-clause-forgets g c _ slot used = absurd (c.in_default.ensures.used slot used)

pub returns-in_default-clause-answer : goal.returns-in_default-clause-answer
returns-in_default-clause-answer g c sure w represents =
    (refused c.args.number represents.stored c.in_default.ensures.used, represents)

-- A SLOT HAS IT, SO THE RULES ALLOW IT

may : (g : Over) (c : In-Some g) {sure : Bool} (w : World) → StandsFor sure g.D.Disk c.args.disk.now c.args.catalog.now
    c.args.drafts.now.items w → terminate_refusal w c.args.number ≡ None
may g c w represents = allowed c.args.number represents.stored c.in-Some.ensures.used

pub returns-in_default-pages_without-clause-answer : goal.returns-in_default-pages_without-clause-answer
returns-in_default-pages_without-clause-answer g c sure w represents =
    let allowed = may g (goal.at.returns-in_default-pages_without-clause-answer g c).In-Some w represents in
    (subst IsLate (sym allowed) tt, represents)

pub returns-clause-answer : goal.returns-clause-answer
returns-clause-answer g c sure w represents =
    subst IsLate (sym (may g (goal.at.returns-clause-answer g c).In-Some w represents)) tt

-- THE CATALOG, AND THE DRAFTS

out_of : (g : Over) (c : After-take_out g) (slot : ℕ) → IsUsedBy c.args.catalog.now.slots slot c.args.number
    → IsTakenOut c.args.catalog.now slot c.take_out.new.self
out_of g c slot used = rw (← (c.in-Some.ensures.only slot used)) at c.take_out.ensures

pub returns-in-Ok-change-clause-taken_out : goal.returns-in-Ok-change-clause-taken_out
returns-in-Ok-change-clause-taken_out g c _ =
    out_of g (goal.at.returns-in-Ok-change-clause-taken_out g c).After-take_out

pub returns-clause-taken_out : goal.returns-clause-taken_out
returns-clause-taken_out g c _ = out_of g (goal.at.returns-clause-taken_out g c).After-take_out

fit : (g : Over) (c : After-forget_tails g) → DraftsFit c.take_out.new.self c.forget_tails.new.drafts.items
fit g c =
    fits_after c.in-Some.ensures.used c.take_out.ensures c.args.drafts.now.items c.forget_tails.new.drafts.items
    c.forget_tails.ensures c.requires.fits

pub returns-in-Ok-change-clause-fits : goal.returns-in-Ok-change-clause-fits
returns-in-Ok-change-clause-fits g c = fit g (goal.at.returns-in-Ok-change-clause-fits g c).After-forget_tails

pub returns-clause-fits : goal.returns-clause-fits
returns-clause-fits g c = fit g (goal.at.returns-clause-fits g c).After-forget_tails

-- A CRASH

crash : (g : Over) (c : After-change g) (w : World) → StandsFor true g.D.Disk c.args.disk.now c.args.catalog.now
    c.args.drafts.now.items w → Lasts g.D.Disk c.args.disk.now c.change.new.disk
    (ShowsEither c.args.catalog.now.layout w.store (terminate_outcome w c.args.number))
crash g c w represents =
    let layout = ap (λ (k : Holding). k.layout) (sym c.catalog.view_is) in
    let rows = ap (λ (k : Holding). k.blocks.rows) (sym c.catalog.view_is) ∙ sym c.rows.ensures.same in
    crash_after c.args.number represents.stored c.in-Some.ensures.used c.take_out.ensures c.in-Ok.ensures.changes
    (λ v v' blocks but same. c.fill_rows.ensures.changes v v' (blocks ∙ layout) but (same ∙ rows))
    refl (λ v v' blocks. c.change.ensures.lasts (represents.stored.honest refl) v v' (blocks ∙ layout))

pub returns-in-Ok-change-clause-crash : goal.returns-in-Ok-change-clause-crash
returns-in-Ok-change-clause-crash g c = crash g (goal.at.returns-in-Ok-change-clause-crash g c).After-change

pub returns-clause-crash : goal.returns-clause-crash
returns-clause-crash g c = crash g (goal.at.returns-clause-crash g c).After-change

-- DONE

pub returns-in-Ok-change-clause-answer : goal.returns-in-Ok-change-clause-answer
returns-in-Ok-change-clause-answer g c sure w represents =
    let h = c.args.catalog.now in
    let out = c.take_out.ensures in
    let stored = represents.stored in
    let d = c.args.disk.now in
    let d' = c.change.new.disk in
    let layout = ap (λ (k : Holding). k.layout) (sym c.catalog.view_is) in
    let same : c.catalog.inside.layout ≡ h.layout = sym layout ∙ out.layout in
    let rows = ap (λ (k : Holding). k.blocks.rows) (sym c.catalog.view_is) ∙ sym c.rows.ensures.same in
    let now = stored_after c.args.number stored c.in-Some.ensures.used out c.in-Ok.ensures.changes
    (λ v v' blocks but same. c.fill_rows.ensures.changes v v' (blocks ∙ layout) but (same ∙ rows))
    (subst FitsTogether c.catalog.view_is c.catalog.invariant) c.in-Ok-change.ensures.honest.0
    (λ known v v' blocks. c.in-Ok-change.ensures.done (stored.honest known) v v' (blocks ∙ layout)) in
    let texts : sure ≡ true → (p : ℕ) → PAGE * text_page h.layout ≤ p → g.D.Disk.current d' p ≡ g.D.Disk.current d p =
    λ known. rw same at (c.in-Ok-change.ensures.texts (stored.honest known) stored.view
    (sym stored.has_view.blocks ∙ sym same) (stored.rests known)) in (
      may g (goal.at.returns-in-Ok-change-clause-answer g c).In-Some w represents,
      represents_forgotten c.args.number c.args.drafts.now.items c.forget_tails.new.drafts.items c.forget_tails.ensures
          (none_in_others c.args.number w.store.uploads) (represents_after c.in-Some.ensures.used out represents now
          texts),
    )
