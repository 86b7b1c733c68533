use Rattle.std.proofs.Common.{◌≡◌, ◌∙◌, false, ap, subst, sym, refl, None, true}
use Rattle.upload_rules.specs.Answers.{IsLate}
use Rattle.upload_rules.specs.Calls.{create_refusal, outcome}
use Rattle.upload_rules.specs.Lengths.{is_too_large}
use Rattle.upload_rules.specs.Store.{New, Store, created_store}
use Rattle.upload_rules.specs.World.{at_rest}
use Rattle.spool_disk.specs.Views.{Lasts}
use Rattle.spool_catalog.specs.Holding.{Holding}
use Rattle.spool_kept.specs.Stored.{ShowsEither, Stored}
use Rattle.spool_kept.proofs.slots.MadeNew.{next_is, allowed, stored_new, crash_new}
use Rattle.spool_kept.proofs.drafts.OfUploads.{fits_created}
use Rattle.spool_kept.proofs.creating.create.Given.{Over}
use Rattle.spool_kept.proofs.creating.create.Goals as goal
use Rattle.spool_kept.proofs.creating.create.Goals.{After-change}

-- the length was looked at
small : (g : Over) (c : After-change g) → is_too_large c.args.new.declared ≡ false
small g c = ap is_too_large (sym (ap (λ (n : New). n.declared) c.new.view_is)) ∙ sym c.is_too_large.ensures
    ∙ c.if-is_too_large.false

pub returns-in-Ok-change-clause-answer : goal.returns-in-Ok-change-clause-answer
returns-in-Ok-change-clause-answer g c sure m stored =
    let room = c.in-Some.ensures.room in
    let known_small = small g (goal.at.returns-in-Ok-change-clause-answer g c).After-change in
    let few = c.in-Some.ensures.few stored.view m stored.has_view stored.shows in
    let is = c.new_record-record.ensures in
    let taken = c.in-Ok.ensures.taken in
    let layout : stored.view.blocks ≡ c.catalog.inside.layout =
    sym (ap (λ (k : Holding). k.layout) c.catalog.view_is ∙ taken.layout ∙ stored.has_view.blocks) in
    let changes = c.in-Ok.ensures.changes stored.view (sym stored.has_view.blocks) (sym stored.has_view.version)
    (sym stored.has_view.slots) in (
      allowed c.args.new stored room known_small few is,
      (
        c.next_number-number.ensures.same ∙ next_is c.args.new stored room known_small few is,
        stored_new c.args.new stored room known_small few is changes taken c.in-Ok-change.ensures.honest.0
            (λ known v' made texts.
            c.in-Ok-change.ensures.done (stored.honest known) stored.view v' layout (stored.rests known) made texts),
      ),
    )

pub returns-clause-answer : goal.returns-clause-answer
returns-clause-answer g c sure m stored =
    let few = c.in-Some.ensures.few stored.view m stored.has_view stored.shows in
    subst IsLate (sym (allowed c.args.new stored c.in-Some.ensures.room
    (small g (goal.at.returns-clause-answer g c).After-change) few c.new_record-record.ensures)) tt

crash : (g : Over) (c : After-change g) (m : Store) → Stored true g.D.Disk c.args.disk.now c.args.catalog.now m
    → Lasts g.D.Disk c.args.disk.now c.change.new.disk (ShowsEither c.args.catalog.now.layout m
    (outcome (create_refusal (at_rest m None) c.args.new) m (created_store m c.args.new)))
crash g c m stored =
    let layout : stored.view.blocks ≡ c.catalog.inside.layout =
    sym (ap (λ (k : Holding). k.layout) c.catalog.view_is ∙ c.in-Ok.ensures.taken.layout ∙ stored.has_view.blocks) in
    crash_new c.args.new stored c.in-Some.ensures.room (small g c)
    (c.in-Some.ensures.few stored.view m stored.has_view stored.shows) c.new_record-record.ensures
    (c.in-Ok.ensures.changes stored.view (sym stored.has_view.blocks) (sym stored.has_view.version)
    (sym stored.has_view.slots))
    refl
    (λ v' made texts. c.change.ensures.lasts (stored.honest refl) stored.view v' layout (stored.rests refl) made texts)

pub returns-in-Ok-change-clause-crash : goal.returns-in-Ok-change-clause-crash
returns-in-Ok-change-clause-crash g c = crash g (goal.at.returns-in-Ok-change-clause-crash g c).After-change

pub returns-clause-crash : goal.returns-clause-crash
returns-clause-crash g c = crash g (goal.at.returns-clause-crash g c).After-change

-- THE DRAFTS

pub returns-in-Ok-change-clause-fits : goal.returns-in-Ok-change-clause-fits
returns-in-Ok-change-clause-fits g c drafts fit =
    fits_created c.args.catalog.now c.prepare_new.new.self c.in-Some.slot c.new_record-record.result
    c.in-Some.ensures.room
    c.in-Ok.ensures.taken c.new_record-record.ensures.number_is drafts fit

pub returns-clause-fits : goal.returns-clause-fits
returns-clause-fits g c drafts fit =
    fits_created c.args.catalog.now c.prepare_new.new.self c.in-Some.slot c.new_record-record.result
    c.in-Some.ensures.room
    c.in-Ok.ensures.taken c.new_record-record.ensures.number_is drafts fit
