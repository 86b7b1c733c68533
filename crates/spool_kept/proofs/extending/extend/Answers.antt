use Rattle.std.proofs.Common.{◌≡◌, ◌∙◌, ℕ, List, Option, arith, inl, sym, ap, subst, refl, true, Bool}
use Rattle.spool_disk.proofs.Firm.{lasts_on, lasts_more}
use Rattle.spool_disk.specs.Views.{Lasts}
use Rattle.spool_drafts.proofs.Effects.{only}
use Rattle.spool_drafts.specs.Effect.{OnlyWrites}
use Rattle.spool_journal.specs.Image.{journal_pages}
use Rattle.spool_pages.specs.Changes.{Changes}
use Rattle.upload_rules.specs.Store.{Store, patched_store}
use Rattle.spool_kept.specs.Extending.{IsAppend, IsPending}
use Rattle.spool_catalog.specs.Longer.{HasLonger}
use Rattle.spool_catalog.specs.Holding.{Holding, FitsTogether}
use Rattle.spool_kept.specs.Stored.{ShowsEither}
use Rattle.spool_kept.proofs.slots.Extended.{before, after, after_stored, after_lasts, after_changes, after_texts}
use Rattle.spool_kept.proofs.slots.LastWritten.{shown, appended}
use Rattle.spool_kept.proofs.extending.extend.Given.{Over}
use Rattle.spool_kept.proofs.extending.extend.Goals as goal
use Rattle.spool_kept.proofs.extending.extend.Goals.{After-change}

pub write_last-requires-clause-blocks : goal.write_last-requires-clause-blocks
write_last-requires-clause-blocks g c i lt =
    let longer = c.in_ok-take_over.ensures.longer c.requires.may.used c.requires.may.there in
    let fits = subst FitsTogether c.catalog.view_is c.catalog.invariant in
    let size = (longer.rows (omega (arith, lt))).size in
    omega (
      arith,
      c.requires.reserved.below i lt,
      size,
      fits.row_count,
      ap (λ (k : Holding). k.layout)
          c.catalog.view_is,
    )

-- THE DISK

pub returns-in_err-write_last-clause-crash : goal.returns-in_err-write_last-clause-crash
returns-in_err-write_last-clause-crash g c m n declare bytes pending =
    let longer = c.in_ok-take_over.ensures.longer c.requires.may.used c.requires.may.there in
    let layout = ap (λ (k : Holding). k.layout) c.catalog.view_is ∙ longer.layout in
    let honest = pending.stored.honest in
    lasts_more (shown c.write_last.new.disk pending c.requires.reserved
    (λ known. rw (← layout) (only (c.write_last.ensures.writes (honest known)) (c.write_last.ensures.lasts
    (honest known)))) refl) (λ image shows. inl shows)

module _ (g : Over) (c : After-change g) {sure : Bool} {m : Store} {n : ℕ} {declare : Option ℕ} {bytes : List ℕ}
    (pending : IsPending sure g.D.Disk c.args.disk.now c.args.catalog.now m n declare bytes c.args.longer.now
    c.args.more.now c.args.last.now) where
  is : HasLonger c.args.catalog.now c.requires.may.used c.args.longer.now c.args.more.now c.take_over.new.self
  is = c.in_ok-take_over.ensures.longer c.requires.may.used c.requires.may.there

  layout : c.catalog.inside.layout ≡ c.args.catalog.now.layout
  layout = ap (λ (k : Holding). k.layout) c.catalog.view_is ∙ is.layout

  wrote : g.D.Disk.honest c.args.disk.now → OnlyWrites g.D.Disk (journal_pages c.args.catalog.now.layout)
      c.args.more.now
      c.args.disk.now c.write_last.new.disk
  wrote honest = rw (← layout) (only (c.write_last.ensures.writes honest) (c.write_last.ensures.lasts honest))

  append : IsAppend sure g.D.Disk c.write_last.new.disk c.args.catalog.now m n declare bytes c.args.longer.now
      c.args.more.now
  append = appended c.write_last.new.disk pending c.requires.reserved (λ known. wrote (pending.stored.honest known))
      c.write_last.ensures.honest.0
      (rw (← layout) (λ known. c.in_ok-write_last.ensures.written (pending.stored.honest known)))

  blocks : append.stored.view.blocks ≡ c.catalog.inside.layout
  blocks = sym append.stored.has_view.blocks ∙ sym layout

  changes : Changes c.fill_rows.new.pages (before c.requires.may c.requires.reserved is append)
      (after c.requires.may c.requires.reserved is append)
  changes =
      let rows : c.take_over.new.self.blocks.rows ≡ c.rows.result.now =
      ap (λ (k : Holding). k.blocks.rows) (sym c.catalog.view_is) ∙ sym c.rows.ensures.same in
      after_changes c.requires.may c.requires.reserved is append c.in_ok-pages.pages c.fill_rows.new.pages
      c.in_ok-pages.ensures.changes (λ v v' size but same. c.fill_rows.ensures.changes v v'
      (size ∙ ap (λ (k : Holding). k.layout) (sym c.catalog.view_is)) but (same ∙ rows))

  crash : sure ≡ true → Lasts g.D.Disk c.args.disk.now c.change.new.disk
      (ShowsEither c.args.catalog.now.layout m (patched_store m n declare bytes))
  crash known =
      lasts_on (lasts_more (shown c.write_last.new.disk pending c.requires.reserved
      (λ sure_is. wrote (pending.stored.honest sure_is)) known) (λ image shows. inl shows))
      (after_lasts c.requires.may c.requires.reserved is append c.change.new.disk
      (c.change.ensures.lasts (append.stored.honest known) _ _ blocks (append.stored.rests known) changes
      (after_texts c.requires.may c.requires.reserved is append known)))

pub returns-clause-crash : goal.returns-clause-crash
returns-clause-crash g c m n declare bytes pending =
    crash g (goal.at.returns-clause-crash g c).After-change pending refl

pub returns-in_err-change-clause-crash : goal.returns-in_err-change-clause-crash
returns-in_err-change-clause-crash g c m n declare bytes pending =
    crash g (goal.at.returns-in_err-change-clause-crash g c).After-change pending refl

pub returns-clause-answer : goal.returns-clause-answer
returns-clause-answer g c sure m n declare bytes pending =
    let k = (goal.at.returns-clause-answer g c).After-change in
    let now = append g k pending in
    after_stored c.requires.may c.requires.reserved (is g k pending) now c.change.new.disk
    (subst FitsTogether c.catalog.view_is c.catalog.invariant) c.in_ok-change.ensures.honest.0
    (λ known. c.in_ok-change.ensures.done (now.stored.honest known) _ _ (blocks g k pending) (now.stored.rests known)
    (changes g k pending) (after_texts c.requires.may c.requires.reserved (is g k pending) now known))

pub returns-clause-written : goal.returns-clause-written
returns-clause-written g c sure m n declare bytes pending =
    let k = (goal.at.returns-clause-written g c).After-change in
    let now = append g k pending in
    record {
      mid = c.write_last.new.disk;
      only = wrote g k pending;
      append = now;
      texts = λ known. rw (← layout g k pending) (c.in_ok-change.ensures.texts (now.stored.honest known)
          now.stored.view (blocks g k pending) (now.stored.rests known));
    }
