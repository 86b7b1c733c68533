use Rattle.std.proofs.Common.{◌≡◌, ◌∙◌, ◌≤◌, ◌+◌, ◌-◌, ◌^◌, None, Err, get_or, length, ap, refl, min}
use Rattle.std.proofs.Common.{subst, sym, true, Bool, List, Option, ℕ}
use Rattle.std.proofs.lemmas.Result.{err_from_is_err_and}
use Rattle.spool_texts.specs.Drafts.{bytes_with}
use Rattle.spool_drafts.specs.Drafts.{EndsAs, IsTailPlaced, IsWholeDraft, appended_count, list_of, offset_of, open_text}
use Rattle.spool_disk.specs.Views.{Lasts}
use Rattle.spool_journal.specs.Image.{text_page}
use Rattle.upload_rules.specs.declared.errors.UploadError.{UploadError}
use Rattle.upload_rules.specs.World.{completes, World, Patch}
use Rattle.spool_kept.specs.Committing.{IsFound, IsCommit}
use Rattle.spool_catalog.specs.Holding.{Holding}
use Rattle.spool_catalog.specs.Shows.{ImageShows}
use Rattle.spool_kept.proofs.commits.CommitEnded as lemmas
use Rattle.spool_kept.proofs.committing.ended.Given.{Over}
use Rattle.spool_kept.proofs.committing.ended.Goals as goal
use Rattle.spool_kept.proofs.committing.ended.Goals.{After-end}
use Rattle.spool_drafts.specs.declared.draft.SpoolDraft.{SpoolDraft}
use Rattle.spool_catalog.specs.contracts.catalog.Catalog.{the_view}
use Rattle.spool_kept.specs.Drafting.{OnlyReserves}
use Rattle.spool_kept.specs.Stored.{Stored}

module _ (g : Over) (c : After-end g) {sure : Bool} {drafts : List (Option SpoolDraft)} {number : ℕ} {w : World}
    {p : Patch} (is : IsCommit sure g.D.Disk c.args.disk.now c.args.catalog.now drafts number c.args.draft.now w p)
  where
    abbrev o : SpoolDraft
    o = c.args.draft.now

    abbrev o' : SpoolDraft
    o' = c.end.new.self

    only : OnlyReserves (the_view c.catalog.inside) (record (the_view c.catalog.inside) { blocks = c.end.new.blocks })
    only = lemmas.only_blocks _ c.end.new.blocks c.end.ensures.rows

    here : IsCommit sure g.D.Disk c.args.disk.now (the_view c.catalog.inside) drafts number o w p
    here = lemmas.on_unchanged c.catalog.view_is is

    found : IsFound (the_view c.catalog.inside).slots o c.args.found
    found = subst (λ (h : Holding). IsFound h.slots o c.args.found) (sym c.catalog.view_is) c.requires.found

    sum : c.saturating_add-accepted.result ≡ min (offset_of o + appended_count o) (2 ^ 64 - 1)
    sum = c.saturating_add-accepted.ensures ∙ ap (λ (n : ℕ). min (n + c.came.result) (2 ^ 64 - 1)) c.offset.ensures
        ∙ ap (λ (n : ℕ). min (offset_of o + n) (2 ^ 64 - 1)) c.came.ensures

    placed : IsTailPlaced c.catalog.inside.layout o'
    placed = lemmas.placed_still c.catalog.inside.layout o o' c.end.ensures.same.4 c.end.ensures.same.5
        (subst (λ (h : Holding). IsTailPlaced h.layout o) (sym c.catalog.view_is) c.requires.placed)

    ends : EndsAs w.store.indexes p (completes w.store p) o o' c.catalog.inside.blocks c.end.new.blocks c.end.result
    ends = lemmas.ends_as only o' here c.end.ensures.effect found sum c.is_length-completes.ensures c.end.result
        c.end.ensures.answer

    stored : Stored sure g.D.Disk c.end.new.disk (record (the_view c.catalog.inside) { blocks = c.end.new.blocks })
        w.store
    stored = lemmas.stored_after only o' here c.end.ensures.effect c.end.ensures.honest.0

    quiet : sure ≡ true
        → Lasts g.D.Disk c.args.disk.now c.end.new.disk (λ image. ImageShows c.args.catalog.now.layout image w.store)
    quiet known = rw (ap (λ (h : Holding). h.layout) c.catalog.view_is) at
        (lemmas.quiet_after only o' here c.end.ensures.effect known)

pub returns-in_err-state-clause-stored : goal.returns-in_err-state-clause-stored
returns-in_err-state-clause-stored g c sure drafts number w p is =
    stored g (goal.at.returns-in_err-state-clause-stored g c).After-end is

pub returns-in_err-state-clause-quiet : goal.returns-in_err-state-clause-quiet
returns-in_err-state-clause-quiet g c drafts number w p is =
    quiet g (goal.at.returns-in_err-state-clause-quiet g c).After-end is refl

pub returns-in_err-state-clause-answer : goal.returns-in_err-state-clause-answer
returns-in_err-state-clause-answer g c sure drafts number w p is =
    let k = (goal.at.returns-in_err-state-clause-answer g c).After-end in
    let err = err_from_is_err_and c.from_residual.result c.from_residual.ensures.1 in
    lemmas.not_ended (only g k is) c.end.new.self (here g k is) c.end.ensures.effect (placed g k is)
    c.end.ensures.reserved c.rows-rows.ensures.reserved _ c.from_residual.result c.in_err-state.field-0.0
    (err.1 ∙ ap (λ (e : UploadError). Err e) err.2) c.end.result c.in_err-state.was (ends g k is)

pub returns-clause-stored : goal.returns-clause-stored
returns-clause-stored g c sure drafts number w p is = stored g (goal.at.returns-clause-stored g c).After-end is

pub returns-clause-quiet : goal.returns-clause-quiet
returns-clause-quiet g c drafts number w p is = quiet g (goal.at.returns-clause-quiet g c).After-end is refl

pub returns-clause-answer : goal.returns-clause-answer
returns-clause-answer g c sure drafts number w p is =
    let k = (goal.at.returns-clause-answer g c).After-end in
    let end = c.in_ok-state.field-0 in
    let o = c.args.draft.now in
    let o' = c.end.new.self in
    let effect = c.end.ensures.effect in
    let whole : IsWholeDraft w.store.indexes p (completes w.store p) o' end = rw c.in_ok-state.was at (ends g k is) in
    let ends_on = lemmas.ends_on (only g k is) o' (here g k is) effect (found g k is) (sum g k is)
    c.is_length-completes.ensures c.end.result c.end.ensures.content in
    let page = text_page c.catalog.inside.layout in
    let text = open_text w.store.indexes p (completes w.store p) in
    let content : sure ≡ true → 1 ≤ length (list_of o') → bytes_with (g.D.Disk.current c.end.new.disk) page (list_of o')
    end.last.items ≡ text = λ known. rw c.in_ok-state.was at (ends_on known) in
    let came = lemmas.all_came (only g k is) o' (here g k is) effect (found g k is) (sum g k is) in (
      lemmas.allowed (only g k is) o' (here g k is) effect (placed g k is) c.end.ensures.reserved
          c.rows-rows.ensures.reserved end whole (found g k is),
      (
        came,
        lemmas.pending (only g k is) o' (here g k is) effect (placed g k is) c.end.ensures.reserved
            c.rows-rows.ensures.reserved end whole (found g k is) _ refl refl came refl refl (stored g k is)
            c.in_ok-state.ensures.fits content,
      ),
    )

-- WHATEVER THE DISK GAVE

pub returns-clause-may : goal.returns-clause-may
returns-clause-may g c =
    let has = c.requires.found.same in
    let there = ap (λ (h : Holding). get_or h.slots c.args.found.slot None) c.catalog.view_is ∙ has.there in
    lemmas.may _ c.args.found.slot c.args.found.declared c.saturating_add-accepted.result (list_of c.end.new.self) _
    has.used there (c.in_ok-state.ensures.after has.used.text_len has.used.state c.requires.found.state
    (c.requires.after has.used has.there))
